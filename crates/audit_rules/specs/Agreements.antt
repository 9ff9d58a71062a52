-- What it means that a printed run agrees with its scenario, in the field's words.
use Rattle.std.specs.Prelude.{ℕ, ◌≡◌, ◌↔◌, false, true, Bool, None, List, [], ◌∷◌, ◌++◌}
use Rattle.mdb_base.specs.declared.names.SiteId.{SiteId}
use Rattle.mdb_base.specs.declared.names.Tid.{Tid}
use Rattle.mdb_base.specs.Words.{Each}
use Rattle.fed_rules.specs.declared.commands.Line.{Line}
use Rattle.fed_rules.specs.declared.scenario.Scenario.{Scenario}
use Rattle.fed_rules.specs.Closing.{live, in_doubt_at, known}
use Rattle.fed_rules.specs.CoordPast as Coordinator
use Rattle.fed_rules.specs.Happenings.{is_down}
use Rattle.fed_rules.specs.Orders.{IsMerge}
use Rattle.fed_rules.specs.Right.{IsRightStory, story_told}
use Rattle.fed_rules.specs.Scenarios.{home_of, sites}
use Rattle.fed_rules.specs.SitePast.{trip}
use Rattle.fed_rules.specs.Story.{Story, coord_past, past_of}
use Rattle.audit_rules.specs.declared.verdict.Verdict.TheVariants.{Agrees}
use Rattle.audit_rules.specs.Agreement.{Printed, Says, Orders, Entry, due, verdict_from}
use Rattle.audit_rules.specs.Faults.{names_declared}

-- the site is up, no trip of it is armed, and nothing is live or in doubt there
pub record SiteRests (scenario : Scenario) (story : Story) (site : SiteId) : Type 0 where
  pub up : is_down (past_of site story) ≡ false
  pub untripped : trip (past_of site story) ≡ None
  pub none_live : live scenario story site ≡ []
  pub none_in_doubt : in_doubt_at (home_of scenario site) story ≡ []

-- every actor is up and no trip is armed; nothing is live, in doubt or known
pub record Rests (scenario : Scenario) (story : Story) : Type 0 where
  pub coordinator_up : is_down (coord_past story) ≡ false
  pub coordinator_untripped : Coordinator.trip (coord_past story) ≡ None
  pub none_known : known scenario story ≡ []
  pub sites : Each (SiteRests scenario story) (sites scenario)

-- printed lines are read as these lines, of which the last stands first, behind those that were read before
abbrev pub ReadsAs : {A : Type 0} → (A → Printed) → List A → List Line → List Line → Type 0
ReadsAs read [] before lines = before ≡ lines
ReadsAs read (text ∷ texts) before lines = (line : Line) × (read text ≡ Says line) × ReadsAs read texts (line ∷ before) lines

-- behind the order stands each entry that is due, and nothing more
abbrev pub IsReport : {A : Type 0} → (A → Entry → Bool) → List Entry → List A → Type 0
IsReport is [] [] = Unit {0}
IsReport is [] (text ∷ texts) = ⊥
IsReport is (entry ∷ entries) [] = ⊥
IsReport is (entry ∷ entries) (text ∷ texts) = (is text entry ≡ true) × IsReport is entries texts

-- lines of declared sites and actors, each the right one on the lines before it
pub record AreRight (scenario : Scenario) (lines : List Line) : Type 0 where
  pub declared : Each (λ line. names_declared scenario line.command ≡ true) lines
  pub right : IsRightStory scenario lines

-- printed lines, behind those that were read before, are right lines, then an order and a report: all is at rest behind the lines, the order
-- is a merge of the site orders, and the report is that of the session in this order
pub record AgreesBehind {A : Type 0} (read : A → Printed) (is : A → Entry → Bool) (scenario : Scenario) (before : List Line) (texts : List A) : Type 0 where
  pub lines : List Line  -- the last one first
  pub order : List Tid
  pub spoken : List A
  pub named : A
  pub behind : List A
  pub parts : texts ≡ spoken ++ named ∷ behind
  pub are_lines : ReadsAs read spoken before lines
  pub is_order : read named ≡ Orders order
  pub right : AreRight scenario lines
  pub rests : Rests scenario (story_told scenario lines)
  pub merge : IsMerge scenario (story_told scenario lines) order
  pub report : IsReport is (due scenario (story_told scenario lines) order) behind

-- a printed run agrees with its scenario
abbrev pub Agreement : {A : Type 0} → (A → Printed) → (A → Entry → Bool) → Scenario → List A → Type 0
Agreement read is scenario texts = AgreesBehind read is scenario [] texts

-- the computed verdict is a yes exactly there, whatever number the first line has
abbrev pub YesIsAgreement : Type 0 → Type 0
YesIsAgreement A =
    (read : A → Printed) (is : A → Entry → Bool) (scenario : Scenario) (n : ℕ) (texts : List A)
    → (verdict_from read is scenario n texts [] ≡ Agrees) ↔ Agreement read is scenario texts
