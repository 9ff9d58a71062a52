-- Rules of an audit that look right and aren't: what each takes for right that isn't, or names in place of the first that fails.
use Rattle.std.specs.Prelude.{ℕ, suc, ◌≡◌, ◌+◌, ◌-◌, Bool, true, false, not, ◌&&◌, Option, Some, None, List, [], ◌∷◌}
use Rattle.mdb_base.specs.declared.names.SiteId.{SiteId}
use Rattle.mdb_base.specs.declared.names.Tid.{Tid}
use Rattle.mdb_base.specs.declared.replies.Edge.{Edge}
use Rattle.mdb_base.specs.Names.{same_tid}
use Rattle.mdb_base.specs.Words.{each_of, some_of, those, when, is_empty}
use Rattle.order_laws.specs.Merge as merge
use Rattle.order_laws.specs.Orders.{is_in}
use Rattle.order_laws.specs.Tickets.{Ticketed, IsCycle}
use Rattle.fed_rules.specs.declared.commands.Line.{Line}
use Rattle.fed_rules.specs.declared.scenario.Scenario.{Scenario}
use Rattle.fed_rules.specs.Closing.{live, in_doubt_at, known}
use Rattle.fed_rules.specs.Happenings.{is_down}
use Rattle.fed_rules.specs.Right.{IsNext}
use Rattle.fed_rules.specs.Scenarios.{home_of, sites}
use Rattle.fed_rules.specs.Story.{Story, tell, answer_of, places_of, coord_past, past_of}
use Rattle.audit_rules.specs.declared.verdict.Verdict.{Verdict}
use Rattle.audit_rules.specs.declared.verdict.Verdict.TheVariants.{Agrees, Differs}
use Rattle.audit_rules.specs.declared.verdict.What.{What}
use Rattle.audit_rules.specs.declared.verdict.What.TheVariants as Fails
use Rattle.audit_rules.specs.Agreement.{Printed, Says, Orders, Neither, unless_fault, verdict_at_order, verdict_from}
use Rattle.audit_rules.specs.Agreements.{Rests}
use Rattle.audit_rules.specs.Differences.{DiffersBehind, FailsAsLine}
use Rattle.audit_rules.specs.Faults.{fault_of, is_edge, names_declared}
use Rattle.audit_rules.specs.Same.{same_answer, same_places}

-- ---- cycles

-- by this test some edges are a cycle through the attempt, and they aren't
pub record TakesForACycle (test : List Ticketed → Tid → List Edge → Bool) : Type 0 where
  pub attempts : List Ticketed
  pub tid : Tid
  pub edges : List Edge
  pub passed : test attempts tid edges ≡ true
  pub none : IsCycle attempts tid edges → ⊥

-- whether the first edge leaves the attempt, and each enters the one that the next leaves
abbrev pub goes_on : Tid → List Edge → Bool
goes_on tid [] = true
goes_on tid (edge ∷ edges) = same_tid edge.from tid && goes_on edge.to edges

-- that an edge closes the cycle isn't asked
abbrev pub without_closing_edge : List Ticketed → Tid → List Edge → Bool
without_closing_edge attempts tid [] = false
without_closing_edge attempts tid (edge ∷ edges) = each_of (is_edge attempts) (edge ∷ edges) && goes_on tid (edge ∷ edges)

-- ---- lines

-- by these reasons some line that is the next one, of declared sites and actors, has a fault
pub record FaultsTheNextLine (reason : Scenario → Story → Line → Option What) : Type 0 where
  pub scenario : Scenario
  pub story : Story
  pub line : Line
  pub declared : names_declared scenario line.command ≡ true
  pub next : IsNext scenario story line
  pub faulted : reason scenario story line ≡ None → ⊥

-- answers are compared whole, with the edges of a cycle
abbrev pub whole_answers : Scenario → Story → Line → Option What
whole_answers scenario story line =
    let happened = (tell scenario story line.command).happened in
    when (not (same_answer line.answer (answer_of happened))) (Some Fails.Answer) (fault_of scenario story line)

-- by these reasons some line fails for another one than the first that fits
pub record NamesALaterReason (reason : Scenario → Story → Line → Option What) : Type 0 where
  pub scenario : Scenario
  pub story : Story
  pub line : Line
  pub what : What
  pub named : reason scenario story line ≡ Some what
  pub wrong : FailsAsLine scenario story line what → ⊥

-- the places are compared first
abbrev pub places_first : Scenario → Story → Line → Option What
places_first scenario story line =
    let happened = (tell scenario story line.command).happened in
    when (not (same_places line.sends (places_of story happened))) (Some Fails.Places) (fault_of scenario story line)

-- ---- the end of the lines

-- by this test some story rests that doesn't
pub record TakesForRest (test : Scenario → Story → Bool) : Type 0 where
  pub scenario : Scenario
  pub story : Story
  pub passed : test scenario story ≡ true
  pub unrest : Rests scenario story → ⊥

-- armed trips are overlooked
abbrev pub site_rests_armed : Scenario → Story → SiteId → Bool
site_rests_armed scenario story site =
    not (is_down (past_of site story)) && is_empty (live scenario story site) && is_empty (in_doubt_at (home_of scenario site) story)

abbrev pub rests_armed : Scenario → Story → Bool
rests_armed scenario story =
    not (is_down (coord_past story)) && is_empty (known scenario story) && each_of (site_rests_armed scenario story) (sites scenario)

-- by this test some order is a merge of these and isn't
pub record TakesForAMerge (test : List (List Tid) → List Tid → Bool) : Type 0 where
  pub orders : List (List Tid)
  pub order : List Tid
  pub passed : test orders order ≡ true
  pub none : merge.IsMerge same_tid orders order → ⊥

-- whether the first list is the second one with some items left out
abbrev pub is_part : List Tid → List Tid → Bool
is_part [] ts = true
is_part (s ∷ ss) [] = false
is_part (s ∷ ss) (t ∷ ts) = is_part (when (same_tid s t) ss (s ∷ ss)) ts

-- whether it names members in their order and nothing else; that it names each isn't asked
abbrev pub names_some : List (List Tid) → List Tid → Bool
names_some orders order =
    each_of (λ ts. is_part (those (is_in same_tid ts) order) ts) orders && each_of (λ t. some_of (λ ts. is_in same_tid ts t) orders) order

-- whether it names each member, in its order, and nothing else; that it names each once isn't asked
abbrev pub names_again : List (List Tid) → List Tid → Bool
names_again orders order = each_of (λ ts. is_part ts order) orders && each_of (λ t. some_of (λ ts. is_in same_tid ts t) orders) order

-- ---- verdicts

-- by these verdicts on what is read of printed lines, of which the first has the number 1, a line is named that isn't the first that fails; none of
-- the lines is one of a report
pub record NamesAnotherLine (verdict : Scenario → ℕ → List Printed → Verdict) : Type 0 where
  pub scenario : Scenario
  pub texts : List Printed
  pub line : ℕ
  pub what : What
  pub named : verdict scenario 1 texts ≡ Differs line what
  pub wrong : (place : ℕ) → line ≡ 1 + place → DiffersBehind (λ printed. printed) (λ printed entry. false) scenario [] texts place what → ⊥

-- lines are counted from 0
abbrev pub counted_from_zero : Scenario → ℕ → List Printed → Verdict
counted_from_zero scenario n texts = verdict_from (λ printed. printed) (λ printed entry. false) scenario (n - 1) texts []

-- of two verdicts the later one, where it finds a fault
abbrev pub later_fault : Verdict → Verdict → Verdict
later_fault first (Differs n what) = Differs n what
later_fault first Agrees = first

-- where two lines fail the first is passed over
abbrev pub last_fault_behind : Scenario → ℕ → List Printed → Story → Verdict
last_fault_behind scenario n [] story = Differs n Fails.Form
last_fault_behind scenario n (Says line ∷ texts) story =
    unless_fault n (fault_of scenario story line) (last_fault_behind scenario (suc n) texts) (tell scenario story line.command ∷ story)
last_fault_behind scenario n (Orders order ∷ texts) story = verdict_at_order (λ printed entry. false) scenario n order texts story
last_fault_behind scenario n (Neither ∷ texts) story = later_fault (Differs n Fails.Form) (last_fault_behind scenario (suc n) texts story)

abbrev pub last_fault : Scenario → ℕ → List Printed → Verdict
last_fault scenario n texts = last_fault_behind scenario n texts []
