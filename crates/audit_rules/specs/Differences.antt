-- Where a printed run differs first, and why: the lines before are read and right, and behind them something fails.
use Rattle.std.specs.Prelude.{ℕ, zero, suc, ◌+◌, ◌≡◌, ◌⊎◌, Bool, true, false, List, [], ◌∷◌, ◌++◌, length}
use Rattle.mdb_base.specs.declared.names.Tid.{Tid}
use Rattle.fed_rules.specs.declared.commands.Line.{Line}
use Rattle.fed_rules.specs.declared.scenario.Scenario.{Scenario}
use Rattle.fed_rules.specs.Orders.{IsMerge}
use Rattle.fed_rules.specs.Right.{IsAnswer, story_told}
use Rattle.fed_rules.specs.Scenarios.{protocols}
use Rattle.fed_rules.specs.Story.{Story, tell, answer_of, places_of}
use Rattle.audit_rules.specs.declared.verdict.Verdict.TheVariants.{Differs}
use Rattle.audit_rules.specs.declared.verdict.What.{What}
use Rattle.audit_rules.specs.declared.verdict.What.TheVariants as Fails
use Rattle.audit_rules.specs.Agreement.{Printed, Says, Orders, Neither, Entry, due, what_of, verdict_from}
use Rattle.audit_rules.specs.Agreements.{AreRight, ReadsAs, Rests}
use Rattle.audit_rules.specs.Faults.{compared, names_declared}

-- the answer is that of the story, but for the edges of a cycle where one is due
abbrev pub AnswersAlike : Scenario → Story → Line → Type 0
AnswersAlike scenario story line =
    let happened = (tell scenario story line.command).happened in compared happened line.answer ≡ compared happened (answer_of happened)

-- of a report, which is due, the line with this number, from 0, is the first that doesn't stand: another one stands there, it is missing, or it
-- is one more
abbrev pub FailsInReport : {A : Type 0} → (A → Entry → Bool) → List Entry → List A → ℕ → What → Type 0
FailsInReport is [] [] k what = ⊥
FailsInReport is [] (text ∷ texts) k what = (k ≡ 0) × (what ≡ Fails.Form)
FailsInReport is (entry ∷ entries) [] k what = (k ≡ 0) × (what ≡ Fails.Form)
FailsInReport is (entry ∷ entries) (text ∷ texts) zero what = (is text entry ≡ false) × (what ≡ what_of entry)
FailsInReport is (entry ∷ entries) (text ∷ texts) (suc k) what = (is text entry ≡ true) × FailsInReport is entries texts k what

-- at the order something is open, or it is no merge, or the report behind it fails
abbrev pub FailsAtOrder : {A : Type 0} → (A → Entry → Bool) → Scenario → Story → List Tid → List A → ℕ → What → Type 0
FailsAtOrder is scenario story order behind zero what =
    ((Rests scenario story → ⊥) × (what ≡ Fails.Open)) ⊎ (Rests scenario story × (IsMerge scenario story order → ⊥) × (what ≡ Fails.Order))
FailsAtOrder is scenario story order behind (suc k) what =
    Rests scenario story × IsMerge scenario story order × FailsInReport is (due scenario story order) behind k what

-- the line isn't the next one of the story, and this is the first reason that fits: it names a site or actor that isn't declared; its answer is
-- another one, but for the edges of a cycle where one is due; its places are others; or the edges that it names are no cycle that may stand there
abbrev pub FailsAsLine : Scenario → Story → Line → What → Type 0
FailsAsLine scenario story line Fails.Form = names_declared scenario line.command ≡ false
FailsAsLine scenario story line Fails.Answer = (names_declared scenario line.command ≡ true) × (AnswersAlike scenario story line → ⊥)
FailsAsLine scenario story line Fails.Places =
    (names_declared scenario line.command ≡ true) × AnswersAlike scenario story line
    × (line.sends ≡ places_of story (tell scenario story line.command).happened → ⊥)
FailsAsLine scenario story line Fails.Cycle =
    (names_declared scenario line.command ≡ true) × AnswersAlike scenario story line
    × (line.sends ≡ places_of story (tell scenario story line.command).happened)
    × (IsAnswer (protocols scenario) story (tell scenario story line.command).happened line.answer → ⊥)
FailsAsLine scenario story line what = ⊥

-- what is read of a line fails
abbrev pub FailsHere : {A : Type 0} → (A → Entry → Bool) → Scenario → Story → Printed → List A → ℕ → What → Type 0
FailsHere is scenario story (Says line) behind k what = (k ≡ 0) × FailsAsLine scenario story line what
FailsHere is scenario story (Orders order) behind k what = FailsAtOrder is scenario story order behind k what
FailsHere is scenario story Neither behind k what = (k ≡ 0) × (what ≡ Fails.Form)

-- there is no further line, though no order stood yet, or the next one fails
abbrev pub FailsNext : {A : Type 0} → (A → Printed) → (A → Entry → Bool) → Scenario → Story → List A → ℕ → What → Type 0
FailsNext read is scenario story [] k what = (k ≡ 0) × (what ≡ Fails.Form)
FailsNext read is scenario story (text ∷ behind) k what = FailsHere is scenario story (read text) behind k what

-- the printed line so many behind these is the first that fails, for this reason
pub record DiffersBehind {A : Type 0} (read : A → Printed) (is : A → Entry → Bool) (scenario : Scenario) (before : List Line) (texts : List A) (place : ℕ) (what : What) : Type 0 where
  pub lines : List Line  -- the last one first
  pub spoken : List A
  pub left : List A
  pub parts : texts ≡ spoken ++ left
  pub are_lines : ReadsAs read spoken before lines
  pub right : AreRight scenario lines
  pub within : ℕ
  pub fails : FailsNext read is scenario (story_told scenario lines) left within what
  pub place_is : place ≡ length spoken + within

-- where a verdict names a line, it is the first that fails, and for the reason
abbrev pub NamesFirst : Type 0 → Type 0
NamesFirst A =
    (read : A → Printed) (is : A → Entry → Bool) (scenario : Scenario) (n : ℕ) (texts : List A) (line : ℕ) (what : What)
    → verdict_from read is scenario n texts [] ≡ Differs line what
    → (place : ℕ) × (line ≡ n + place) × DiffersBehind read is scenario [] texts place what
