-- What an audit answers: the defined verdict, or why there is none.
use Rattle.std.specs.Prelude.{ℕ, suc, ◌≡◌, ◌<◌, ◌+◌, ◌^◌, Option, Some, None, List, length, Result, Ok, Err}
use Rattle.std.specs.Borrow.{Bor}
use Rattle.fed_rules.specs.declared.commands.Command.{Command}
use Rattle.fed_rules.specs.declared.scenario.Scenario.{Scenario}
use Rattle.fed_rules.specs.Plans.{Plan}
use Rattle.fed_rules.specs.Story.{story_of}
use Rattle.scenario_text.specs.declared.bad.TextErr.{TextErr}
use Rattle.scenario_text.specs.declared.bad.TextErr.TheVariants as Text_err
use Rattle.scenario_text.specs.Pieces.{TextLine, lines}
use Rattle.scenario_text.specs.Texts.{scenario_of}
use Rattle.audit_rules.specs.declared.verdict.Verdict.{Verdict}
use Rattle.audit_rules.specs.declared.verdict.Verdict.TheVariants.{Agrees, Differs}
use Rattle.audit_rules.specs.declared.verdict.What.TheVariants as Fails
use Rattle.audit_rules.specs.Agreement.{verdict_from}
use Rattle.audit_rules.specs.Audited.{Audited}
use Rattle.audit_text.specs.Lines.{printed_in, is_entry}
use Rattle.audit_text.specs.Texts.{audit_of, cut_printed, run_verdict, text_of}
use Rattle.run_audit.specs.declared.errors.AuditErr.{AuditErr}
use Rattle.run_audit.specs.declared.errors.AuditErr.TheVariants as Audit_err
use Rattle.run_audit.specs.declared.submitted.Submitted.{Submitted}

-- the verdict on a text behind these commands, of which the first line has this number
abbrev pub verdict_behind : ℕ → List ℕ → Scenario → List Command → Verdict
verdict_behind number text scenario commands = verdict_from printed_in is_entry scenario number (lines text) (story_of scenario commands)

-- the numbers of the commands of all lines fit
abbrev pub WillFit : List ℕ → Scenario → List Command → Type 0
WillFit text scenario commands = length commands + length text < 2 ^ 30

-- the verdict on what was handed in
abbrev pub verdict_by : Option (Bor (List ℕ)) → ℕ → Plan → Verdict
verdict_by None count scenario = Differs (suc count) Fails.Form
verdict_by (Some printed) count scenario = run_verdict (suc (suc count)) (lines printed.now) scenario

abbrev pub verdict_of : Submitted → Verdict
verdict_of handed = verdict_by handed.printed handed.lines handed.scenario

-- the numbers of its lines fit
abbrev pub is_short : Option (Bor (List ℕ)) → ℕ → Type 0
is_short None count = count < 2 ^ 29
is_short (Some printed) count = count + length printed.now < 2 ^ 29

abbrev pub IsShort : Submitted → Type 0
IsShort handed = is_short handed.printed handed.lines

-- the text behind the line `printed`, where there is that line, stands behind the lines that spell the scenario
abbrev pub StandsBehind : List ℕ → Plan → Option (Bor (List ℕ)) → Type 0
StandsBehind text scenario None = Unit {0}
StandsBehind text scenario (Some printed) =
    (before : List TextLine) × (cut_printed (lines text) ≡ Some (before, lines printed.now)) × (scenario_of (text_of before) ≡ Ok scenario)

-- what is handed in has the defined verdict of the text, and is made of its parts
pub record IsHanded (handed : Submitted) (text : List ℕ) : Type 0 where
  pub verdict : audit_of text ≡ Ok (verdict_of handed)
  pub behind : StandsBehind text handed.scenario handed.printed

-- so it is, or the text has a first bad line
abbrev pub Hands : Result Submitted TextErr → List ℕ → Type 0
Hands (Ok handed) text = IsHanded handed text
Hands (Err (Text_err.Bad bad)) text = audit_of text ≡ Err bad
Hands (Err Text_err.Memory) text = Unit {0}

-- the printed run that is handed in is audited
abbrev pub RunIsAudited : Plan → Option (Bor (List ℕ)) → Type 0
RunIsAudited scenario None = ⊥
RunIsAudited scenario (Some printed) = Audited printed_in is_entry scenario (lines printed.now)

-- the verdict is the defined one, or the first bad line of the scenario; a failed disk call and want of memory say nothing of the text
abbrev pub Answers : Result Verdict AuditErr → List ℕ → Type 0
Answers (Ok verdict) text = audit_of text ≡ Ok verdict
Answers (Err (Audit_err.Bad bad)) text = audit_of text ≡ Err bad
Answers (Err (Audit_err.Disk number)) text = Unit {0}
Answers (Err Audit_err.Memory) text = Unit {0}

-- the text is refused with a bad line of its scenario
abbrev pub IsRefused : Result Verdict AuditErr → Type 0
IsRefused (Ok verdict) = ⊥
IsRefused (Err (Audit_err.Bad bad)) = Unit {0}
IsRefused (Err (Audit_err.Disk number)) = ⊥
IsRefused (Err Audit_err.Memory) = ⊥

-- the lines before `printed` spell a scenario, and the printed run behind it agrees with it, so it has the headline with its printed order
pub record AgreesWhole (text : List ℕ) : Type 0 where
  pub scenario : Plan
  pub before : List TextLine
  pub printed : List TextLine
  pub cut : cut_printed (lines text) ≡ Some (before, printed)
  pub spelled : scenario_of (text_of before) ≡ Ok scenario
  pub audited : Audited printed_in is_entry scenario printed

-- a yes implies it
abbrev pub YesImplies : Result Verdict AuditErr → List ℕ → Type 0
YesImplies (Ok Agrees) text = AgreesWhole text
YesImplies result text = Unit {0}
