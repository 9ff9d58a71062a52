-- The verdict on a text: a scenario, the line `printed`, and a printed run. The lines before `printed` are read as a scenario alone.
use Rattle.std.specs.Prelude.{ℕ, suc, Bool, ◌&&◌, cond, codes, Option, Some, None, List, [], ◌∷◌, ◌++◌, length, Result, Ok, Err}
use Rattle.std.specs.List.{flat_map}
use Rattle.std.specs.Str.{bytes_eq}
use Rattle.mdb_base.specs.Words.{map_some}
use Rattle.fed_rules.specs.Plans.{Plan}
use Rattle.scenario_text.specs.declared.bad.BadLine.{BadLine}
use Rattle.scenario_text.specs.Pieces.{TextLine, lines}
use Rattle.scenario_text.specs.Texts.{scenario_of}
use Rattle.audit_rules.specs.declared.verdict.Verdict.{Verdict}
use Rattle.audit_rules.specs.declared.verdict.Verdict.TheVariants.{Differs}
use Rattle.audit_rules.specs.declared.verdict.What.TheVariants as Fails
use Rattle.audit_rules.specs.Agreement.{verdict_from}
use Rattle.audit_text.specs.Lines.{printed_in, is_entry}

-- whether the line is `printed`
abbrev pub is_mark : TextLine → Bool
is_mark line = line.ended && bytes_eq line.bytes (codes "printed")

-- the lines before `printed`, and those behind it
unfoldable pub cut_printed : List TextLine → Option (List TextLine × List TextLine)
cut_printed [] = None
cut_printed (line ∷ more) = cond (is_mark line) (Some ([], more)) (map_some (λ parts. (line ∷ parts.0, parts.1)) (cut_printed more))

-- the bytes of lines, each with its line feed
abbrev pub text_of : List TextLine → List ℕ
text_of = flat_map (λ line. line.bytes ++ 10 ∷ [])

-- what is made of a scenario, or its first bad line
abbrev pub audited : {A : Type 0} → Result Plan BadLine → (Plan → A) → Result A BadLine
audited (Ok scenario) verdict = Ok (verdict scenario)
audited (Err bad) verdict = Err bad

-- the verdict on a printed run, whose first line has this number
abbrev pub run_verdict : ℕ → List TextLine → Plan → Verdict
run_verdict number printed scenario = verdict_from printed_in is_entry scenario number printed []

-- the verdict, or the first bad line of the scenario; a line `printed` that is missing is missing behind the last line
abbrev pub verdict_by : List ℕ → Option (List TextLine × List TextLine) → Result Verdict BadLine
verdict_by text None = audited (scenario_of text) (λ scenario. Differs (suc (length (lines text))) Fails.Form)
verdict_by text (Some parts) = audited (scenario_of (text_of parts.0)) (run_verdict (suc (suc (length parts.0))) parts.1)

-- the verdict on a text
unfoldable pub audit_of : List ℕ → Result Verdict BadLine
audit_of text = verdict_by text (cut_printed (lines text))
