-- What it means that a line is the first bad one of a text: the lines before it are read, and it fails behind them for its reason.
use Rattle.std.specs.Prelude.{ℕ, suc, ◌≡◌, Bool, List, ◌∷◌, ◌++◌, length, Ok, Err}
use Rattle.scenario_text.specs.declared.bad.BadLine.{BadLine}
use Rattle.scenario_text.specs.declared.bad.TextErr.{TextErr}
use Rattle.scenario_text.specs.declared.bad.TextErr.TheVariants as errors
use Rattle.scenario_text.specs.declared.draft.Draft.{Draft}
use Rattle.scenario_text.specs.Drafts.{no_draft}
use Rattle.scenario_text.specs.Pieces.{TextLine, lines}
use Rattle.scenario_text.specs.Texts.{with_line, with_lines}

-- the line of this number, counted from 1, is the first that can't be taken, for this reason
pub record IsFirstBad (with_commands : Bool) (text : List ℕ) (bad : BadLine) : Type 0 where
  pub before : List TextLine
  pub line : TextLine
  pub behind : List TextLine
  pub draft : Draft
  pub parts : lines text ≡ before ++ line ∷ behind
  pub counted : bad.line ≡ suc (length before)
  pub read : with_lines with_commands 1 before no_draft ≡ Ok draft
  pub refused : with_line with_commands line draft ≡ Err bad.why

-- a refusal names the first bad line, unless memory ran out
abbrev pub NamesFirstBad : (with_commands : Bool) → List ℕ → TextErr → Type 0
NamesFirstBad with_commands text (errors.Bad bad) = IsFirstBad with_commands text bad
NamesFirstBad with_commands text errors.Memory = Unit {0}
