-- Lines, taken one after another.
use Rattle.std.proofs.Common.{◌≡◌, ℕ, suc, ◌+◌, Bool, List, [], ◌∷◌, ◌++◌, length, Result, Ok, Err, refl, sym, ap, ◌∙◌, arith}
use Rattle.scenario_text.specs.declared.bad.BadWhy.{BadWhy}
use Rattle.scenario_text.specs.declared.bad.BadLine.{BadLine}
use Rattle.scenario_text.specs.declared.bad.TextErr.{TextErr}
use Rattle.scenario_text.specs.declared.bad.TextErr.TheVariants as errors
use Rattle.scenario_text.specs.declared.fault.Fault.{Fault}
use Rattle.scenario_text.specs.declared.fault.Fault.TheVariants as faults
use Rattle.scenario_text.specs.declared.draft.Draft.{Draft}
use Rattle.scenario_text.specs.Pieces.{TextLine, pieces, as_lines, lines}
use Rattle.scenario_text.specs.Reads.{Fails}
use Rattle.scenario_text.specs.Texts.{Answers, at_line, with_line, with_lines, numbered, draft_of}
use Rattle.scenario_text.specs.Drafts.{no_draft}
use Rattle.scenario_text.specs.FirstBad.{IsFirstBad, NamesFirstBad}

-- one line more
pub line_taken : (with_commands : Bool) (number : ℕ) (line : TextLine) (rest : List TextLine) (d e : Draft)
    → with_line with_commands line d ≡ Ok e → with_lines with_commands number (line ∷ rest) d ≡ with_lines with_commands (suc number) rest e
unfolding with_lines
line_taken with_commands number line rest d e h = ap (λ r. numbered number r (with_lines with_commands (suc number) rest)) h

-- a line that isn't taken
pub line_failed : (with_commands : Bool) (number : ℕ) (line : TextLine) (rest : List TextLine) (d : Draft) (fault : Fault)
    → Fails fault (with_line with_commands line d) → Answers {A = Draft} (Err (at_line number fault)) (with_lines with_commands number (line ∷ rest) d)
unfolding with_lines
line_failed with_commands number line rest d (faults.Bad why) h = ap (λ r. numbered number r (with_lines with_commands (suc number) rest)) h
line_failed with_commands number line rest d faults.Memory h = tt

-- no line is left
pub lines_end : (with_commands : Bool) (number : ℕ) (text : List ℕ) (d : Draft) → length text ≡ 0 → with_lines with_commands number (lines text) d ≡ Ok d
unfolding lines pieces as_lines with_lines
lines_end with_commands number [] d h = refl
lines_end with_commands number (b ∷ bs) d h = absurd (omega arith)

-- ---- the first line that is refused

-- a bad line among these ones, the first of which has this number
pub record FailsFirst (with_commands : Bool) (number : ℕ) (lines : List TextLine) (d : Draft) (bad : BadLine) : Type 0 where
  pub before : List TextLine
  pub line : TextLine
  pub behind : List TextLine
  pub draft : Draft
  pub parts : lines ≡ before ++ line ∷ behind
  pub counted : bad.line ≡ number + length before
  pub read : with_lines with_commands number before d ≡ Ok draft
  pub refused : with_line with_commands line draft ≡ Err bad.why

abbrev refusal : BadLine → Result Draft BadLine
refusal bad = Err bad

same_bad : (a b : BadLine) → refusal a ≡ refusal b → a ≡ b
same_bad a b e = cc

number_is : (n : ℕ) → n ≡ n + 0
number_is n = omega arith

fails : (with_commands : Bool) (number : ℕ) (line : TextLine) (lines : List TextLine) (d : Draft) (bad : BadLine) (r : Result Draft BadWhy) → with_line with_commands line d ≡ r
    → ((e : Draft) → with_lines with_commands (suc number) lines e ≡ Err bad → FailsFirst with_commands (suc number) lines e bad)
    → numbered number r (with_lines with_commands (suc number) lines) ≡ Err bad → FailsFirst with_commands number (line ∷ lines) d bad
unfolding with_lines
fails with_commands number line lines d bad (Ok e) here later h =
    let f = later e h in
    record {
      before = line ∷ f.before;
      line = f.line;
      behind = f.behind;
      draft = f.draft;
      parts = ap (λ ls. line ∷ ls) f.parts;
      counted = omega (arith, f.counted);
      read = ap (λ r. numbered number r (with_lines with_commands (suc number) f.before)) here ∙ f.read;
      refused = f.refused;
    }
fails with_commands number line lines d bad (Err why) here later h =
    let same = same_bad (record { line = number; why = why }) bad h in
    record {
      before = [];
      line = line;
      behind = lines;
      draft = d;
      parts = refl;
      counted = sym (ap (λ b. b.line) same) ∙ number_is number;
      read = refl;
      refused = here ∙ ap (λ b. Err b.why) same;
    }

pub fails_first : (with_commands : Bool) (number : ℕ) (lines : List TextLine) (d : Draft) (bad : BadLine) → with_lines with_commands number lines d ≡ Err bad → FailsFirst with_commands number lines d bad
unfolding with_lines
fails_first with_commands number [] d bad h = absurd cc
fails_first with_commands number (line ∷ lines) d bad h =
    fails with_commands number line lines d bad (with_line with_commands line d) refl (λ e k. fails_first with_commands (suc number) lines e bad k) h

-- the bad line of a text is its first one
pub bad_is_first : (with_commands : Bool) (text : List ℕ) (bad : BadLine) → draft_of with_commands text ≡ Err bad → IsFirstBad with_commands text bad
unfolding draft_of
bad_is_first with_commands text bad h =
    let f = fails_first with_commands 1 (lines text) no_draft bad h in
    record { before = f.before; line = f.line; behind = f.behind; draft = f.draft; parts = f.parts; counted = omega (arith, f.counted); read = f.read; refused = f.refused }

pub error_names_first : (with_commands : Bool) (text : List ℕ) (e : TextErr) → Answers {A = Draft} (Err e) (draft_of with_commands text) → NamesFirstBad with_commands text e
error_names_first with_commands text (errors.Bad bad) h = bad_is_first with_commands text bad h
error_names_first with_commands text errors.Memory h = tt
