-- What the front of an input that is read says of the whole.
use Rattle.std.proofs.Common.{◌≡◌, ℕ, ◌+◌, ◌<◌, ◌≤◌, ◌⊎◌, inl, inr, Bool, true, false, IsTrue, List, length, take, refl, sym, ◌∙◌, ap, subst, Result, arith}
use Rattle.std.proofs.lemmas.List.{take_all, length-take-le}
use Rattle.std.proofs.lemmas.Bool.{cases_lt, lt-ltb, le-ltb, cond-true, cond-false}
use Rattle.scenario_text.specs.declared.bad.BadLine.{BadLine}
use Rattle.mdb_top.specs.declared.input.Unplayed.{Unplayed}
use Rattle.mdb_top.specs.Inputs.{SomeInput, Tells}
use Rattle.mdb_top.specs.Streams.{longest}
use Rattle.mdb_top.specs.Verdicts.{TooLong, verdict_on, verdict}

-- a front that is not the whole is longer than the limit, as the whole is
pub front_or_longer : (m : ℕ) (bytes : List ℕ) → (take (m + 1) bytes ≡ bytes) ⊎ ((m < length bytes) × (m < length (take (m + 1) bytes)))
front_or_longer m bytes = by_order (cases_lt (m + 1) (length bytes))
  where
    by_order : (m + 1 < length bytes) ⊎ (length bytes ≤ m + 1) → (take (m + 1) bytes ≡ bytes) ⊎ ((m < length bytes) × (m < length (take (m + 1) bytes)))
    by_order (inr le) = inl (take_all (m + 1) bytes le)
    by_order (inl more) =
        let all : m + 1 ≤ length bytes = omega arith in
        let taken = length-take-le (m + 1) bytes all in
        inr (omega arith, omega (arith, taken))

module _ {X : Type 0} (reads : List ℕ → Result X BadLine) where
  -- more bytes than the limit, and no more
  pub verdict-long : (bytes : List ℕ) → longest < length bytes → verdict reads bytes ≡ TooLong
  verdict-long bytes more = cond-true _ _ _ (lt-ltb longest (length bytes) more)

  pub verdict-short : (bytes : List ℕ) (read : Result X BadLine) → length bytes ≤ longest → reads bytes ≡ read → verdict reads bytes ≡ verdict_on read
  verdict-short bytes read few e = cond-false _ _ _ (le-ltb longest (length bytes) few) ∙ ap verdict_on e

  -- the front that is read has the verdict of the whole
  verdict-front : (bytes : List ℕ) → verdict reads (take (longest + 1) bytes) ≡ verdict reads bytes
  verdict-front bytes = elim (front_or_longer longest bytes) [
    | inl same ↦ ap (verdict reads) same
    | inr more ↦ verdict-long (take (longest + 1) bytes) more.1 ∙ sym (verdict-long bytes more.0)
  ]

  -- the input is all that was left, or where nothing is told the bytes that came
  pub read_input : (tells : Bool) (left bytes : List ℕ) (read : Result X Unplayed) → (IsTrue tells → bytes ≡ take (longest + 1) left) → Tells read (verdict reads bytes)
      → SomeInput tells left (λ input. Tells read (verdict reads input))
  read_input true left bytes read e h = record { input = left; told = (λ t. refl); holds = subst (Tells read) (ap (verdict reads) (e refl) ∙ verdict-front left) h }
  read_input false left bytes read e h = record { input = bytes; told = (λ t. absurd cc); holds = h }
