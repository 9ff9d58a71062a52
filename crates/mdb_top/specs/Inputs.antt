-- The input that a source gives, and what reading it answers.
use Rattle.std.specs.Prelude.{ℕ, ◌≡◌, Bool, IsTrue, List, Result, Ok, Err}
use Rattle.mdb_top.specs.declared.input.Unplayed.{Unplayed}
use Rattle.mdb_top.specs.declared.input.Unplayed.TheVariants as Why
use Rattle.mdb_top.specs.Verdicts.{Verdict, TooLong, BadInput, Spells}

-- the fact holds of some input; where the source tells the bytes that were left, the input is those
pub record SomeInput (tells : Bool) (left : List ℕ) (P : List ℕ → Type 0) : Type 0 where
  pub input : List ℕ
  pub told : IsTrue tells → input ≡ left
  pub holds : P input

-- what the input spells, or why there is nothing; a failed read and want of memory say nothing of the input
abbrev pub Tells : {X : Type 0} → Result X Unplayed → Verdict X → Type 0
Tells (Ok x) verdict = verdict ≡ Spells x
Tells (Err Why.TooLong) verdict = verdict ≡ TooLong
Tells (Err (Why.BadLine bad)) verdict = verdict ≡ BadInput bad
Tells (Err Why.Failed) verdict = Unit {0}
Tells (Err Why.Memory) verdict = Unit {0}

-- the answer is of an input that was read; where memory was wanting it may have been or not
abbrev pub WasRead : {X : Type 0} → Result X Unplayed → Type 0
WasRead (Ok x) = Unit {0}
WasRead (Err Why.TooLong) = Unit {0}
WasRead (Err (Why.BadLine bad)) = Unit {0}
WasRead (Err Why.Failed) = ⊥
WasRead (Err Why.Memory) = ⊥
