-- Where a run stands as a holder.
use Rattle.std.specs.Prelude.{ℕ}

-- a key, and the age of a run that holds it: no two unended runs are of one age
pub record Place : Type 0 where
  pub key : ℕ
  pub age : ℕ
