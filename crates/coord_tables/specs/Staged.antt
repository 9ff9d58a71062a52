-- The map that the stages are kept in.
use Rattle.std.specs.Prelude.{ℕ, ◌≡◌, List, nat_eq}
use Rattle.std.specs.List.{IsDistinct}
use Rattle.std.specs.Map.{keys_of}
use Rattle.mdb_base.specs.Words.{Each}
use Rattle.coord_tables.specs.declared.stages.Stage.{Stage}

-- each stage stands at the number of its transaction, and no transaction has two
pub record AreStaged (entries : List (ℕ × Stage)) : Type 0 where
  pub keyed : Each (λ entry. entry.0 ≡ entry.1.tid.tx.0) entries
  pub apart : IsDistinct nat_eq (keys_of entries)
