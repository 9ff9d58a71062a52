-- A ranking of attempts that looks right and isn't: by transaction alone.
use Rattle.std.specs.Prelude.{Bool, nat_lt}
use Rattle.mdb_base.specs.declared.names.Tid.{Tid}

-- whether the one is of a transaction with a lesser number
abbrev pub of_lesser_transaction : Tid → Tid → Bool
of_lesser_transaction a b = nat_lt a.tx.0 b.tx.0
