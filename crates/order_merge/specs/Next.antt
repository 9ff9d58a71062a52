-- The next member of a merge.
use Rattle.std.specs.Prelude.{◌≡◌, Bool, true, false, Option, Some, None, List}
use Rattle.mdb_base.specs.declared.names.Tid.{Tid}
use Rattle.mdb_base.specs.Names.{tid_before}
use Rattle.order_laws.specs.Least.{IsFree}

-- the least free attempt of what is left of the orders, or none where none is free
abbrev pub IsNext : List (List Tid) → Option Tid → Type 0
IsNext orders None = (t : Tid) → IsFree orders t → ⊥
IsNext orders (Some t) = IsFree orders t × ((u : Tid) → IsFree orders u → tid_before u t ≡ false)

-- whether the attempt is before the other one, where there is one
abbrev pub is_earlier : Tid → Option Tid → Bool
is_earlier t None = true
is_earlier t (Some other) = tid_before t other
