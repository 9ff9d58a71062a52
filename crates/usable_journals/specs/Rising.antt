-- Lists that stand by rising attempt, as a test of neighbours.
use Rattle.std.specs.Prelude.{Bool, true, ◌&&◌, Option, Some, None, List, [], ◌∷◌}
use Rattle.mdb_base.specs.declared.names.Tid.{Tid}
use Rattle.mdb_base.specs.Names.{tid_before}

-- whether it stands behind the last one, where there is one
abbrev pub is_behind : Option Tid → Tid → Bool
is_behind None tid = true
is_behind (Some last) tid = tid_before last tid

-- whether each stands behind the one before it, and the first one behind the last one
abbrev pub rises : {A : Type 0} → (A → Tid) → Option Tid → List A → Bool
rises tid_of last [] = true
rises tid_of last (x ∷ xs) = is_behind last (tid_of x) && rises tid_of (Some (tid_of x)) xs
