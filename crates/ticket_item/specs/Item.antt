-- The ticket of a site: the published number with its owner, and the attempts that hold the next one.
use Rattle.std.specs.Prelude.{ℕ, ◌≡◌, Bool, true, Option, List, [], ◌∷◌}
use Rattle.mdb_base.specs.declared.names.Tid.{Tid}
use Rattle.mdb_base.specs.Names.{same_tid, tid_before}
use Rattle.mdb_base.specs.Words.{Each, how_many, some_of}

-- the published number, the attempt that published it, the holders, and for how many further holders there is room
pub record Item : Type 0 where
  pub published : ℕ
  pub owner : Option Tid
  pub holders : List Tid
  pub spare : ℕ

-- whether the attempt stands in the list
abbrev pub is_among : Tid → List Tid → Bool
is_among tid tids = some_of (same_tid tid) tids

-- whether the attempt holds the next number
abbrev pub is_holder : Item → Tid → Bool
is_holder item tid = is_among tid item.holders

-- each attempt stands before all behind it
abbrev pub IsByTid : List Tid → Type 0
IsByTid [] = Unit {0}
IsByTid (tid ∷ tids) = Each (λ later. tid_before tid later ≡ true) tids × IsByTid tids

-- how many attempts of the list stand before this one
abbrev pub count_before : Tid → List Tid → ℕ
count_before tid tids = how_many (λ other. tid_before other tid) tids
