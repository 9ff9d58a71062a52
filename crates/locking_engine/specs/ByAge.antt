-- The holders of one key by rising age.
use Rattle.std.specs.Prelude.{ℕ, ◌<◌, Bool, not, cond, is_some, nat_eq, nat_lt, Option, Some, None, List, [], ◌∷◌}
use Rattle.mdb_base.specs.declared.names.Tid.{Tid}
use Rattle.mdb_base.specs.Words.{Each, first_where, how_many, inserted, those}
use Rattle.run_book.specs.declared.rival.Rival.{Rival}

-- each is older than all behind it
abbrev pub IsByAge : List Rival → Type 0
IsByAge [] = Unit {0}
IsByAge (rival ∷ rivals) = Each (λ later. rival.rank < later.rank) rivals × IsByAge rivals

-- how many are older than this age
abbrev pub count_older : ℕ → List Rival → ℕ
count_older age rivals = how_many (λ rival. nat_lt rival.rank age) rivals

-- who is of this age
abbrev pub of_age : ℕ → List Rival → Option Tid
of_age age [] = None
of_age age (rival ∷ rivals) = cond (nat_eq rival.rank age) (Some rival.tid) (of_age age rivals)

-- the first one of another age
abbrev pub first_other : ℕ → List Rival → Option Rival
first_other age rivals = first_where (λ rival. not (nat_eq rival.rank age)) rivals

-- whether a run is older than another one
abbrev pub is_older : Rival → Rival → Bool
is_older a b = nat_lt a.rank b.rank

-- with a run at its place, where none is of its age
abbrev pub with_run : Rival → List Rival → List Rival
with_run run rivals = cond (is_some (of_age run.rank rivals)) rivals (inserted is_older run rivals)

-- those of other ages
abbrev pub without_age : ℕ → List Rival → List Rival
without_age age rivals = those (λ rival. not (nat_eq rival.rank age)) rivals
