-- Who holds a key, by rising age.
use Rattle.std.specs.Prelude.{ℕ, ◌≡◌, ◌<◌, Bool, false, ◌==◌, ◌&&◌, cond, is_some, Option, Some, None, List, [], ◌∷◌, refl}
use Rattle.std.specs.declared.cmp.Ordering.{Ordering}
use Rattle.std.specs.Ordering.{nat_cmp, ordering_then}
use Rattle.std.specs.FinMap.{FinMap, code, get, insert}
use Rattle.std.specs.Coded.{Coded, code_by, coded×, coded_ℕ}
use Rattle.mdb_base.specs.declared.names.Key.{Key}
use Rattle.mdb_base.specs.declared.names.Tid.{Tid}
use Rattle.mdb_base.specs.declared.rows.Put.{Put}
use Rattle.mdb_base.specs.Words.{some_of}
use Rattle.fed_rules.specs.declared.runs.Kept.{Kept}
use Rattle.fed_rules.specs.Runs.{Access, Run}
use Rattle.fed_rules.specs.Replies.{access_key}
use Rattle.run_book.specs.Held.{tid_code}
use Rattle.run_book.specs.declared.rival.Rival.{Rival}
use Rattle.mdb_base.specs.declared.acts.PlainAct.{PlainAct}
use Rattle.mdb_base.specs.declared.acts.PlainAct.TheVariants.{Read, Write}
use Rattle.mdb_base.specs.declared.replies.Reply.{Reply}
use Rattle.locking_engine.specs.Rule.{stop_by, older_of_two}
use Rattle.locking_engine.specs.Places.{Place}

-- by key, and then by age
abbrev pub place_cmp : Place → Place → Ordering
place_cmp a b = ordering_then (nat_cmp a.key b.key) (nat_cmp a.age b.age)

-- at most one holder of each key and age
abbrev pub Holders : Type 0
Holders = FinMap place_cmp Tid

abbrev pub place_code : Coded Place
place_code = code_by (ℕ × ℕ) (coded× coded_ℕ coded_ℕ) (λ p. (p.key, p.age)) (λ p. record { key = p.0; age = p.1 }) (λ _. refl)

abbrev pub holders_code : Coded Holders
holders_code = code place_code tid_code

abbrev pub place_of : Key → ℕ → Place
place_of key age = record { key = key.0; age = age }

-- where nobody stands at a place, this one stands there now
abbrev pub held_by : Place → Tid → Holders → Holders
held_by place tid holders = cond (is_some (get holders place)) holders (insert holders place tid)

-- a run of this age stands at the keys of these rows
abbrev pub with_rows_held : Tid → ℕ → List Put → Holders → Holders
with_rows_held tid age [] holders = holders
with_rows_held tid age (row ∷ rows) holders = with_rows_held tid age rows (held_by (place_of row.key age) tid holders)

-- the transactions in doubt stand at the keys that they wrote, by their serial numbers
abbrev pub with_restored : List Kept → Holders → Holders
with_restored [] holders = holders
with_restored (kept ∷ more) holders = with_restored more (with_rows_held kept.tid kept.number kept.writes holders)

-- whether a place is of this age, and of a key of these accesses
abbrev pub touches : List Access → ℕ → Place → Bool
touches acts age q = (q.age == age) && some_of (λ access. (access_key access).0 == q.key) acts

abbrev pub is_touched : Run → Place → Bool
is_touched run q = touches run.acts run.age q

-- nobody but the one of this age holds the key, or this is the oldest one who does
abbrev pub IsOldestOther : Holders → Key → ℕ → Option Rival → Type 0
IsOldestOther holders key me None = (age : ℕ) → (age == me) ≡ false → get holders (place_of key age) ≡ None
IsOldestOther holders key me (Some rival) =
    (get holders (place_of key rival.rank) ≡ Some rival.tid) × ((rival.rank == me) ≡ false)
    × ((age : ℕ) → (age == me) ≡ false → age < rival.rank → get holders (place_of key age) ≡ None)

-- whom an act of a run of this age conflicts with: the oldest other one who has written the key, and for a write also who has read it
abbrev pub IsFirstInTheWay : Holders → Holders → ℕ → PlainAct → Option Rival → Type 0
IsFirstInTheWay readers writers age (Read key) o = IsOldestOther writers key age o
IsFirstInTheWay readers writers age (Write key value) o =
    (r : Option Rival) × (w : Option Rival) × IsOldestOther readers key age r × IsOldestOther writers key age w × (o ≡ older_of_two r w)

-- what stops an act of a run of this age
abbrev pub IsStop : Holders → Holders → ℕ → PlainAct → Option Reply → Type 0
IsStop readers writers age act stop = (o : Option Rival) × IsFirstInTheWay readers writers age act o × (stop ≡ stop_by age o)
