-- The value of a key after accesses.
use Rattle.std.proofs.Common.{◌≡◌, ℕ, Bool, true, false, cond, Option, Some, List, [], ◌∷◌, refl}
use Rattle.mdb_base.specs.declared.names.Key.{Key}
use Rattle.mdb_base.specs.Names.{same_key}
use Rattle.mdb_base.specs.Rows.{Table}
use Rattle.mdb_base.specs.Words.{or_else}
use Rattle.fed_rules.specs.Runs.{Access, Got, Wrote, after}
use Rattle.run_book.specs.Held.{own_write}

by_key : (b : Bool) (value : ℕ) (own : Option ℕ) (n later : ℕ) → later ≡ or_else own n → cond b value later ≡ or_else (cond b (Some value) own) n
by_key true value own n later h = refl
by_key false value own n later h = h

-- the value after accesses is the last write, or what was there before
pub after-own_write : (key : Key) (acts : List Access) (table : Table) → after acts table key ≡ or_else (own_write key acts) (table key)
after-own_write key [] table = refl
after-own_write key (Got k value ∷ acts) table = after-own_write key acts table
after-own_write key (Wrote k value ∷ acts) table =
    by_key (same_key k key) value (own_write key acts) (table key) _ (after-own_write key acts table)
