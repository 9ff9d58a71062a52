-- A trip as the rules say it.
use Rattle.std.proofs.Common.{◌≡◌, ℕ, ◌==◌, Bool, true, false, cond, Option, Some, None, refl}
use Rattle.mdb_base.specs.Words.{map_some}
use Rattle.mdb_base.proofs.ForCallers.{positive}
use Rattle.fed_rules.specs.Happenings.{Trip, set}
use Rattle.actor_store.specs.Store.{trip_of_rules, trip_to, IsArmed}

-- what a trip sets, as the rules speak of it
pub trip_to-rules : (calls cut : ℕ) (old : Option Trip) → map_some trip_of_rules (trip_to calls cut) ≡ set (Some (record { calls = calls; cut = cut })) old
trip_to-rules calls cut old = by_test (calls == 0) refl where
  by_test : (t : Bool) → (calls == 0) ≡ t → map_some trip_of_rules (cond (calls == 0) None (Some (record { calls = calls; cut = cut }))) ≡ cond (calls == 0) None (Some (record { calls = calls; cut = cut }))
  by_test true e = rw e refl
  by_test false e = rw e refl

pub trip_to-armed : (calls cut : ℕ) → IsArmed (trip_to calls cut)
trip_to-armed calls cut = by_test (calls == 0) refl where
  by_test : (t : Bool) → (calls == 0) ≡ t → IsArmed (cond (calls == 0) None (Some (record { calls = calls; cut = cut })))
  by_test true e = rw e tt
  by_test false e = rw e (positive calls e)
