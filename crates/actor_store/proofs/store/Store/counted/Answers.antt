use Rattle.std.proofs.Common.{◌<◌, Option, sym, ap, ◌∙◌, subst, arith}
use Rattle.mdb_base.specs.Words.{map_some}
use Rattle.actor_store.specs.declared.store.SetTrip.{SetTrip}
use Rattle.actor_store.specs.Store.{IsArmed, trip_of_rules}
use Rattle.actor_store.proofs.store.Store.counted.Goals as goal

pub returns-else-trip-gt1-clause-ends : goal.returns-else-trip-gt1-clause-ends
returns-else-trip-gt1-clause-ends g c = λ old rules trip k.
    let P : Option SetTrip → Type 0 = IsArmed in
    let some : 0 < c.in-Some.trip.calls = subst P c.in-Some.is k.armed in
    let few = c.if-trip-gt1.false in
    (trip_of_rules c.in-Some.trip, sym k.trip ∙ ap (map_some trip_of_rules) c.in-Some.is, omega arith, c.stop.ensures.stops old rules trip k)
