use Rattle.std.proofs.Common.{◌≡◌, ◌+◌, ◌-◌, ◌^◌, ◌<◌, min, Option, Some, inl, inr, length, slice_get, refl, subst, arith}
use Rattle.std.specs.Prelude.{MatchOption}
use Rattle.std.proofs.lemmas.Option.{slice_get_read}
use Rattle.mdb_base.proofs.ForCallers.{none_left}
use Rattle.fed_messages.specs.declared.Packet.{Packet}
use Rattle.scripted_link.specs.Inlets.{empty_count}
use Rattle.fed_hosts.specs.declared.ports.Port.{Port}
use Rattle.fed_hosts.proofs.Polled.{given_before, given_end, given_next, given_start, polled_none, polled_self, polled_some}
use Rattle.fed_hosts.proofs.Words.{if_none}
use Rattle.fed_hosts.proofs.rounds.first_between.Goals as goal

pub loop-place-init : goal.loop-place-init
loop-place-init c = record { polled = polled_self c.args.ports.now.items; none = given_start c.args.from c.args.ports.now.items; within = inl (omega arith) }

pub loop-place-preserved : goal.loop-place-preserved
loop-place-preserved c =
    let now = c.loop-place.ports.items in
    let p = c.loop-place.place in
    let count = c.loop-place.invariant.polled.count in
    let within : p < length now = omega (arith, count, c.requires) in
    let port : Port = c.index_mut.result.now in
    let at : slice_get now p ≡ Some port = slice_get_read now (length now) p port refl within c.index_mut.ensures.value in
    let none = none_left c.next.result c.in_default.not-Some in
    let counted =
    subst (λ (o : Option Packet). MatchOption o (empty_count c.next.new.self ≡ min (empty_count port.ends.inlet + 1) (2 ^ 64 - 1)) (λ packet. empty_count c.next.new.self ≡ empty_count port.ends.inlet)) none
    c.next.ensures.empties in
    record {
      polled = polled_none c.args.ports.now.items now p port c.next.new.self c.loop-place.invariant.polled within at c.next.ensures.ring (if_none c.next.result none c.next.ensures.none);
      none = given_next c.args.from p c.args.ports.now.items now port c.next.new.self c.loop-place.invariant.none c.loop-place.auto.place within at counted;
      within = inr (omega arith);
    }

pub returns-in-Some-clause-polled : goal.returns-in-Some-clause-polled
returns-in-Some-clause-polled c =
    let now = c.loop-place.ports.items in
    let p = c.loop-place.place in
    let count = c.loop-place.invariant.polled.count in
    let within : p < length now = omega (arith, count, c.requires) in
    let port : Port = c.index_mut.result.now in
    let at : slice_get now p ≡ Some port = slice_get_read now (length now) p port refl within c.index_mut.ensures.value in
    polled_some c.args.ports.now.items now port c.next.new.self (record { place = p; packet = c.in-Some.packet }) c.loop-place.invariant.polled within at c.next.ensures.ring c.in-Some.ensures.some

pub returns-in-Some-clause-came : goal.returns-in-Some-clause-came
returns-in-Some-clause-came c =
    let now = c.loop-place.ports.items in
    let p = c.loop-place.place in
    let count = c.loop-place.invariant.polled.count in
    let within : p < length now = omega (arith, count, c.requires) in
    let port : Port = c.index_mut.result.now in
    let at : slice_get now p ≡ Some port = slice_get_read now (length now) p port refl within c.index_mut.ensures.value in
    record { low = c.loop-place.auto.place; high = omega arith; none = given_before c.args.from p c.args.ports.now.items now port c.next.new.self c.loop-place.invariant.none c.loop-place.auto.place within at c.in-Some.ensures.empties }

pub returns-clause-none : goal.returns-clause-none
returns-clause-none c = given_end c.args.from c.loop-place.place c.args.to c.args.ports.now.items c.loop-place.ports.items c.loop-place.invariant.none (omega arith) c.loop-place.invariant.within
