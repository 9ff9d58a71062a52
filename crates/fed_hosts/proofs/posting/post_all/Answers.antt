use Rattle.std.proofs.Common.{◌≡◌, ◌<◌, ◌≤◌, ◌∙◌, Some, length, slice_get, refl, sym, ap, arith}
use Rattle.std.proofs.lemmas.List.{take_all}
use Rattle.std.proofs.lemmas.Option.{slice_get_read}
use Rattle.fed_hosts.specs.Ports.{IsPosted, places_at}
use Rattle.fed_hosts.proofs.Changes.{changed_all, changed_next, changed_none}
use Rattle.fed_hosts.proofs.PortPlaces.{places_next}
use Rattle.fed_hosts.proofs.posting.post_all.Goals as goal

pub post-requires-clause-room : goal.post-requires-clause-room
post-requires-clause-room c =
    let now = c.loop-place.ports.items in
    let p = c.loop-place.place in
    let at : slice_get now p ≡ Some c.index_mut.result.now = slice_get_read now (length now) p c.index_mut.result.now refl (let n = c.loop-place.invariant.posted.count in omega (arith, n)) c.index_mut.ensures.value in
    c.requires.room p c.index_mut.result.now (sym (c.loop-place.invariant.posted.left p (omega arith)) ∙ at)

pub post-requires-clause-places : goal.post-requires-clause-places
post-requires-clause-places c =
    let cap = c.loop-place.invariant.capacity in
    let grown = c.loop-place.invariant.grown in
    let most = c.requires.places in
    omega (arith, cap, grown, most)

pub post-requires-clause-few : goal.post-requires-clause-few
post-requires-clause-few c =
    let now = c.loop-place.ports.items in
    let p = c.loop-place.place in
    let at : slice_get now p ≡ Some c.index_mut.result.now = slice_get_read now (length now) p c.index_mut.result.now refl (let n = c.loop-place.invariant.posted.count in omega (arith, n)) c.index_mut.ensures.value in
    c.requires.few p c.index_mut.result.now (sym (c.loop-place.invariant.posted.left p (omega arith)) ∙ at)

pub loop-place-init : goal.loop-place-init
loop-place-init c = record {
  posted = changed_none (λ place a b. IsPosted c.args.sends.now c.args.stamp a b) c.args.ports.now.items;
  places = c.requires.empty;
  grown = (let none = ap length c.requires.empty in let size = c.args.places.now.ok in omega (arith, none, size));
  capacity = refl;
}

pub loop-place-preserved : goal.loop-place-preserved
loop-place-preserved c =
    let now = c.loop-place.ports.items in
    let p = c.loop-place.place in
    let n = c.loop-place.invariant.posted.count in
    let within : p < length now = omega (arith, n) in
    let at : slice_get now p ≡ Some c.index_mut.result.now = slice_get_read now (length now) p c.index_mut.result.now refl within c.index_mut.ensures.value in
    let was = sym (c.loop-place.invariant.posted.left p (omega arith)) ∙ at in
    record {
      posted = changed_next (λ place a b. IsPosted c.args.sends.now c.args.stamp a b) p c.args.ports.now.items now c.index_mut.result.now c.post.new.self c.loop-place.invariant.posted within at c.post.ensures.posted;
      places = places_next c.args.sends.now p c.args.ports.now.items c.index_mut.result.now c.loop-place.places.items c.post.new.places.items c.loop-place.invariant.places was c.post.ensures.places;
      grown = (let less = c.post.ensures.grown in let grown = c.loop-place.invariant.grown in omega (arith, less, grown));
      capacity = c.post.ensures.capacity ∙ c.loop-place.invariant.capacity;
    }

pub returns-clause-posted : goal.returns-clause-posted
returns-clause-posted c =
    let e = c.len-place-end.ensures in
    let n = c.loop-place.invariant.posted.count in
    changed_all (λ place a b. IsPosted c.args.sends.now c.args.stamp a b) c.loop-place.place c.args.ports.now.items c.loop-place.ports.items c.loop-place.invariant.posted (omega (arith, n, e))

pub returns-clause-places : goal.returns-clause-places
returns-clause-places c =
    let n = c.loop-place.invariant.posted.count in
    let e = c.len-place-end.ensures in
    let all : length c.args.ports.now.items ≤ c.loop-place.place = omega (arith, n, e) in
    c.loop-place.invariant.places ∙ ap (places_at c.args.sends.now) (take_all c.loop-place.place c.args.ports.now.items all)
