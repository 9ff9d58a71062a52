use Rattle.std.proofs.Common.{◌≡◌, ◌<◌, ◌≤◌, ◌∙◌, Some, length, slice_get, refl, sym, ap, arith}
use Rattle.std.proofs.lemmas.Option.{slice_get_read, slice_get_within}
use Rattle.session_routes.specs.Posting.{places_to}
use Rattle.std.proofs.lemmas.List.{take_all}
use Rattle.session_routes.proofs.Posts.{places_next, posted_next}
use Rattle.session_routes.proofs.posting.post.Goals as goal

pub post_one-requires-clause-room : goal.post_one-requires-clause-room
post_one-requires-clause-room c =
    let now = c.loop-place.traffic.items in
    let p = c.loop-place.place in
    let at : slice_get now p ≡ Some c.index_mut.result.now = slice_get_read now (length now) p c.index_mut.result.now refl (let n = c.loop-place.invariant.posted.count in omega (arith, n)) c.index_mut.ensures.value in
    c.requires.room p c.index_mut.result.now (sym (c.loop-place.invariant.posted.left p (omega arith)) ∙ at)

pub post_one-requires-clause-places : goal.post_one-requires-clause-places
post_one-requires-clause-places c =
    let cap = c.loop-place.invariant.capacity in
    let grown = c.loop-place.invariant.grown in
    let most = c.requires.places in
    omega (arith, cap, grown, most)

pub post_one-requires-clause-few : goal.post_one-requires-clause-few
post_one-requires-clause-few c =
    let now = c.loop-place.traffic.items in
    let p = c.loop-place.place in
    let at : slice_get now p ≡ Some c.index_mut.result.now = slice_get_read now (length now) p c.index_mut.result.now refl (let n = c.loop-place.invariant.posted.count in omega (arith, n)) c.index_mut.ensures.value in
    c.requires.few p c.index_mut.result.now (sym (c.loop-place.invariant.posted.left p (omega arith)) ∙ at)

pub loop-place-init : goal.loop-place-init
loop-place-init c = record {
  posted = record { count = refl; done = λ p a b less ea eb. absurd (omega (arith, less)); left = λ p h. refl };
  places = c.requires.empty;
  grown = (let none = ap length c.requires.empty in let size = c.args.places.now.ok in omega (arith, none, size));
  capacity = refl;
}

pub loop-place-preserved : goal.loop-place-preserved
loop-place-preserved c =
    let now = c.loop-place.traffic.items in
    let p = c.loop-place.place in
    let n = c.loop-place.invariant.posted.count in
    let within : p < length now = omega (arith, n) in
    let at : slice_get now p ≡ Some c.index_mut.result.now = slice_get_read now (length now) p c.index_mut.result.now refl within c.index_mut.ensures.value in
    let was = sym (c.loop-place.invariant.posted.left p (omega arith)) ∙ at in
    record {
      posted = posted_next c.args.sends.now p c.args.traffic.now.items now c.index_mut.result.now c.post_one.new.traffic c.loop-place.invariant.posted within at c.post_one.ensures.posted;
      places = places_next c.args.sends.now p c.args.traffic.now.items c.index_mut.result.now c.loop-place.places.items c.post_one.new.places.items c.loop-place.invariant.places was c.post_one.ensures.places;
      grown = (let less = c.post_one.ensures.grown in let grown = c.loop-place.invariant.grown in omega (arith, less, grown));
      capacity = c.post_one.ensures.capacity ∙ c.loop-place.invariant.capacity;
    }

pub returns-clause-posted : goal.returns-clause-posted
returns-clause-posted c = record {
  count = c.loop-place.invariant.posted.count;
  each = λ p a b ea eb. c.loop-place.invariant.posted.done p a b (let n = slice_get_within c.args.traffic.now.items p a ea in omega (arith, n)) ea eb;
}

pub returns-clause-places : goal.returns-clause-places
returns-clause-places c =
    let n = c.loop-place.invariant.posted.count in
    let e = c.len-place-end.ensures in
    let all : length c.args.traffic.now.items ≤ c.loop-place.place = omega (arith, n, e) in
    c.loop-place.invariant.places ∙ ap (places_to c.args.sends.now) (take_all c.loop-place.place c.args.traffic.now.items all)
