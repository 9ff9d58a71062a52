use Rattle.std.proofs.Common.{◌≡◌, ◌++◌, ◌∷◌, ◌+◌, [], length, take, sym, ap, ◌∙◌, append_assoc, arith}
use Rattle.std.proofs.lemmas.List.{length-append, take_all, take_more}
use Rattle.mdb_base.proofs.ForCallers.{all_push}
use Rattle.record_fields.specs.Items.{joined}
use Rattle.record_fields.proofs.Joined.{joined_push, room_for}
use Rattle.record_fields.proofs.items.put_items.Goals as goal

pub put-requires-clause-small : goal.put-requires-clause-small
put-requires-clause-small g c =
    let i = c.loop-item.item-index in
    let xs = c.args.items.now in
    let item = c.item-item.result in
    let more : take (i + 1) xs ≡ take i xs ++ item ∷ [] = take_more xs i item c.loop-item-test.true ∙ ap (λ x. take i xs ++ x ∷ []) (sym c.item-item.is) in
    omega (arith, room_for g.T.Item.field.spelling xs i item more, c.requires.small)

pub put-requires-clause-room : goal.put-requires-clause-room
put-requires-clause-room g c =
    let spelling = g.T.Item.field.spelling in
    let i = c.loop-item.item-index in
    let xs = c.args.items.now in
    let item = c.item-item.result in
    let more : take (i + 1) xs ≡ take i xs ++ item ∷ [] = take_more xs i item c.loop-item-test.true ∙ ap (λ x. take i xs ++ x ∷ []) (sym c.item-item.is) in
    omega (arith, room_for spelling xs i item more, c.requires.room, c.loop-item.invariant.room, ap length c.loop-item.invariant.bytes, length-append c.args.out.now.items (joined spelling (take i xs)))

pub loop-item-preserved : goal.loop-item-preserved
loop-item-preserved g c =
    let field = g.T.Item.field in
    let xs = c.args.items.now in
    let i = c.loop-item.item-index in
    let item = c.item-item.result in
    let more : take (i + 1) xs ≡ take i xs ++ item ∷ [] = take_more xs i item c.loop-item-test.true ∙ ap (λ x. take i xs ++ x ∷ []) (sym c.item-item.is) in
    record {
      bytes = c.put.ensures.bytes ∙ ap (λ l. l ++ field.spelling item) c.loop-item.invariant.bytes ∙ append_assoc c.args.out.now.items (joined field.spelling (take i xs)) (field.spelling item)
          ∙ ap (λ l. c.args.out.now.items ++ l) (sym (rw more (joined_push field.spelling (take i xs) item)));
      room = omega (arith, c.loop-item.invariant.room, c.put.ensures.room);
      fits = rw more (all_push field.Fits (take i xs) item c.loop-item.invariant.fits c.put.ensures.fits);
    }

pub returns-clause-size : goal.returns-clause-size
returns-clause-size g c =
    let spelling = g.T.Item.field.spelling in
    let all : take c.loop-item.item-index c.args.items.now ≡ c.args.items.now = take_all c.loop-item.item-index c.args.items.now c.loop-item-test.false in
    let bytes = rw all at c.loop-item.invariant.bytes in
    omega (arith, ap length bytes, length-append c.args.out.now.items (joined spelling c.args.items.now))
