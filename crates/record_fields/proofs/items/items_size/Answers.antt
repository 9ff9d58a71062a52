use Rattle.std.proofs.Common.{◌≡◌, ◌++◌, ◌∷◌, ◌+◌, [], take, sym, ap, ◌∙◌, arith}
use Rattle.std.proofs.lemmas.List.{take_more}
use Rattle.record_fields.proofs.Joined.{length-one_more, room_for}
use Rattle.record_fields.proofs.items.items_size.Goals as goal

pub loop-item-preserved : goal.loop-item-preserved
loop-item-preserved g c =
    let i = c.loop-item.item-index in
    let xs = c.args.items.now in
    let item = c.item-item.result in
    let more : take (i + 1) xs ≡ take i xs ++ item ∷ [] = take_more xs i item c.loop-item-test.true ∙ ap (λ x. take i xs ++ x ∷ []) (sym c.item-item.is) in
    record {
      bytes = omega (arith, length-one_more g.T.Item.field.spelling xs i item more, c.loop-item.invariant.bytes);
      small = omega (arith);
    }

pub returns-in_default : goal.returns-in_default
returns-in_default g c =
    let i = c.loop-item.item-index in
    let xs = c.args.items.now in
    let item = c.item-item.result in
    let more : take (i + 1) xs ≡ take i xs ++ item ∷ [] = take_more xs i item c.loop-item-test.true ∙ ap (λ x. take i xs ++ x ∷ []) (sym c.item-item.is) in
    omega (arith, room_for g.T.Item.field.spelling xs i item more, c.in_default.ensures)

pub returns-then-total-gt-LONGEST : goal.returns-then-total-gt-LONGEST
returns-then-total-gt-LONGEST g c =
    let i = c.loop-item.item-index in
    let xs = c.args.items.now in
    let item = c.item-item.result in
    let more : take (i + 1) xs ≡ take i xs ++ item ∷ [] = take_more xs i item c.loop-item-test.true ∙ ap (λ x. take i xs ++ x ∷ []) (sym c.item-item.is) in
    omega (arith, room_for g.T.Item.field.spelling xs i item more, c.in-Some.ensures.0, c.loop-item.invariant.bytes, c.if-total-gt-LONGEST.true)
