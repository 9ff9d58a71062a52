use Rattle.std.proofs.Common.{◌≡◌, ◌++◌, ◌∷◌, [], arith}
use Rattle.std.proofs.lemmas.Grind.{common_steps}
use Rattle.record_fields.specs.Items.{items_at}
use Rattle.record_fields.proofs.Loop.{goes_on, is_done, fails_as}
use Rattle.record_fields.proofs.items.taken.Goals as goal

pub returns-in-Err : goal.returns-in-Err
returns-in-Err g c =
    let reading = g.T.Item.field.reading in
    fails_as reading c.loop.items.items c.args.count c.loop.counter c.loop.rest.now (items_at reading c.args.count c.args.bytes.now) c.in-Err.why c.loop-test.true c.in-Err.ensures c.loop.invariant

pub loop-preserved : goal.loop-preserved
loop-preserved g c =
    let reading = g.T.Item.field.reading in
    let pushed : c.push.new.self.items ≡ c.loop.items.items ++ c.in-Ok-take.found.0 ∷ [] = grind (arith, common_steps) in
    rw pushed (goes_on reading c.loop.items.items c.args.count c.loop.counter c.loop.rest.now c.in-Ok-take.found.0 c.in-Ok-take.found.1.now (items_at reading c.args.count c.args.bytes.now) c.loop-test.true c.in-Ok-take.ensures c.loop.invariant)

pub returns : goal.returns
returns g c =
    let reading = g.T.Item.field.reading in
    is_done reading c.loop.items.items c.args.count c.loop.counter c.loop.rest.now (items_at reading c.args.count c.args.bytes.now) c.loop-test.false c.loop.invariant
