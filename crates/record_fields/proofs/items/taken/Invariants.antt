use Rattle.std.proofs.Common.{◌≡◌, ◌-◌}
use Rattle.record_fields.specs.Items.{items_at}
use Rattle.record_fields.proofs.Loop.{with_front}
use Rattle.record_fields.proofs.items.taken.Given as goal

abbrev pub invariant-loop : goal.invariant-loop
invariant-loop g l =
    with_front l.items.items (items_at g.T.Item.field.reading (l.count - l.counter) l.rest) ≡ items_at g.T.Item.field.reading l.count l.bytes
