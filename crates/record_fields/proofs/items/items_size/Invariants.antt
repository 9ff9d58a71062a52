use Rattle.std.proofs.Common.{◌≡◌, ◌≤◌, length, take}
use Rattle.record_fields.specs.Items.{joined}
use Rattle.record_fields.proofs.items.items_size.Given as goal

abbrev pub invariant-loop-item : goal.invariant-loop-item
invariant-loop-item g l =
    record {
      bytes : l.total ≡ length (joined g.T.Item.field.spelling (take l.item-index l.items));
      small : l.total ≤ 65535;
    }
