use Rattle.std.proofs.Common.{◌≡◌, ◌≤◌, ◌++◌, take}
use Rattle.std.specs.List.{AllByRecursion}
use Rattle.std.specs.Vec.{vec_capacity}
use Rattle.record_fields.specs.Items.{joined}
use Rattle.record_fields.proofs.items.put_items.Given as goal

abbrev pub invariant-loop-item : goal.invariant-loop-item
invariant-loop-item g l =
    let field = g.T.Item.field in
    record {
      bytes : l.out.items ≡ l.fn.out.items ++ joined field.spelling (take l.item-index l.items);
      room : vec_capacity l.fn.out ≤ vec_capacity l.out;
      fits : AllByRecursion field.Fits (take l.item-index l.items);
    }
