use Rattle.std.proofs.Common.{ap, ◌∙◌, arith}
use Rattle.site_book.specs.Numbered.{by_number}
use Rattle.site_book.proofs.Numbered.{push_number}
use Rattle.site_book.proofs.local_map.reach.Goals as goal

pub loop-tx-init : goal.loop-tx-init
loop-tx-init g c = record {
  same = ap by_number c.reserve.ensures.items;
  room = omega (arith, c.reserve.ensures.len, c.len.ensures, c.saturating_sub.ensures, c.in_ok-reserve.ensures.ok);
}

pub loop-tx-preserved : goal.loop-tx-preserved
loop-tx-preserved g c = record {
  same = ap by_number c.push_reserved.ensures.items ∙ push_number c.loop-tx.items.items ∙ c.loop-tx.invariant.same;
  room = omega (arith, c.push_reserved.ensures.capacity, c.loop-tx.invariant.room);
}
