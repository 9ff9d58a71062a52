use Rattle.std.proofs.Common.{◌-◌, ◌+◌, ◌≡◌, ◌*◌, cond, length, vec_len}
use Rattle.mdb_top.specs.Progress.{HasTaken}
use Rattle.mdb_top.proofs.reading.read_up_to.Given as goal

abbrev pub invariant-loop-at_end : goal.invariant-loop-at_end
invariant-loop-at_end g l =
    let source = g.S.Source in
    HasTaken source.tells l.at_end (source.left l.fn.source) (source.left l.source) l.text.items l.most
    × (source.faults l.source ≡ source.faults l.fn.source) × (vec_len l.piece ≡ l.size)

abbrev pub decreases-loop-at_end : goal.decreases-loop-at_end
decreases-loop-at_end g l = 2 * (l.most - length l.text.items) + cond l.at_end 0 1
