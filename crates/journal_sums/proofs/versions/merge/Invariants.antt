use Rattle.std.proofs.Common.{◌+◌, length}
use Rattle.journal_sums.proofs.Merging.{IsMerging}
use Rattle.journal_sums.proofs.versions.merge.Given as goal

abbrev pub invariant-loop-row : goal.invariant-loop-row
invariant-loop-row l = IsMerging l.first l.later l.rows.items l.left l.right

abbrev pub decreases-loop-row : goal.decreases-loop-row
decreases-loop-row l = length l.left + length l.right
