use Rattle.std.proofs.Common.{◌≤◌, true, map, drop, length}
use Rattle.mdb_base.specs.Words.{those}
use Rattle.fed_rules.specs.Reopened.{end_read}
use Rattle.usable_journals.specs.Recorded.{TakesAll, not_in}
use Rattle.usable_journals.proofs.coord_order.Recorded.end_all.Given as goal

-- the last ones were taken
abbrev pub invariant-loop-left : goal.invariant-loop-left
invariant-loop-left l = record {
  within : l.left ≤ length l.committed;
  taken : TakesAll l.fn.self l.self (map end_read (those (not_in l.tids) (drop l.left l.committed))) true;
}

abbrev pub decreases-loop-left : goal.decreases-loop-left
decreases-loop-left l = l.left
