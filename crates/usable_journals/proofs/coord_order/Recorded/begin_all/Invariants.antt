use Rattle.std.proofs.Common.{◌≤◌, true, map, drop, length}
use Rattle.fed_rules.specs.Reopened.{initiation_read}
use Rattle.usable_journals.specs.Recorded.{TakesAll}
use Rattle.usable_journals.proofs.coord_order.Recorded.begin_all.Given as goal

-- the last ones were taken
abbrev pub invariant-loop-left : goal.invariant-loop-left
invariant-loop-left l = record {
  within : l.left ≤ length l.attempts;
  taken : TakesAll l.fn.self l.self (map initiation_read (drop l.left l.attempts)) true;
}

abbrev pub decreases-loop-left : goal.decreases-loop-left
decreases-loop-left l = l.left
