use Rattle.std.proofs.Common.{◌≤◌, true, map, drop, length}
use Rattle.usable_journals.specs.Fronts.{held_read}
use Rattle.usable_journals.specs.OnceTold.{TakesAll}
use Rattle.usable_journals.proofs.site_once.Once.prepare_all.Given as goal

-- the last ones were taken
abbrev pub invariant-loop-left : goal.invariant-loop-left
invariant-loop-left l = record {
  within : l.left ≤ length l.doubtful;
  taken : TakesAll l.fn.self l.self (map held_read (drop l.left l.doubtful)) true;
}

abbrev pub decreases-loop-left : goal.decreases-loop-left
decreases-loop-left l = l.left
