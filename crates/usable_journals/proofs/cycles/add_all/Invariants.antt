use Rattle.std.proofs.Common.{◌≡◌, ◌≤◌, ◌++◌, drop, length, reverse}
use Rattle.fed_rules.specs.CoordRecords.{commits}
use Rattle.usable_journals.proofs.cycles.add_all.Given as goal

-- the last ones were put there
abbrev pub invariant-loop-left : goal.invariant-loop-left
invariant-loop-left l = record {
  within : l.left ≤ length l.entries;
  added : l.attempts.items ≡ l.initial.attempts.items ++ commits (reverse (drop l.left l.entries));
}

abbrev pub decreases-loop-left : goal.decreases-loop-left
decreases-loop-left l = l.left
