use Rattle.std.proofs.Common.{◌≤◌, map, drop, length}
use Rattle.fed_rules.specs.Reopened.{commit_read}
use Rattle.usable_journals.specs.Reads.{Reads}
use Rattle.usable_journals.proofs.coord_sums.Reading.commit_all.Given as goal

-- the last ones were read
abbrev pub invariant-loop-left : goal.invariant-loop-left
invariant-loop-left l = record {
  within : l.left ≤ length l.committed;
  read : Reads l.protocols l.fn.self l.self (map commit_read (drop l.left l.committed));
}

abbrev pub decreases-loop-left : goal.decreases-loop-left
decreases-loop-left l = l.left
