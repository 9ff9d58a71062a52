use Rattle.std.proofs.Common.{◌≤◌, List, map, drop, length}
use Rattle.presumptions.specs.declared.Participant.{Participant}
use Rattle.fed_rules.specs.Reopened.{initiation_read}
use Rattle.usable_journals.specs.Reads.{Reads}
use Rattle.usable_journals.proofs.coord_sums.Reading.begin_all.Given as goal

-- the last ones were read
abbrev pub invariant-loop-left : goal.invariant-loop-left
invariant-loop-left l = record {
  within : l.left ≤ length l.attempts;
  read : (protocols : List Participant) → Reads protocols l.fn.self l.self (map initiation_read (drop l.left l.attempts));
}

abbrev pub decreases-loop-left : goal.decreases-loop-left
decreases-loop-left l = l.left
