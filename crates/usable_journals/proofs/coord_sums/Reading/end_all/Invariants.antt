use Rattle.std.proofs.Common.{◌≤◌, List, map, drop, length}
use Rattle.mdb_base.specs.Words.{those}
use Rattle.presumptions.specs.declared.Participant.{Participant}
use Rattle.fed_rules.specs.Reopened.{end_read}
use Rattle.usable_journals.specs.Reads.{Reads}
use Rattle.usable_journals.specs.Recorded.{not_in}
use Rattle.usable_journals.proofs.coord_sums.Reading.end_all.Given as goal

-- the last ones were read
abbrev pub invariant-loop-left : goal.invariant-loop-left
invariant-loop-left l = record {
  within : l.left ≤ length l.committed;
  read : (protocols : List Participant) → Reads protocols l.fn.self l.self (map end_read (those (not_in l.tids) (drop l.left l.committed)));
}

abbrev pub decreases-loop-left : goal.decreases-loop-left
decreases-loop-left l = l.left
