use Rattle.std.proofs.Common.{◌≡◌, take, reverse}
use Rattle.fed_rules.specs.CoordSums.{coord_journal_sum}
use Rattle.journal_sums.proofs.coord_sums.read_coord_sum.Given as goal

-- it says what the first records say
abbrev pub invariant-loop-entry : goal.invariant-loop-entry
invariant-loop-entry l = l.sum ≡ coord_journal_sum l.protocols (reverse (take l.entry-index l.records))
