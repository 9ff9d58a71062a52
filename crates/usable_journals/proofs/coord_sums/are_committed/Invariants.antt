use Rattle.std.proofs.Common.{◌≡◌, ◌↔◌, map}
use Rattle.usable_journals.specs.Reads.{committed_pair}
use Rattle.usable_journals.proofs.coord_sums.are_committed.Given as goal

-- what is left of both decides
abbrev pub invariant-loop-tid : goal.invariant-loop-tid
invariant-loop-tid l = (map committed_pair l.rest ≡ l.tid-iterator) ↔ (map committed_pair l.attempts ≡ l.committed.entries)
