use Rattle.std.proofs.Common.{◌≡◌, ◌↔◌, map}
use Rattle.usable_journals.specs.Reads.{open_pair}
use Rattle.usable_journals.proofs.coord_sums.are_open.Given as goal

-- what is left of both decides
abbrev pub invariant-loop-tid : goal.invariant-loop-tid
invariant-loop-tid l = (map open_pair l.rest ≡ l.tid-iterator) ↔ (map open_pair l.attempts ≡ l.kept.entries)
