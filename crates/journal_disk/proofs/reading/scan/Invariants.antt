use Rattle.std.proofs.Common.{◌-◌, length}
use Rattle.journal_disk.specs.Spans.{Scans}
use Rattle.journal_disk.proofs.reading.scan.Given as goal

abbrev pub invariant-loop-span : goal.invariant-loop-span
invariant-loop-span l = Scans l.bytes l.spans.items l.whole

abbrev pub decreases-loop-span : goal.decreases-loop-span
decreases-loop-span l = length l.bytes - l.whole
