use Rattle.std.proofs.Common.{◌≡◌, map, take}
use Rattle.session_report.specs.Told.{reads_told}
use Rattle.session_report.proofs.reporting.all_reads.Given as goal

abbrev pub invariant-loop-tid : goal.invariant-loop-tid
invariant-loop-tid l = l.reads.items ≡ map (reads_told l.telling) (take l.tid-index l.tids)
