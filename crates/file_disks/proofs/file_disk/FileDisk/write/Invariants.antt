use Rattle.std.proofs.Common.{length, ◌-◌}
use Rattle.file_disks.specs.FileDisk.{HasWritten}
use Rattle.file_disks.proofs.file_disk.FileDisk.write.Given as goal

abbrev pub invariant-loop-done : goal.invariant-loop-done
invariant-loop-done g l = HasWritten g.F.JournalFile.tells g.F.JournalFile.image g.F.JournalFile.faults l.fn.self l.self l.piece l.done

abbrev pub decreases-loop-done : goal.decreases-loop-done
decreases-loop-done g l = length l.piece - l.done
