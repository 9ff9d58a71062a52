use Rattle.std.proofs.Common.{◌≡◌, drop}
use Rattle.std.specs.FinMap.{empty}
use Rattle.run_book.specs.Takers.{no_takers, restored_takers}
use Rattle.run_book.proofs.takers.TicketAges.restored.Given as goal

abbrev pub invariant-loop-kept : goal.invariant-loop-kept
invariant-loop-kept l =
    record l.takers { unended = restored_takers (drop l.kept-index l.doubtful) l.takers.unended }
    ≡ record no_takers { unended = restored_takers l.doubtful empty }
