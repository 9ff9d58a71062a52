use Rattle.std.proofs.Common.{◌≡◌, ◌+◌}
use Rattle.run_book.specs.Tables.{promised}
use Rattle.run_book.specs.Named.{by_tid}
use Rattle.run_book.proofs.run_map.promised.Given as goal

abbrev pub invariant-loop-run : goal.invariant-loop-run
invariant-loop-run l = l.count + promised (by_tid l.run-iterator) ≡ promised (by_tid l.runs.entries)
