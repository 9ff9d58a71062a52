use Rattle.std.proofs.Common.{◌≡◌, drop}
use Rattle.std.specs.FinMap.{empty, from_entries}
use Rattle.run_book.specs.Book.{with_restored}
use Rattle.run_book.specs.Named.{by_tid}
use Rattle.run_book.proofs.run_map.restored.Given as goal

abbrev pub invariant-loop-kept : goal.invariant-loop-kept
invariant-loop-kept l = with_restored l.counters (drop l.kept-index l.doubtful) (from_entries (by_tid l.runs.entries)) ≡ with_restored l.counters l.doubtful empty
