use Rattle.run_book.proofs.Installs.{IsInstalledTo}
use Rattle.run_book.proofs.granted.install_writes.Given as goal

abbrev pub invariant-loop-done : goal.invariant-loop-done
invariant-loop-done l = IsInstalledTo l.accesses l.number l.count l.done l.initial.tables l.tables
