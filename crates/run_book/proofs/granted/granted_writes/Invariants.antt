use Rattle.std.proofs.Common.{◌≡◌, ◌-◌, drop, reverse}
use Rattle.fed_rules.specs.Runs.{written}
use Rattle.run_book.proofs.granted.granted_writes.Given as goal

abbrev pub invariant-loop-done : goal.invariant-loop-done
invariant-loop-done l = reverse l.writes.items ≡ written (drop (l.count - l.done) l.rows)
