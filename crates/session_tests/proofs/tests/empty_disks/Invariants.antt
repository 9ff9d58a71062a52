use Rattle.std.proofs.Common.{◌≡◌, length}
use Rattle.session_tests.proofs.tests.empty_disks.Given as goal

-- there are as many disks as were counted
abbrev pub invariant-loop : goal.invariant-loop
invariant-loop l = length l.disks.items ≡ l.counter
