use Rattle.std.proofs.Common.{◌≡◌, length}
use Rattle.session_tests.proofs.tests.faults.failing_disks.Given as goal

-- there are as many disks as were counted
abbrev pub invariant-loop-place : goal.invariant-loop-place
invariant-loop-place l = length l.disks.items ≡ l.place
