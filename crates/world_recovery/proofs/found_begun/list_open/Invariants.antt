use Rattle.std.proofs.Common.{◌≡◌, ◌++◌, take}
use Rattle.world_recovery.specs.FoundBegun.{open_names}
use Rattle.world_recovery.proofs.found_begun.list_open.Given as goal

-- those of the first ones stand at the end
abbrev pub invariant-loop-attempt : goal.invariant-loop-attempt
invariant-loop-attempt l = l.tids.items ≡ l.fn.tids.items ++ open_names (take l.attempt-index l.open_attempts)
