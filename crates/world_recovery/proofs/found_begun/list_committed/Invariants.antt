use Rattle.std.proofs.Common.{◌≡◌, ◌++◌, take}
use Rattle.world_recovery.specs.FoundBegun.{committed_names}
use Rattle.world_recovery.proofs.found_begun.list_committed.Given as goal

-- those of the first ones stand at the end
abbrev pub invariant-loop-attempt : goal.invariant-loop-attempt
invariant-loop-attempt l = l.tids.items ≡ l.fn.tids.items ++ committed_names (take l.attempt-index l.committed)
