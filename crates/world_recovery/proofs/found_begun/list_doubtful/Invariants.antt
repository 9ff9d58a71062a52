use Rattle.std.proofs.Common.{◌≡◌, ◌++◌, map, take}
use Rattle.world_recovery.proofs.found_begun.list_doubtful.Given as goal

-- those of the first ones stand at the end
abbrev pub invariant-loop-held : goal.invariant-loop-held
invariant-loop-held l = l.tids.items ≡ l.fn.tids.items ++ map (λ held. held.tid) (take l.held-index l.doubtful)
