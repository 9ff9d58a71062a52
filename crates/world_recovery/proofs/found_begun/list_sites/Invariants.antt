use Rattle.std.proofs.Common.{◌≡◌, ◌++◌, take}
use Rattle.world_recovery.specs.FoundBegun.{sites_tids}
use Rattle.world_recovery.proofs.found_begun.list_sites.Given as goal

-- those of the first ones stand at the end
abbrev pub invariant-loop-journal : goal.invariant-loop-journal
invariant-loop-journal l = l.tids.items ≡ l.fn.tids.items ++ sites_tids (take l.journal-index l.journals)
