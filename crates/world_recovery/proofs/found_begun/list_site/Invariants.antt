use Rattle.std.proofs.Common.{◌≡◌, ◌++◌, take}
use Rattle.world_recovery.specs.FoundBegun.{site_tids}
use Rattle.world_recovery.proofs.found_begun.list_site.Given as goal

-- those of the first ones stand at the end
abbrev pub invariant-loop-entry : goal.invariant-loop-entry
invariant-loop-entry l = l.tids.items ≡ l.fn.tids.items ++ site_tids (take l.entry-index l.entries)
