use Rattle.std.proofs.Common.{◌≡◌, ◌++◌, take}
use Rattle.std.specs.List.{flat_map}
use Rattle.world_recovery.specs.FoundBegun.{coord_names}
use Rattle.world_recovery.proofs.found_begun.list_records.Given as goal

-- those of the first ones stand at the end
abbrev pub invariant-loop-entry : goal.invariant-loop-entry
invariant-loop-entry l = l.tids.items ≡ l.fn.tids.items ++ flat_map coord_names (take l.entry-index l.entries)
