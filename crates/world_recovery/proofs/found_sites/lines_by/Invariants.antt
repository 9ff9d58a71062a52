use Rattle.std.proofs.Common.{◌≡◌, take}
use Rattle.world_recovery.specs.Reopening.{lines_by}
use Rattle.world_recovery.proofs.found_sites.lines_by.Given as goal

-- those of the first ones
abbrev pub invariant-loop-journal : goal.invariant-loop-journal
invariant-loop-journal l = l.lines.items ≡ lines_by (take l.journal-index l.journals)
