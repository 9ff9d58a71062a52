use Rattle.std.proofs.Common.{◌↔◌, drop, map}
use Rattle.usable_journals.specs.Disks.{AreAllUnnamed}
use Rattle.usable_journals.proofs.journals.are_unnamed.Given as goal

-- what is left decides
abbrev pub invariant-loop-records : goal.invariant-loop-records
invariant-loop-records l = AreAllUnnamed l.coordinator (map (λ s. s.now) (drop l.records-index l.sites)) ↔ AreAllUnnamed l.coordinator (map (λ s. s.now) l.sites)
