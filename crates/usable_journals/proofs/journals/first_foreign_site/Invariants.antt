use Rattle.std.proofs.Common.{map, take}
use Rattle.usable_journals.specs.Disks.{AreUsableFrom}
use Rattle.usable_journals.proofs.journals.first_foreign_site.Given as goal

-- the first ones are usable
abbrev pub invariant-loop-place : goal.invariant-loop-place
invariant-loop-place l = AreUsableFrom 1 (map (λ s. s.now) (take l.place l.sites))
