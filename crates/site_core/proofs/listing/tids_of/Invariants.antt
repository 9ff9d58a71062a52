use Rattle.std.proofs.Common.{◌≡◌, map, take}
use Rattle.fed_rules.specs.declared.runs.Doubt.{Doubt}
use Rattle.site_core.proofs.listing.tids_of.Given as goal

abbrev pub invariant-loop-place : goal.invariant-loop-place
invariant-loop-place l = l.tids.items ≡ map (λ (doubt : Doubt). doubt.tid) (take l.place l.doubts.doubts)
