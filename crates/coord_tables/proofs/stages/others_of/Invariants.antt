use Rattle.std.proofs.Common.{◌≡◌, map, take}
use Rattle.indexmap.specs.IndexMap.{values}
use Rattle.coord_tables.specs.Stages.{others_taking}
use Rattle.coord_tables.proofs.stages.others_of.Given as goal

-- the sites of those of the first attempts
abbrev pub invariant-loop-place : goal.invariant-loop-place
invariant-loop-place l = l.others.items ≡ map (λ stage. stage.sites) (others_taking l.tid (take l.place (values l.stages)))
