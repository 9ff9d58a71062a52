use Rattle.std.proofs.Common.{map, take}
use Rattle.indexmap.specs.IndexMap.{values}
use Rattle.ticket_graph.specs.Reach.{IsLowest, joined}
use Rattle.coord_tables.specs.Stages.{stage_tickets}
use Rattle.coord_tables.proofs.stages.lowest_of.Given as goal

-- those of the first attempts were met
abbrev pub invariant-loop-place : goal.invariant-loop-place
invariant-loop-place l = IsLowest l.lowest.at (joined (map stage_tickets (take l.place (values l.stages))))
