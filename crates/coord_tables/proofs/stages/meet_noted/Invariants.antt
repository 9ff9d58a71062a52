use Rattle.std.proofs.Common.{List, ◌++◌}
use Rattle.mdb_base.specs.declared.names.SiteTicket.{SiteTicket}
use Rattle.ticket_graph.specs.Reach.{IsLowest}
use Rattle.coord_tables.specs.Stages.{noted_below}
use Rattle.coord_tables.proofs.stages.meet_noted.Given as goal

-- those of the first sites were met
abbrev pub invariant-loop-place : goal.invariant-loop-place
invariant-loop-place l = (met : List SiteTicket) → IsLowest l.initial.lowest.at met → IsLowest l.lowest.at (met ++ noted_below l.place l.tickets)
