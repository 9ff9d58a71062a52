use Rattle.std.proofs.Common.{◌≡◌, drop}
use Rattle.mdb_base.specs.declared.names.SiteId.{SiteId}
use Rattle.ticket_graph.specs.Reach.{floor_in, highest}
use Rattle.ticket_graph.proofs.floors.raise.Given as goal

-- the tickets that are left decide
abbrev pub invariant-loop-ticket : goal.invariant-loop-ticket
invariant-loop-ticket l =
    (site : SiteId) → highest site (floor_in l.floors site) (drop l.ticket-index l.tickets) ≡ highest site (floor_in l.initial.floors site) l.tickets
