use Rattle.std.proofs.Common.{List, ◌++◌, take}
use Rattle.mdb_base.specs.declared.names.SiteTicket.{SiteTicket}
use Rattle.ticket_graph.specs.Reach.{IsLowest}
use Rattle.ticket_graph.proofs.lowest.Lowest.meet.Given as goal

abbrev pub invariant-loop-ticket : goal.invariant-loop-ticket
invariant-loop-ticket l = (met : List SiteTicket) → IsLowest l.initial.self.at met → IsLowest l.self.at (met ++ take l.ticket-index l.tickets)
