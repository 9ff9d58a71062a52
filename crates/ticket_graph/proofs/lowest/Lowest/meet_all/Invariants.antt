use Rattle.std.proofs.Common.{List, ◌++◌, take}
use Rattle.mdb_base.specs.declared.names.SiteTicket.{SiteTicket}
use Rattle.ticket_graph.specs.Reach.{joined, IsLowest}
use Rattle.ticket_graph.proofs.lowest.Lowest.meet_all.Given as goal

abbrev pub invariant-loop-tickets : goal.invariant-loop-tickets
invariant-loop-tickets l = (met : List SiteTicket) → IsLowest l.initial.self.at met → IsLowest l.self.at (met ++ joined (take l.tickets-index l.waiting))
