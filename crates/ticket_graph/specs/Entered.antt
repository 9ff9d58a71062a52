-- Attempts into which edges lead.
use Rattle.std.specs.Prelude.{Bool, List, map}
use Rattle.mdb_base.specs.declared.names.SiteTicket.{SiteTicket}
use Rattle.mdb_base.specs.Words.{those}
use Rattle.order_laws.specs.Tickets.{Ticketed}
use Rattle.ticket_graph.specs.Reach.{are_before, joined}

-- the tickets of these attempts
abbrev pub tickets_of : List Ticketed → List SiteTicket
tickets_of attempts = joined (map (λ attempt. attempt.tickets) attempts)

-- whether an edge leads from one of these attempts into this one
abbrev pub is_entered : List Ticketed → Ticketed → Bool
is_entered attempts attempt = are_before (tickets_of attempts) attempt.tickets

-- those of them into which an edge leads from one of them
abbrev pub entered : List Ticketed → List Ticketed
entered attempts = those (is_entered attempts) attempts
