-- The tickets of all attempts, each with the place of its attempt.
use Rattle.std.specs.Prelude.{Bool, ◌==◌, ◌&&◌, List, slice_get}
use Rattle.std.specs.Ordering.{nat_cmp, ordering_then}
use Rattle.std.specs.declared.cmp.Ordering.{Ordering}
use Rattle.mdb_base.specs.declared.names.SiteTicket.{SiteTicket}
use Rattle.mdb_base.specs.Names.{same_site}
use Rattle.mdb_base.specs.Words.{some_of, holds_of}
use Rattle.order_laws.specs.Tickets.{Ticketed}
use Rattle.ticket_graph.specs.declared.entries.Entry.{Entry}

-- by site, then by ticket, then by the place of the attempt
abbrev pub entry_cmp : Entry → Entry → Ordering
entry_cmp a b = ordering_then (nat_cmp a.site.0 b.site.0) (ordering_then (nat_cmp a.ticket b.ticket) (nat_cmp a.attempt b.attempt))

-- whether the entry is this ticket's
abbrev pub is_ticket : Entry → SiteTicket → Bool
is_ticket e t = same_site t.site e.site && (t.ticket == e.ticket)

-- whether the attempt at the entry's place has its ticket
abbrev pub is_entry : List Ticketed → Entry → Bool
is_entry attempts e = holds_of (λ a. some_of (is_ticket e) a.tickets) (slice_get attempts e.attempt)
