use Rattle.std.proofs.Common.{◌≡◌, drop}
use Rattle.mdb_base.specs.Words.{some_of, first_where}
use Rattle.order_laws.specs.Tickets.{is_above}
use Rattle.ticket_graph.proofs.added.edge_site.Given as goal

-- the tickets that are left decide
abbrev pub invariant-loop-ticket : goal.invariant-loop-ticket
invariant-loop-ticket l = first_where (λ k. some_of (is_above k) l.to) l.from ≡ first_where (λ k. some_of (is_above k) l.to) (drop l.ticket-index l.from)
