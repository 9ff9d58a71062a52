use Rattle.std.proofs.Common.{◌≡◌, drop}
use Rattle.mdb_base.specs.Words.{some_of}
use Rattle.order_laws.specs.Tickets.{is_above}
use Rattle.ticket_graph.proofs.added.has_above.Given as goal

-- the tickets that are left decide
abbrev pub invariant-loop-other : goal.invariant-loop-other
invariant-loop-other l = some_of (is_above l.ticket) l.others ≡ some_of (is_above l.ticket) (drop l.other-index l.others)
