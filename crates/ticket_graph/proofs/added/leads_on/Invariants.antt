use Rattle.std.proofs.Common.{◌≡◌, drop}
use Rattle.mdb_base.specs.Words.{some_of}
use Rattle.ticket_graph.proofs.Leading.{leads_to}
use Rattle.ticket_graph.proofs.added.leads_on.Given as goal

-- the attempts that are left decide
abbrev pub invariant-loop-attempt : goal.invariant-loop-attempt
invariant-loop-attempt l = some_of (leads_to l.tickets) l.attempts ≡ some_of (leads_to l.tickets) (drop l.attempt-index l.attempts)
