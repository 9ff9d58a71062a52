use Rattle.federation_laws.proofs.CommitOnce.{graphs_cycle_free}
use Rattle.federation_laws.proofs.TicketCycles.{tickets_cycle_free}
use Rattle.federation_laws.proofs.ticket_laws.committed_tickets_are_cycle_free.Goals as goal

pub returns-clause-records : goal.returns-clause-records
returns-clause-records c = tickets_cycle_free

pub returns-clause-attempts : goal.returns-clause-attempts
returns-clause-attempts c = graphs_cycle_free
