use Rattle.std.proofs.Common.{take}
use Rattle.mdb_base.specs.Words.{Each}
use Rattle.ticket_graph.specs.Steps.{Follows, IsDone}
use Rattle.ticket_graph.proofs.search.Search.follow.Given as goal

abbrev pub invariant-loop-ticket : goal.invariant-loop-ticket
invariant-loop-ticket l = record {
  follows : Follows l.from (take l.ticket-index l.tickets) l.fn.self.unmet l.fn.self.steps.items l.self.unmet l.self.steps.items;
  done : Each (IsDone l.self.unmet) (take l.ticket-index l.tickets);
}
