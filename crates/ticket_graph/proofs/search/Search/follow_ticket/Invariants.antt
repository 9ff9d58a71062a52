use Rattle.std.proofs.Common.{[], ◌∷◌}
use Rattle.std.specs.BTreeSet.{btree_set_len}
use Rattle.ticket_graph.specs.Steps.{Follows}
use Rattle.ticket_graph.proofs.search.Search.follow_ticket.Given as goal

abbrev pub invariant-loop-entry : goal.invariant-loop-entry
invariant-loop-entry l = Follows l.from (l.ticket ∷ []) l.fn.self.unmet l.fn.self.steps.items l.self.unmet l.self.steps.items

abbrev pub decreases-loop-entry : goal.decreases-loop-entry
decreases-loop-entry l = btree_set_len l.self.unmet
