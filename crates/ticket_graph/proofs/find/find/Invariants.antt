use Rattle.std.proofs.Common.{◌+◌, ◌-◌, length}
use Rattle.std.specs.BTreeSet.{btree_set_len}
use Rattle.ticket_graph.proofs.Searching.{IsSearching}
use Rattle.ticket_graph.proofs.find.find.Given as goal

abbrev pub invariant-loop-next : goal.invariant-loop-next
invariant-loop-next l = IsSearching l.attempts l.added l.search.unmet l.search.steps.items l.next

-- what is unmet, and the steps from which the search hasn't gone on
abbrev pub decreases-loop-next : goal.decreases-loop-next
decreases-loop-next l = btree_set_len l.search.unmet + length l.search.steps.items - l.next
