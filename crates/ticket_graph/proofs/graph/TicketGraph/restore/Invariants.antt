use Rattle.std.proofs.Common.{◌≡◌, ◌++◌, length}
use Rattle.std.specs.Vec.Iter.{into_iter_items, into_iter_len}
use Rattle.mdb_base.specs.declared.names.SiteId.{SiteId}
use Rattle.order_laws.specs.Chains.{In}
use Rattle.order_laws.specs.Tickets.{Ticketed}
use Rattle.ticket_graph.specs.Graph.{floor_of}
use Rattle.ticket_graph.proofs.graph.TicketGraph.restore.Given as goal

-- those so far are kept
abbrev pub invariant-loop-commit : goal.invariant-loop-commit
invariant-loop-commit l =
    (l.yielded ++ into_iter_items l.commit-iterator ≡ into_iter_items l.initial.commit-iterator)
    × (into_iter_len l.commit-iterator ≡ length (into_iter_items l.commit-iterator))
    × ((a : Ticketed) → In a l.graph.kept → In a l.yielded)
    × ((a : Ticketed) → In a l.yielded → In a l.graph.kept)
    × ((site : SiteId) → floor_of l.graph site ≡ 0)
    × (goal.iterator-loop-commit).can_next l.commit-iterator
    × (goal.iterator-loop-commit).is_finite l.commit-iterator
