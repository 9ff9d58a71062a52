use Rattle.std.proofs.Common.{◌≡◌, ◌+◌, ◌≤◌, List, length, vec_len}
use Rattle.std.specs.Vec.{vec_capacity}
use Rattle.std.specs.Vec.Iter.{into_iter_items, into_iter_len}
use Rattle.mdb_base.specs.declared.names.SiteTicket.{SiteTicket}
use Rattle.ticket_graph.specs.Reach.{IsLowest}
use Rattle.ticket_graph.proofs.Keeping.{IsParting}
use Rattle.ticket_graph.proofs.ordered.part.Given as goal

-- what is left fits, and decides
abbrev pub invariant-loop-attempt : goal.invariant-loop-attempt
invariant-loop-attempt l =
    (into_iter_len l.attempt-iterator ≡ length (into_iter_items l.attempt-iterator))
    × (vec_len l.front + into_iter_len l.attempt-iterator ≤ vec_capacity l.front)
    × (vec_len l.behind + into_iter_len l.attempt-iterator ≤ vec_capacity l.behind)
    × (vec_capacity l.front ≡ vec_capacity l.initial.front)
    × (vec_len l.front + vec_len l.behind + into_iter_len l.attempt-iterator ≡ vec_len l.initial.front + vec_len l.initial.behind + into_iter_len l.initial.attempt-iterator)
    × ((met : List SiteTicket) → IsLowest l.initial.lowest.at met →
    IsParting met (into_iter_items l.initial.attempt-iterator) l.initial.front.items l.initial.behind.items l.front.items l.behind.items
    (into_iter_items l.attempt-iterator) l.lowest.at)
    × (goal.iterator-loop-attempt).can_next l.attempt-iterator
    × (goal.iterator-loop-attempt).is_finite l.attempt-iterator
