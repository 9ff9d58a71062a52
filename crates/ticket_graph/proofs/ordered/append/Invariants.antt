use Rattle.std.proofs.Common.{◌≡◌, ◌+◌, ◌≤◌, ◌++◌, length, vec_len}
use Rattle.std.specs.Vec.{vec_capacity}
use Rattle.std.specs.Vec.Iter.{into_iter_items, into_iter_len}
use Rattle.ticket_graph.proofs.ordered.append.Given as goal

-- what is left fits
abbrev pub invariant-loop-attempt : goal.invariant-loop-attempt
invariant-loop-attempt l =
    (l.yielded ++ into_iter_items l.attempt-iterator ≡ into_iter_items l.initial.attempt-iterator)
    × (l.all.items ≡ l.initial.all.items ++ l.yielded)
    × (into_iter_len l.attempt-iterator ≡ length (into_iter_items l.attempt-iterator))
    × (vec_len l.all + into_iter_len l.attempt-iterator ≤ vec_capacity l.all)
    × (goal.iterator-loop-attempt).can_next l.attempt-iterator
    × (goal.iterator-loop-attempt).is_finite l.attempt-iterator
