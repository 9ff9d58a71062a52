use Rattle.std.proofs.Common.{List, sym, subst}
use Rattle.order_laws.specs.Tickets.{Ticketed, OneEach}
use Rattle.ticket_graph.specs.Graph.{Graph, IsForwards, IsPruned}
use Rattle.ticket_graph.specs.Reach.{joined}
use Rattle.ticket_graph.proofs.Forwards.{forwards_reached, once_reached}
use Rattle.ticket_graph.proofs.Pruning.{is_pruned}
use Rattle.ticket_graph.proofs.Standing.{stands_pruned}
use Rattle.ticket_graph.proofs.graph.TicketGraph.prune_over.Goals as goal

pub invariant_of-self : goal.invariant_of-self
invariant_of-self c =
    let ns = c.self.inside.attempts.items in
    let met = c.requires.0 in
    subst (λ (xs : List Ticketed). OneEach xs × IsForwards xs) (sym (c.keep_reached.ensures.kept met c.requires.1))
    (once_reached met ns c.self.invariant.0, forwards_reached met ns c.self.invariant.1)

pub returns-clause-pruned : goal.returns-clause-pruned
returns-clause-pruned c = λ waiting low.
    let ns = c.self.inside.attempts.items in
    let met = joined waiting in
    let new : Graph = record { kept = c.keep_reached.new.attempts.items; floors = c.keep_reached.new.floors } in
    subst (λ (old : Graph). IsPruned waiting old new) c.self.view_is
    (is_pruned waiting (record { kept = ns; floors = c.self.inside.floors }) new c.self.invariant.0 c.self.invariant.1
    (c.keep_reached.ensures.kept met low) (c.keep_reached.ensures.floors met low))

pub returns-clause-stands : goal.returns-clause-stands
returns-clause-stands c = λ waiting low all st.
    let new : Graph = record { kept = c.keep_reached.new.attempts.items; floors = c.keep_reached.new.floors } in
    stands_pruned all c.args.self.now new waiting (returns-clause-pruned c waiting low) st
