use Rattle.std.proofs.Common.{◌≡◌, List, ◌∷◌, ap, ◌∙◌, subst}
use Rattle.order_laws.specs.Tickets.{Ticketed, IsCycle, OneEach}
use Rattle.ticket_graph.specs.declared.verdict.Verdict.TheVariants.{Added, Cycle}
use Rattle.ticket_graph.specs.Graph.{Graph, IsVerdict, IsWith}
use Rattle.ticket_graph.specs.Trail.{IsFinding}
use Rattle.ticket_graph.proofs.GraphLemmas.{no_cycle_found}
use Rattle.ticket_graph.proofs.Standing.{verdict_all, stands_after}
use Rattle.ticket_graph.proofs.graph.TicketGraph.try_add.Goals as goal

pub returns-in-Cycle-clause-verdict : goal.returns-in-Cycle-clause-verdict
returns-in-Cycle-clause-verdict c =
    let g : Ticketed = record { tid = c.args.tid; tickets = c.args.tickets.now } in
    let kept : c.as_slice.result.now ≡ c.args.self.now.kept = c.as_slice.ensures.value ∙ ap (λ (x : Graph). x.kept) c.self.view_is in
    subst (λ (xs : List Ticketed). IsCycle (g ∷ xs) g.tid c.in-Cycle.edges) kept
    (subst (λ (a : Ticketed). IsCycle (a ∷ c.as_slice.result.now) a.tid c.in-Cycle.edges) c.in_ok-attempt.ensures.copy
    (subst (IsFinding c.as_slice.result.now c.in_ok-attempt.attempt) c.in-Cycle.is c.in_ok-edges.ensures))

pub returns-in-Cycle-clause-over_all : goal.returns-in-Cycle-clause-over_all
returns-in-Cycle-clause-over_all c =
    let g : Ticketed = record { tid = c.args.tid; tickets = c.args.tickets.now } in
    λ all st one. verdict_all all c.args.self.now g (Cycle c.in-Cycle.edges) one st c.requires.above (returns-in-Cycle-clause-verdict c)

pub keep-requires-clause-no_cycle : goal.keep-requires-clause-no_cycle
keep-requires-clause-no_cycle c =
    no_cycle_found c.as_slice.result.now c.args.self.now.kept c.in_ok-attempt.attempt c.args.tid c.in-Reached.field-0
    (subst (IsFinding c.as_slice.result.now c.in_ok-attempt.attempt) c.in-Reached.is c.in_ok-edges.ensures)
    (subst (λ (x : Graph). OneEach x.kept) c.self.view_is c.self.invariant.0)
    (c.as_slice.ensures.value ∙ ap (λ (x : Graph). x.kept) c.self.view_is)
    (ap (λ (x : Ticketed). x.tid) c.in_ok-attempt.ensures.copy) c.in_ok-attempt.ensures.rising c.requires.new

pub returns-in_ok-keep-in-Reached-clause-verdict : goal.returns-in_ok-keep-in-Reached-clause-verdict
returns-in_ok-keep-in-Reached-clause-verdict c =
    subst (λ (a : Ticketed). IsVerdict c.args.self.now.kept a Added) c.in_ok-attempt.ensures.copy
    (no_cycle_found c.as_slice.result.now c.args.self.now.kept c.in_ok-attempt.attempt c.args.tid c.in-Reached.field-0
    (subst (IsFinding c.as_slice.result.now c.in_ok-attempt.attempt) c.in-Reached.is c.in_ok-edges.ensures)
    (subst (λ (x : Graph). OneEach x.kept) c.self.view_is c.self.invariant.0)
    (c.as_slice.ensures.value ∙ ap (λ (x : Graph). x.kept) c.self.view_is)
    (ap (λ (x : Ticketed). x.tid) c.in_ok-attempt.ensures.copy) c.in_ok-attempt.ensures.rising c.requires.new)

pub returns-in_ok-keep-in-Reached-clause-over_all : goal.returns-in_ok-keep-in-Reached-clause-over_all
returns-in_ok-keep-in-Reached-clause-over_all c =
    let g : Ticketed = record { tid = c.args.tid; tickets = c.args.tickets.now } in
    λ all st one. verdict_all all c.args.self.now g Added one st c.requires.above (returns-in_ok-keep-in-Reached-clause-verdict c)

pub returns-in_ok-keep-in-Reached-clause-stands : goal.returns-in_ok-keep-in-Reached-clause-stands
returns-in_ok-keep-in-Reached-clause-stands c =
    let g : Ticketed = record { tid = c.args.tid; tickets = c.args.tickets.now } in
    λ all st. stands_after all c.args.self.now c.keep.new.self g Added st c.requires.above
    (subst (λ (a : Ticketed). IsWith a c.args.self.now c.keep.new.self) c.in_ok-attempt.ensures.copy c.in_ok-keep-in-Reached.ensures.kept)
