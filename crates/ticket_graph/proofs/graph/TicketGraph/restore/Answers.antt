use Rattle.std.proofs.Common.{◌≡◌, [], ◌∷◌, ◌++◌, length, sym, ap, ◌∙◌, subst, append_assoc, append-nil, arith}
use Rattle.std.specs.Vec.Iter.{into_iter_items}
use Rattle.mdb_base.proofs.ForCallers.{nothing_left}
use Rattle.order_laws.specs.Chains.{In}
use Rattle.order_laws.specs.Tickets.{Ticketed}
use Rattle.ticket_graph.specs.Graph.{IsWith}
use Rattle.ticket_graph.specs.Reach.{floor_in}
use Rattle.ticket_graph.proofs.Restoring.{next_is_new, next_has_no_cycle, kept_more, more_kept, stands_whole}
use Rattle.ticket_graph.proofs.graph.TicketGraph.restore.Goals as goal

pub keep-requires-clause-new : goal.keep-requires-clause-new
keep-requires-clause-new c =
    let at = c.loop-commit in
    next_is_new c.args.commits.items at.yielded c.in-Some.commit (into_iter_items at.commit-iterator) (into_iter_items c.next.new.self) at.graph.kept c.requires.apart
    (at.invariant.0 ∙ c.into_iter-commit-iterator.ensures.into_iter_gives.0) c.in-Some.ensures.steps.0 at.invariant.2

pub keep-requires-clause-no_cycle : goal.keep-requires-clause-no_cycle
keep-requires-clause-no_cycle c =
    let at = c.loop-commit in
    next_has_no_cycle c.args.commits.items at.yielded c.in-Some.commit (into_iter_items at.commit-iterator) (into_iter_items c.next.new.self) at.graph.kept c.requires.no_cycle
    (at.invariant.0 ∙ c.into_iter-commit-iterator.ensures.into_iter_gives.0) c.in-Some.ensures.steps.0 at.invariant.2

pub loop-commit-preserved : goal.loop-commit-preserved
loop-commit-preserved c =
    let at = c.loop-commit in
    let x : Ticketed = c.in-Some.commit in
    let rest = into_iter_items c.next.new.self in
    let steps : into_iter_items at.commit-iterator ≡ x ∷ rest = c.in-Some.ensures.steps.0 in
    let was = at.invariant.1 in
    let gone = c.in-Some.ensures.steps.1 in
    let short = ap length steps in
    let with : IsWith x at.graph c.keep.new.self = c.in_ok-keep.ensures.kept in (
      append_assoc at.yielded (x ∷ []) rest ∙ (ap (λ zs. at.yielded ++ zs) (sym steps) ∙ at.invariant.0),
      omega arith,
      kept_more at.yielded x at.graph c.keep.new.self with at.invariant.2,
      more_kept at.yielded x at.graph c.keep.new.self with at.invariant.3,
      λ site. ap (λ fs. floor_in fs site) with.floors ∙ at.invariant.4 site,
      tt,
      tt,
    )

pub returns-clause-kept : goal.returns-clause-kept
returns-clause-kept c =
    let at = c.loop-commit in
    let none = c.in-None.ensures.steps in
    let empty : into_iter_items at.commit-iterator ≡ [] = nothing_left (into_iter_items at.commit-iterator) (sym at.invariant.1 ∙ none.0) in
    let all : at.yielded ≡ c.args.commits.items =
    sym (append-nil at.yielded) ∙ (ap (λ zs. at.yielded ++ zs) (sym empty) ∙ (at.invariant.0 ∙ c.into_iter-commit-iterator.ensures.into_iter_gives.0)) in
    λ a. (λ i. subst (In a) all (at.invariant.2 a i), λ i. at.invariant.3 a (subst (In a) (sym all) i))

pub returns-clause-stands : goal.returns-clause-stands
returns-clause-stands c =
    let same = returns-clause-kept c in
    stands_whole c.args.commits.items c.loop-commit.graph (λ a i. (same a).0 i) (λ a i. (same a).1 i)
