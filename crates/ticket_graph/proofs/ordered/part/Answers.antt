use Rattle.std.proofs.Common.{◌≡◌, List, [], ◌∷◌, ◌++◌, length, sym, ap, ◌∙◌, subst, arith}
use Rattle.std.specs.Vec.Iter.{into_iter_items}
use Rattle.mdb_base.specs.declared.names.SiteTicket.{SiteTicket}
use Rattle.mdb_base.proofs.ForCallers.{nothing_left}
use Rattle.order_laws.specs.Tickets.{Ticketed}
use Rattle.ticket_graph.specs.Reach.{are_before, reached, unreached, IsLowest}
use Rattle.ticket_graph.proofs.Keeping.{IsParting, parting_goes_behind, parting_goes_front, parting_ends}
use Rattle.ticket_graph.proofs.ordered.part.Goals as goal

pub loop-attempt-preserved-then-leads_to : goal.loop-attempt-preserved-then-leads_to
loop-attempt-preserved-then-leads_to c =
    let at = c.loop-attempt in
    let x : Ticketed = c.in-Some.attempt in
    let rest = into_iter_items c.next.new.self in
    let steps : into_iter_items at.attempt-iterator ≡ x ∷ rest = c.in-Some.ensures.steps.0 in
    let gone = c.in-Some.ensures.steps.1 in
    let short = ap length steps in
    let was = at.invariant.0 in
    let front_room = at.invariant.1 in
    let behind_room = at.invariant.2 in
    let same = at.invariant.3 in
    let count = at.invariant.4 in
    let pushed = c.push_reserved.ensures.len in
    let room = c.push_reserved.ensures.capacity in
    let ks : c.tickets.result.now ≡ x.tickets = c.tickets.ensures.items in
    let front = c.args.front.now.items in
    let behind = c.args.behind.now.items in (
      omega arith,
      omega arith,
      omega arith,
      same,
      omega arith,
      λ met h. subst (λ (ys : List Ticketed). IsParting met (into_iter_items c.into_iter-attempt-iterator.result) front behind at.front.items ys rest c.meet.new.self.at)
          (sym c.push_reserved.ensures.items)
          (parting_goes_behind met (into_iter_items c.into_iter-attempt-iterator.result) front behind at.front.items at.behind.items x rest at.lowest.at c.meet.new.self.at
          c.leads_to.result
          (subst (λ (ys : List Ticketed). IsParting met (into_iter_items c.into_iter-attempt-iterator.result) front behind at.front.items at.behind.items ys at.lowest.at) steps (at.invariant.5 met h))
          (λ now k. c.leads_to.ensures now k ∙ ap (are_before now) ks) c.if-leads_to.true
          (λ now k. subst (λ (ts : List SiteTicket). IsLowest c.meet.new.self.at (now ++ ts)) c.tickets-then-leads_to.ensures.items (c.meet.ensures now k))),
      tt,
      tt,
    )

pub loop-attempt-preserved : goal.loop-attempt-preserved
loop-attempt-preserved c =
    let at = c.loop-attempt in
    let x : Ticketed = c.in-Some.attempt in
    let rest = into_iter_items c.next.new.self in
    let steps : into_iter_items at.attempt-iterator ≡ x ∷ rest = c.in-Some.ensures.steps.0 in
    let gone = c.in-Some.ensures.steps.1 in
    let short = ap length steps in
    let was = at.invariant.0 in
    let front_room = at.invariant.1 in
    let behind_room = at.invariant.2 in
    let same = at.invariant.3 in
    let count = at.invariant.4 in
    let pushed = c.push_reserved-else-leads_to.ensures.len in
    let room = c.push_reserved-else-leads_to.ensures.capacity in
    let ks : c.tickets.result.now ≡ x.tickets = c.tickets.ensures.items in
    let front = c.args.front.now.items in
    let behind = c.args.behind.now.items in (
      omega arith,
      omega arith,
      omega arith,
      omega arith,
      omega arith,
      λ met h. subst (λ (ys : List Ticketed). IsParting met (into_iter_items c.into_iter-attempt-iterator.result) front behind ys at.behind.items rest at.lowest.at)
          (sym c.push_reserved-else-leads_to.ensures.items)
          (parting_goes_front met (into_iter_items c.into_iter-attempt-iterator.result) front behind at.front.items at.behind.items x rest at.lowest.at
          c.leads_to.result
          (subst (λ (ys : List Ticketed). IsParting met (into_iter_items c.into_iter-attempt-iterator.result) front behind at.front.items at.behind.items ys at.lowest.at) steps (at.invariant.5 met h))
          (λ now k. c.leads_to.ensures now k ∙ ap (are_before now) ks) c.if-leads_to.false),
      tt,
      tt,
    )

pub returns-clause-front : goal.returns-clause-front
returns-clause-front c =
    let at = c.loop-attempt in
    let all = into_iter_items c.into_iter-attempt-iterator.result in
    let whole : all ≡ c.args.attempts.items = c.into_iter-attempt-iterator.ensures.into_iter_gives.0 in
    let none = c.in-None.ensures.steps in
    let empty : into_iter_items at.attempt-iterator ≡ [] = nothing_left (into_iter_items at.attempt-iterator) (sym at.invariant.0 ∙ none.0) in
    λ met h. (parting_ends met all c.args.front.now.items c.args.behind.now.items at.front.items at.behind.items at.lowest.at
    (subst (λ (xs : List Ticketed). IsParting met all c.args.front.now.items c.args.behind.now.items at.front.items at.behind.items xs at.lowest.at) empty (at.invariant.5 met h))).0
    ∙ ap (λ xs. c.args.front.now.items ++ unreached met xs) whole

pub returns-clause-behind : goal.returns-clause-behind
returns-clause-behind c =
    let at = c.loop-attempt in
    let all = into_iter_items c.into_iter-attempt-iterator.result in
    let whole : all ≡ c.args.attempts.items = c.into_iter-attempt-iterator.ensures.into_iter_gives.0 in
    let none = c.in-None.ensures.steps in
    let empty : into_iter_items at.attempt-iterator ≡ [] = nothing_left (into_iter_items at.attempt-iterator) (sym at.invariant.0 ∙ none.0) in
    λ met h. (parting_ends met all c.args.front.now.items c.args.behind.now.items at.front.items at.behind.items at.lowest.at
    (subst (λ (xs : List Ticketed). IsParting met all c.args.front.now.items c.args.behind.now.items at.front.items at.behind.items xs at.lowest.at) empty (at.invariant.5 met h))).1
    ∙ ap (λ xs. c.args.behind.now.items ++ reached met xs) whole
