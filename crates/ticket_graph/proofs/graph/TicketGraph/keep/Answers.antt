use Rattle.std.proofs.Common.{List, sym, subst, refl}
use Rattle.order_laws.specs.Chains.{In}
use Rattle.order_laws.specs.Tickets.{Ticketed, OneEach}
use Rattle.ticket_graph.specs.declared.verdict.Verdict.TheVariants.{Added}
use Rattle.ticket_graph.specs.Graph.{Graph, tids_of, IsForwards, IsVerdict, IsWith}
use Rattle.ticket_graph.proofs.GraphLemmas.{no_loop}
use Rattle.ticket_graph.proofs.Forwards.{one_in, in_one, forwards_one, once_one}
use Rattle.ticket_graph.proofs.graph.TicketGraph.keep.Goals as goal

pub invariant_of-self-2 : goal.invariant_of-self-2
invariant_of-self-2 c =
    let g : Ticketed = c.args.attempt in
    let ns = c.self.inside.attempts.items in
    let new : In g.tid (tids_of ns) → ⊥ = subst (λ (x : Graph). In g.tid (tids_of x.kept) → ⊥) (sym c.self.view_is) c.requires.new in
    let free : IsVerdict ns g Added = subst (λ (x : Graph). IsVerdict x.kept g Added) (sym c.self.view_is) c.requires.no_cycle in
    subst (λ (xs : List Ticketed). OneEach xs × IsForwards xs) (sym c.in_ok-insert.ensures.inserted)
    (once_one g ns c.self.invariant.0 new, forwards_one g ns c.self.invariant.1 free (no_loop g c.in_ok-insert.ensures.rising))

pub returns-clause-kept : goal.returns-clause-kept
returns-clause-kept c =
    let g : Ticketed = c.args.attempt in
    let ns = c.self.inside.attempts.items in
    let new : Graph = record { kept = c.insert.new.attempts.items; floors = c.self.inside.floors } in
    subst (λ (x : Graph). IsWith g x new) c.self.view_is (record {
      all = λ a i. subst (In a) (sym c.in_ok-insert.ensures.inserted) (one_in g ns a i);
      alone = λ a i. in_one g ns a (subst (In a) c.in_ok-insert.ensures.inserted i);
      floors = refl;
    })

pub returns-clause-apart : goal.returns-clause-apart
returns-clause-apart c =
    let g : Ticketed = c.args.attempt in
    let ns = c.self.inside.attempts.items in
    let new : In g.tid (tids_of ns) → ⊥ = subst (λ (x : Graph). In g.tid (tids_of x.kept) → ⊥) (sym c.self.view_is) c.requires.new in
    subst OneEach (sym c.in_ok-insert.ensures.inserted) (once_one g ns c.self.invariant.0 new)
