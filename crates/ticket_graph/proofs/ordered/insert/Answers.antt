use Rattle.std.proofs.Common.{◌≡◌, false, List, [], ◌∷◌, ◌++◌, sym, ap, ◌∙◌, subst, append_assoc}
use Rattle.mdb_base.specs.declared.names.SiteTicket.{SiteTicket}
use Rattle.mdb_base.specs.Words.{some_of}
use Rattle.order_laws.specs.Tickets.{Ticketed}
use Rattle.ticket_graph.specs.Reach.{reached, unreached, IsLowest}
use Rattle.ticket_graph.proofs.Leading.{all_unreached, leads_to, none_reached}
use Rattle.ticket_graph.proofs.ordered.insert.Goals as goal

pub returns-then-not-leads_on-clause-inserted : goal.returns-then-not-leads_on-clause-inserted
returns-then-not-leads_on-clause-inserted c =
    let g : Ticketed = c.args.attempt in
    let old = c.args.attempts.now.items in
    let none : some_of (leads_to g.tickets) old ≡ false =
    ap (λ (ts : List SiteTicket). some_of (leads_to ts) old) (sym c.tickets.ensures.items)
    ∙ (ap (λ (ns : List Ticketed). some_of (leads_to c.tickets.result.now) ns) (sym c.as_slice.ensures.value) ∙ (sym c.leads_on.ensures ∙ c.if-not-leads_on.true)) in
    c.in_ok-push.ensures.items
    ∙ (ap (λ (ns : List Ticketed). ns ++ g ∷ []) (sym (all_unreached g.tickets old none))
    ∙ ap (λ (ns : List Ticketed). unreached g.tickets old ++ g ∷ ns) (sym (none_reached g.tickets old none)))

pub returns-clause-inserted : goal.returns-clause-inserted
returns-clause-inserted c =
    let g : Ticketed = c.args.attempt in
    let old = c.args.attempts.now.items in
    let low : IsLowest c.meet.new.self.at g.tickets =
    subst (IsLowest c.meet.new.self.at) c.tickets-2.ensures.items (c.meet.ensures [] c.new-lowest.ensures) in
    let was : c.replace-old.result.items ≡ old = ap (λ v. v.items) c.replace-old.ensures.value in
    let front : c.part.new.front.items ≡ unreached g.tickets old =
    c.part.ensures.front g.tickets low ∙ (ap (λ xs. xs ++ unreached g.tickets c.replace-old.result.items) c.in_ok-front.ensures.items ∙ ap (unreached g.tickets) was) in
    let behind : c.part.new.behind.items ≡ reached g.tickets old =
    c.part.ensures.behind g.tickets low ∙ (ap (λ xs. xs ++ reached g.tickets c.replace-old.result.items) c.in_ok-behind.ensures.items ∙ ap (reached g.tickets) was) in
    c.append.ensures ∙ (ap (λ xs. xs ++ c.part.new.behind.items) c.push_reserved.ensures.items
    ∙ (append_assoc c.part.new.front.items (g ∷ []) c.part.new.behind.items
    ∙ (ap (λ xs. xs ++ g ∷ c.part.new.behind.items) front ∙ ap (λ xs. unreached g.tickets old ++ g ∷ xs) behind)))
