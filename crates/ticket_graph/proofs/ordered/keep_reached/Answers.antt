use Rattle.std.proofs.Common.{ℕ, ◌≡◌, ◌+◌, ◌<◌, ◌≤◌, List, [], ◌∷◌, ◌++◌, length, take, drop, sym, ap, ◌∙◌, subst, arith}
use Rattle.std.proofs.lemmas.List.{drop_all}
use Rattle.mdb_base.specs.declared.names.SiteId.{SiteId}
use Rattle.mdb_base.specs.declared.names.SiteTicket.{SiteTicket}
use Rattle.order_laws.specs.Tickets.{Ticketed}
use Rattle.ticket_graph.specs.Reach.{are_before, floor_in, highest, IsLowest}
use Rattle.ticket_graph.proofs.Keeping.{IsKeeping, keeping_keeps, keeping_drops, keeping_ends, swapped_take, swapped_drop, drop_next, drop_on, of_same}
use Rattle.ticket_graph.proofs.ordered.keep_reached.Goals as goal
use Rattle.ticket_graph.proofs.ordered.keep_reached.Goals.{then-leads_to, else-leads_to}

pub loop-place-preserved : goal.loop-place-preserved
loop-place-preserved c =
    let i = c.loop-place.place in
    let kept = c.loop-place.kept in
    let old = c.args.attempts.now.items in
    let now = c.loop-place.attempts.items in
    let floors = c.loop-place.floors in
    let lowest = c.loop-place.lowest.at in
    let x : Ticketed = c.index.result.now in
    let ks : c.tickets-tickets.result.now ≡ x.tickets = c.tickets-tickets.ensures.items in
    let front : kept ≤ i = c.loop-place.invariant.0 in
    let within : i < length now = omega arith in
    let rest : drop i now ≡ x ∷ drop (i + 1) now = drop_next now i x within (sym c.index.ensures) in
    let leads : (met : List SiteTicket) → IsLowest lowest met → c.leads_to.result ≡ are_before met x.tickets =
    λ met h. c.leads_to.ensures met h ∙ ap (are_before met) ks in
    let before : (met : List SiteTicket) → IsLowest c.args.lowest.at met → IsKeeping met old c.args.floors.now (take kept now) (x ∷ drop (i + 1) now) floors lowest =
    λ met h. subst (λ (xs : List Ticketed). IsKeeping met old c.args.floors.now (take kept now) xs floors lowest) rest (c.loop-place.invariant.3 met h) in
    let left : drop (i + 1) now ≡ drop (i + 1) old = drop_on now old i c.loop-place.invariant.2 in
    let Good : ℕ → List Ticketed → List ℕ → List ℕ → Type 0 =
    λ n xs fs ls. (n ≤ i + 1) × (length xs ≡ length old) × (drop (i + 1) xs ≡ drop (i + 1) old)
    × ((met : List SiteTicket) → IsLowest c.args.lowest.at met → IsKeeping met old c.args.floors.now (take n xs) (drop (i + 1) xs) fs ls) in
    elim c.if-leads_to.branch [
      | then-leads_to w ↦
          let swapped = w.swap.new.self.items in
          let more : take (kept + 1) swapped ≡ take kept now ++ x ∷ [] =
          swapped_take now swapped kept i x front within w.swap.ensures.by_index ∙ ap (λ y. take kept now ++ y ∷ []) (sym c.index.ensures) in
          let less : drop (i + 1) swapped ≡ drop (i + 1) now = swapped_drop now swapped kept i x front w.swap.ensures.by_index in
          let meets : (met : List SiteTicket) → IsLowest lowest met → IsLowest w.meet.new.self.at (met ++ x.tickets) =
          λ met h. subst (λ (ts : List SiteTicket). IsLowest w.meet.new.self.at (met ++ ts)) ks (w.meet.ensures met h) in
          let next : (met : List SiteTicket) → IsLowest c.args.lowest.at met →
          IsKeeping met old c.args.floors.now (take (kept + 1) swapped) (drop (i + 1) swapped) floors w.meet.new.self.at =
          λ met h. subst (λ (zs : List Ticketed). IsKeeping met old c.args.floors.now zs (drop (i + 1) swapped) floors w.meet.new.self.at) (sym more)
          (subst (λ (zs : List Ticketed). IsKeeping met old c.args.floors.now (take kept now ++ x ∷ []) zs floors w.meet.new.self.at) (sym less)
          (keeping_keeps met old c.args.floors.now (take kept now) x (drop (i + 1) now) floors lowest w.meet.new.self.at c.leads_to.result
          (before met h) leads w.if-leads_to.true meets)) in
          of_same Good c.if-leads_to.kept (kept + 1) c.if-leads_to.attempts.items swapped c.if-leads_to.floors floors c.if-leads_to.lowest.at w.meet.new.self.at
          w.kept-is (ap (λ v. v.items) w.attempts-is) w.floors-is (ap (λ l. l.at) w.lowest-is)
          (omega arith, omega arith, less ∙ left, next)
      | else-leads_to w ↦
          let higher = w.raise.new.floors in
          let raises : (site : SiteId) → floor_in higher site ≡ highest site (floor_in floors site) x.tickets =
          λ site. w.raise.ensures site ∙ ap (λ ts. highest site (floor_in floors site) ts) ks in
          of_same Good c.if-leads_to.kept kept c.if-leads_to.attempts.items now c.if-leads_to.floors higher c.if-leads_to.lowest.at lowest
          w.kept-is (ap (λ v. v.items) w.attempts-is) w.floors-is (ap (λ l. l.at) w.lowest-is) (
            omega arith,
            c.loop-place.invariant.1,
            left,
            λ met h. keeping_drops met old c.args.floors.now (take kept now) x (drop (i + 1) now) floors higher lowest c.leads_to.result
                (before met h) leads w.if-leads_to.false raises,
          )
    ]

pub returns-clause-kept : goal.returns-clause-kept
returns-clause-kept c =
    let i = c.loop-place.place in
    let now = c.loop-place.attempts.items in
    let old = c.args.attempts.now.items in
    let none : drop i now ≡ [] = drop_all i now (omega arith) in
    λ met h. c.truncate.ensures.items ∙ keeping_ends met old c.args.floors.now (take c.loop-place.kept now) c.loop-place.floors c.loop-place.lowest.at
    (subst (λ (xs : List Ticketed). IsKeeping met old c.args.floors.now (take c.loop-place.kept now) xs c.loop-place.floors c.loop-place.lowest.at) none (c.loop-place.invariant.3 met h))

pub returns-clause-floors : goal.returns-clause-floors
returns-clause-floors c =
    let i = c.loop-place.place in
    let now = c.loop-place.attempts.items in
    let old = c.args.attempts.now.items in
    let none : drop i now ≡ [] = drop_all i now (omega arith) in
    λ met h site.
    let k = subst (λ (xs : List Ticketed). IsKeeping met old c.args.floors.now (take c.loop-place.kept now) xs c.loop-place.floors c.loop-place.lowest.at) none (c.loop-place.invariant.3 met h) in
    sym (k.is_dropped site)
