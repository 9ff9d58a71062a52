use Rattle.std.proofs.Common.{◌≡◌, ◌==◌, true, false, ◌∙◌, sym, arith}
use Rattle.std.proofs.lemmas.Bool.Decides.{nat_tests}
use Rattle.ticket_graph.proofs.SearchLemmas.{first_above, none_above, first_elsewhere}
use Rattle.ticket_graph.proofs.search.Search.next_above.Goals as goal

pub returns-in-Some-clause-above : goal.returns-in-Some-clause-above
returns-in-Some-clause-above c =
    let same : (c.in-Some.entry.now.site.0 == c.args.ticket.site.0) ≡ true = sym c.eq.ensures ∙ c.if-eq.true in
    let fits = c.args.self.now.seen.small in
    first_above c.args.ticket c.args.self.now.unmet c.in-Some.entry.now c.range.result c.next.new.self (c.range.ensures.in_range tt) c.in-Some.ensures.steps
    (grind (arith, nat_tests))
    (λ h. let below = c.args.self.now.within c.in-Some.entry.now h in omega (arith, c.args.self.now.seen.ok.0, c.args.self.now.seen.ok.1))

pub returns-in_default-clause-done : goal.returns-in_default-clause-done
returns-in_default-clause-done c =
    let other : (c.in-Some.entry.now.site.0 == c.args.ticket.site.0) ≡ false = sym c.eq.ensures ∙ c.if-eq.false in
    first_elsewhere c.args.ticket c.args.self.now.unmet c.in-Some.entry.now c.range.result c.next.new.self (c.range.ensures.in_range tt) c.in-Some.ensures.steps
    (λ e. grind (arith, nat_tests))

pub returns-in_default-2-clause-done : goal.returns-in_default-2-clause-done
returns-in_default-2-clause-done c =
    none_above c.args.ticket c.args.self.now.unmet c.range.result (c.range.ensures.in_range tt) (rw c.in_default.is at c.next.ensures.steps).0
