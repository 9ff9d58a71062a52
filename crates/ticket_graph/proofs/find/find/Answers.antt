use Rattle.std.proofs.Common.{◌≡◌, rules, false, Some, None, List, sym, ap, ◌∙◌, subst, arith}
use Rattle.mdb_base.specs.declared.names.SiteTicket.{SiteTicket}
use Rattle.mdb_base.specs.Words.{Each, some_of}
use Rattle.ticket_graph.specs.declared.steps.Step.{Step}
use Rattle.ticket_graph.specs.Steps.{IsDone, Follows}
use Rattle.ticket_graph.specs.Trail.{is_reached_tid, IsAt, IsTrail}
use Rattle.ticket_graph.proofs.EdgeSites.{first_site, site_some, site_none}
use Rattle.ticket_graph.proofs.Leading.{closed_at_once, leads_to}
use Rattle.ticket_graph.proofs.Searching.{search_starts, search_goes_on, search_ends, trail_within}
use Rattle.ticket_graph.proofs.find.find.Goals as goal

pub returns-then-not-leads_on : goal.returns-then-not-leads_on
returns-then-not-leads_on c =
    let attempts = c.args.attempts.now in
    let none : some_of (leads_to c.args.added.now.tickets) attempts ≡ false =
    ap (λ (ts : List SiteTicket). some_of (leads_to ts) attempts) (sym c.tickets.ensures.items) ∙ (sym c.leads_on.ensures ∙ c.if-not-leads_on.true) in
    closed_at_once c.args.added.now attempts c.new.result none (search rules)

pub loop-next-init : goal.loop-next-init
loop-next-init c =
    let unmet = c.in_ok-search.search.unmet in
    let steps = c.in_ok-search.search.steps.items in
    let left = c.follow.new.self.unmet in
    let longer = c.follow.new.self.steps.items in
    search_starts c.args.attempts.now c.args.added.now unmet left steps longer c.in_ok-search.ensures.unmet c.in_ok-search.ensures.steps
    (subst (λ (ts : List SiteTicket). Follows None ts unmet steps left longer) c.tickets-2.ensures.items c.in_ok-follow.ensures.follows)
    (subst (λ (ts : List SiteTicket). Each (IsDone left) ts) c.tickets-2.ensures.items c.in_ok-follow.ensures.done)

pub attempt_at-attempt-requires-clause-steps : goal.attempt_at-attempt-requires-clause-steps
attempt_at-attempt-requires-clause-steps c =
    trail_within c.args.attempts.now c.args.added.now c.as_slice.result.now
    (subst (IsTrail c.args.attempts.now c.args.added.now) (sym c.as_slice.ensures.value) c.loop-next.invariant.trail)

pub cycle_of-requires-clause-back : goal.cycle_of-requires-clause-back
cycle_of-requires-clause-back c =
    let a = c.attempt_at-attempt.result.now in
    let added = c.args.added.now in
    let site : first_site a.tickets added.tickets ≡ Some c.in-Some.back =
    sym (ap (λ (ts : List SiteTicket). first_site ts c.tickets-in-loop-next-2.result.now) c.tickets-in-loop-next.ensures.items
    ∙ ap (λ (ts : List SiteTicket). first_site a.tickets ts) c.tickets-in-loop-next-2.ensures.items)
    ∙ (sym c.edge_site.ensures ∙ c.in-Some.is) in
    record {
      attempt = a;
      is_at = subst (λ (ss : List Step). IsAt c.args.attempts.now ss c.loop-next.next a) (c.as_slice.ensures.value ∙ sym c.as_slice-in-Some.ensures.value) c.attempt_at-attempt.ensures;
      precedes = site_some a added c.in-Some.back site;
    }

pub loop-next-preserved : goal.loop-next-preserved
loop-next-preserved c =
    let a = c.attempt_at-attempt.result.now in
    let added = c.args.added.now in
    let unmet = c.loop-next.search.unmet in
    let steps = c.loop-next.search.steps.items in
    let left = c.follow-in-loop-next.new.self.unmet in
    let longer = c.follow-in-loop-next.new.self.steps.items in
    let site : first_site a.tickets added.tickets ≡ None =
    sym (ap (λ (ts : List SiteTicket). first_site ts c.tickets-in-loop-next-2.result.now) c.tickets-in-loop-next.ensures.items
    ∙ ap (λ (ts : List SiteTicket). first_site a.tickets ts) c.tickets-in-loop-next-2.ensures.items)
    ∙ (sym c.edge_site.ensures ∙ c.in_default.is) in
    let at : IsAt c.args.attempts.now steps c.loop-next.next a =
    subst (λ (ss : List Step). IsAt c.args.attempts.now ss c.loop-next.next a) c.as_slice.ensures.value c.attempt_at-attempt.ensures in
    search_goes_on c.args.attempts.now added unmet left steps longer c.loop-next.next at.step a c.loop-next.invariant at.is_step at.is_attempt
    (site_none a added site)
    (subst (λ (ts : List SiteTicket). Follows (Some c.loop-next.next) ts unmet steps left longer) c.tickets-in-loop-next-3.ensures.items c.in_ok-follow-2.ensures.follows)
    (subst (λ (ts : List SiteTicket). Each (IsDone left) ts) c.tickets-in-loop-next-3.ensures.items c.in_ok-follow-2.ensures.done)

pub reached_tids-requires : goal.reached_tids-requires
reached_tids-requires c =
    trail_within c.args.attempts.now c.args.added.now c.as_slice-2.result.now
    (subst (IsTrail c.args.attempts.now c.args.added.now) (sym c.as_slice-2.ensures.value) c.loop-next.invariant.trail)

pub returns : goal.returns
returns c =
    search_ends c.args.attempts.now c.args.added.now c.loop-next.search.unmet c.loop-next.search.steps.items c.loop-next.next c.in_ok-tids.tids
    c.requires c.loop-next.invariant (omega (arith, c.loop-next.search.steps.ok.0))
    (λ t. c.in_ok-tids.ensures t ∙ ap (λ (ss : List Step). is_reached_tid c.args.attempts.now ss t) c.as_slice-2.ensures.value)
