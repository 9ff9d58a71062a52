use Rattle.std.proofs.Common.{ℕ, ◌≡◌, ◌<◌, Option, Some, None, [], ◌∷◌, ◌++◌, get_or, slice_get, sym, ap, ◌∙◌, subst}
use Rattle.mdb_base.specs.declared.names.Tid.{Tid}
use Rattle.mdb_base.proofs.ForCallers.{slice_get-below}
use Rattle.order_laws.specs.Tickets.{IsCycle}
use Rattle.ticket_graph.specs.declared.steps.Step.{Step}
use Rattle.ticket_graph.proofs.StepLemmas.{read, here}
use Rattle.ticket_graph.proofs.TrailLemmas.{IsGoingBack, steps_left, goes_back, fewer_left, back_ends}
use Rattle.ticket_graph.proofs.find.cycle_of.Goals as goal

pub loop-place-smaller : goal.loop-place-smaller
loop-place-smaller c =
    let attempts = c.args.attempts.now in
    let steps = c.args.steps.now in
    let at = c.in-Some.at in
    let step : Step = get_or steps at (record { attempt = 0; site = record { 0 = 0 }; from = None }) in
    let back : IsGoingBack attempts c.args.added.now steps (Some at) c.loop-place.to c.loop-place.site c.loop-place.edges.items =
    subst (λ (place : Option ℕ). IsGoingBack attempts c.args.added.now steps place c.loop-place.to c.loop-place.site c.loop-place.edges.items) c.in-Some.is c.loop-place.invariant in
    let there : slice_get steps at ≡ Some step = here steps at _ (slice_get-below steps at back.is_source.1.step back.is_source.1.is_step) in
    subst (λ (place : Option ℕ). steps_left step.from < steps_left place) (sym c.in-Some.is) (fewer_left attempts c.args.added.now steps at step c.requires.trail there)

pub loop-place-preserved : goal.loop-place-preserved
loop-place-preserved c =
    let attempts = c.args.attempts.now in
    let added = c.args.added.now in
    let steps = c.args.steps.now in
    let at = c.in-Some.at in
    let to = c.loop-place.to in
    let site = c.loop-place.site in
    let edges = c.loop-place.edges.items in
    let step : Step = get_or steps at (record { attempt = 0; site = record { 0 = 0 }; from = None }) in
    let back : IsGoingBack attempts added steps (Some at) to site edges =
    subst (λ (place : Option ℕ). IsGoingBack attempts added steps place to site edges) c.in-Some.is c.loop-place.invariant in
    let there : slice_get steps at ≡ Some step = here steps at _ (slice_get-below steps at back.is_source.1.step back.is_source.1.is_step) in
    let way = c.requires.trail at step there in
    let a = c.index-attempts-step.result in
    let has : slice_get attempts step.attempt ≡ Some a =
    read attempts step.attempt a (slice_get-below attempts step.attempt way.target way.is_target) c.index-attempts-step.is in
    let pushed : c.push.new.self.items ≡ edges ++ record { from = a.tid; to = to; site = site } ∷ [] =
    c.in_ok-push.ensures.items ∙ ap (λ (from : Tid). edges ++ record { from = from; to = to; site = site } ∷ []) c.tid-from.ensures in
    subst (λ (from : Tid). IsGoingBack attempts added steps step.from from step.site c.push.new.self.items) (sym c.tid-from.ensures)
    (goes_back attempts added steps at to site edges c.push.new.self.items step a c.requires.trail there has pushed back)

pub returns : goal.returns
returns c =
    let attempts = c.args.attempts.now in
    let added = c.args.added.now in
    let to = c.loop-place.to in
    let site = c.loop-place.site in
    let edges = c.loop-place.edges.items in
    let back : IsGoingBack attempts added c.args.steps.now None to site edges =
    subst (λ (place : Option ℕ). IsGoingBack attempts added c.args.steps.now place to site edges) c.in_default.is c.loop-place.invariant in
    let pushed : c.push-2.new.self.items ≡ edges ++ record { from = added.tid; to = to; site = site } ∷ [] =
    c.in_ok-push-2.ensures.items ∙ ap (λ (from : Tid). edges ++ record { from = from; to = to; site = site } ∷ []) c.tid.ensures in
    subst (IsCycle (added ∷ attempts) added.tid) (sym (c.of.ensures ∙ c.reverse.ensures.items))
    (back_ends attempts added c.args.steps.now to site edges c.push-2.new.self.items pushed back)
