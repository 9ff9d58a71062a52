use Rattle.std.proofs.Common.{ap, sym, ◌∙◌}
use Rattle.std.proofs.lemmas.Result.{err_from_is_err_and}
use Rattle.scenario_text.specs.Pieces.{pieces, space}
use Rattle.scenario_text.specs.Steps.{behind, steps_of}
use Rattle.scenario_text.proofs.StepLemmas.{behind_none, goes_on, stops, ends}
use Rattle.scenario_text.proofs.steps.steps_of.Goals as goal

pub loop-word-init : goal.loop-word-init
loop-word-init c =
    let words = steps_of c.args.sites.now c.args.home (pieces space c.args.words.now) in
    c.in_ok-rest.ensures ∙ ap (λ front. behind front words) c.in_ok-steps.ensures.items ∙ behind_none words

pub returns-in_err-step_of : goal.returns-in_err-step_of
returns-in_err-step_of c =
    let p = err_from_is_err_and c.from_residual-in_err-step_of.result c.from_residual-in_err-step_of.ensures.1 in
    let front = c.loop-word.steps.items in
    let cut = ap (λ words. behind front (steps_of c.args.sites.now c.args.home words)) c.in-Some.ensures.pieces in
    rw (p.1, p.2) (sym c.loop-word.invariant ∙ cut ∙ stops c.args.sites.now c.args.home front c.in-Some.word.now _ _ (sym c.in_err-step_of.ensures))

pub loop-word-preserved : goal.loop-word-preserved
loop-word-preserved c =
    let front = c.loop-word.steps.items in
    let rest = pieces space c.in-Some.more.now in
    let cut = ap (λ words. behind front (steps_of c.args.sites.now c.args.home words)) c.in-Some.ensures.pieces in
    let turn = goes_on c.args.sites.now c.args.home front c.in-Some.word.now rest _ (sym c.in_ok-step_of.ensures) in
    ap (λ steps. behind steps (steps_of c.args.sites.now c.args.home rest)) c.in_ok-push.ensures.items ∙ sym turn ∙ sym cut ∙ c.loop-word.invariant

pub returns-in_err-step_of-2 : goal.returns-in_err-step_of-2
returns-in_err-step_of-2 c =
    let p = err_from_is_err_and c.from_residual-in_err-step_of-2.result c.from_residual-in_err-step_of-2.ensures.1 in
    let front = c.loop-word.steps.items in
    let cut = ap (λ words. behind front (steps_of c.args.sites.now c.args.home words)) c.in_default.ensures.pieces in
    rw (p.1, p.2) (sym c.loop-word.invariant ∙ cut ∙ stops c.args.sites.now c.args.home front c.loop-word.rest.now _ _ (sym c.in_err-step_of-2.ensures))

pub returns : goal.returns
returns c =
    let front = c.loop-word.steps.items in
    let cut = ap (λ words. behind front (steps_of c.args.sites.now c.args.home words)) c.in_default.ensures.pieces in
    let last = ends c.args.sites.now c.args.home front c.loop-word.rest.now _ (sym c.in_ok-step_of-2.ensures) in
    rw (c.of.ensures, c.in_ok-push-2.ensures.items) (sym c.loop-word.invariant ∙ cut ∙ last)
