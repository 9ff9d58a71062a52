use Rattle.std.proofs.Common.{ap, ◌∙◌}
use Rattle.scenario_text.specs.Pieces.{pieces, space}
use Rattle.scenario_text.specs.Steps.{behind, steps_of}
use Rattle.scenario_text.proofs.UsualSteps.{usual_more, usual_shorter}
use Rattle.scenario_text.proofs.usual_steps.read_usual.Goals as goal

pub loop-step-preserved : goal.loop-step-preserved
loop-step-preserved c =
    let left = steps_of c.args.sites.now c.args.home (pieces space c.in-Some.more.now) in
    ap (λ steps. behind steps left) c.in_ok-push.ensures.items
    ∙ usual_more c.args.sites.now c.args.home c.in-Some.step c.loop-step.rest.now c.in-Some.more.now c.in-Some.ensures c.loop-step.read.items
    ∙ c.loop-step.invariant

pub loop-step-smaller : goal.loop-step-smaller
loop-step-smaller c = usual_shorter c.args.sites.now c.args.home c.in-Some.step c.loop-step.rest.now c.in-Some.more.now c.in-Some.ensures
