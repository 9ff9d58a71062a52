use Rattle.std.proofs.Common.{◌∙◌, ap}
use Rattle.presumptions.specs.declared.Decision.{Decision}
use Rattle.fed_rules.specs.declared.report.Outcome.{Outcome}
use Rattle.fed_rules.specs.Scenarios.{global_program}
use Rattle.fed_rules.specs.Story.{coord_past, story_in}
use Rattle.fed_world.specs.Asks.{terms_of}
use Rattle.fed_world.proofs.Reports.{outcome_is}
use Rattle.fed_world.proofs.world.World.outcome_of.Goals as goal

pub returns : goal.returns
returns c = λ session commands k rests.
    let past = coord_past (story_in session commands) in
    let held = c.core.ensures.held (terms_of session.plan) (global_program session.plan) past k.actors.coordinator in
    let is = c.committed-committed.ensures (terms_of session.plan) past held rests.coordinator_up in
    ap (λ (decision : Decision). let outcome : Outcome = record { tid = c.args.tid; decision = decision } in outcome)
    (c.decision_given.ensures ∙ outcome_is (terms_of session.plan) past held.sound c.committed-committed.result c.args.tid is)
