use Rattle.std.proofs.Common.{◌∙◌, List, [], ◌∷◌, ◌++◌, get_or, sym, ap₂}
use Rattle.std.proofs.lemmas.Option.{slice_get-get_or}
use Rattle.fed_rules.specs.declared.report.Outcome.{Outcome}
use Rattle.fed_rules.specs.Story.{story_in}
use Rattle.fed_world.specs.Reporting.{outcome_at}
use Rattle.fed_world.proofs.SessionParts.{taken_more}
use Rattle.fed_world.proofs.world.World.outcomes_of.Goals as goal

pub loop-tid-preserved : goal.loop-tid-preserved
loop-tid-preserved c = λ session commands k rests.
    let place = c.loop-tid.tid-index in
    let tid = get_or c.args.begun.now place _ in
    c.in_ok-push.ensures.items
    ∙ (ap₂ (λ (outcomes : List Outcome) (one : Outcome). outcomes ++ one ∷ []) (c.loop-tid.invariant session commands k rests) (c.outcome_of-outcome.ensures session commands k rests)
    ∙ sym (taken_more (outcome_at (story_in session commands)) c.args.begun.now place tid (slice_get-get_or c.args.begun.now place _ c.loop-tid-test.true)))
