use Rattle.std.proofs.Common.{◌≡◌, map, take}
use Rattle.fed_rules.specs.Story.{story_in}
use Rattle.fed_world.specs.Reporting.{outcome_at}
use Rattle.fed_world.specs.Worlds.{EachStory, Recalls, Rests}
use Rattle.fed_world.proofs.world.World.outcomes_of.Given as goal

abbrev pub invariant-loop-tid : goal.invariant-loop-tid
invariant-loop-tid l = EachStory (Recalls l.self) (λ session commands. Rests session commands → l.outcomes.items ≡ map (outcome_at (story_in session commands)) (take l.tid-index l.begun))
