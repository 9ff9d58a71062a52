use Rattle.std.proofs.Common.{◌≡◌, map, take}
use Rattle.fed_rules.specs.Scenarios.{sites}
use Rattle.fed_rules.specs.Story.{story_in}
use Rattle.fed_world.specs.Reporting.{rows_at}
use Rattle.fed_world.specs.Worlds.{EachStory, Recalls, Rests}
use Rattle.fed_world.proofs.world.World.tables.Given as goal

abbrev pub invariant-loop-place : goal.invariant-loop-place
invariant-loop-place l = EachStory (Recalls l.self) (λ session commands. Rests session commands → l.tables.items ≡ map (rows_at session.plan (story_in session commands)) (take l.place (sites session.plan)))
