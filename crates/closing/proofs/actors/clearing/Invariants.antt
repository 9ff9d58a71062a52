use Rattle.std.proofs.Common.{◌≡◌, List, take}
use Rattle.fed_rules.specs.declared.commands.Command.{Command}
use Rattle.fed_rules.specs.Sessions.{Session}
use Rattle.fed_rules.specs.Story.{story_in}
use Rattle.closing_laws.specs.AtRest.{AllUp}
use Rattle.fed_world.specs.Worlds.{Recalls}
use Rattle.closing.specs.Steps.{clearing_of}
use Rattle.closing.proofs.actors.clearing.Given as goal

-- what the first sites do
abbrev pub invariant-loop-site : goal.invariant-loop-site
invariant-loop-site l =
    (session : Session) (before : List Command) → Recalls l.world session before → AllUp (story_in session before)
    → l.commands.items ≡ clearing_of session.plan (story_in session before) (take l.site-index l.site-items)
