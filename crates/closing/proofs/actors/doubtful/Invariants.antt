use Rattle.std.proofs.Common.{List, take}
use Rattle.fed_rules.specs.declared.commands.Command.{Command}
use Rattle.fed_rules.specs.Sessions.{Session}
use Rattle.fed_rules.specs.Story.{story_in}
use Rattle.closing_laws.specs.AtRest.{AllUp}
use Rattle.fed_world.specs.Worlds.{Recalls}
use Rattle.closing.specs.Steps.{AreDoubtful}
use Rattle.closing.proofs.actors.doubtful.Given as goal

-- those of the first sites
abbrev pub invariant-loop-site : goal.invariant-loop-site
invariant-loop-site l =
    (session : Session) (commands : List Command) → Recalls l.world session commands → AllUp (story_in session commands)
    → AreDoubtful session.plan (story_in session commands) (take l.site-index l.site-items) l.all.items
