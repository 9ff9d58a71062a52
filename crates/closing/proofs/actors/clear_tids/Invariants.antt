use Rattle.std.proofs.Common.{◌≡◌, ◌++◌, List, take}
use Rattle.fed_rules.specs.declared.commands.Command.{Command}
use Rattle.fed_rules.specs.Sessions.{Session}
use Rattle.fed_rules.specs.SitePast.{is_local}
use Rattle.fed_rules.specs.Story.{past_of, story_in}
use Rattle.fed_world.specs.Worlds.{Recalls}
use Rattle.closing.specs.Steps.{ending_of}
use Rattle.closing.proofs.actors.clear_tids.Given as goal

-- the commands that end the first ones were appended
abbrev pub invariant-loop-tid : goal.invariant-loop-tid
invariant-loop-tid l =
    (session : Session) (before : List Command) → Recalls l.world session before
    → l.commands.items ≡ l.fn.commands.items ++ ending_of (is_local (past_of l.site (story_in session before))) l.site l.local (take l.tid-index l.tids)
