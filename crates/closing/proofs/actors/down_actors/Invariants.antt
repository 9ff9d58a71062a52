use Rattle.std.proofs.Common.{◌≡◌, ◌++◌, List, [], take}
use Rattle.fed_rules.specs.declared.commands.Command.{Command}
use Rattle.fed_rules.specs.Sessions.{Session}
use Rattle.fed_rules.specs.Closing.{one}
use Rattle.fed_rules.specs.Happenings.{is_down}
use Rattle.fed_rules.specs.Story.{past_of, story_in}
use Rattle.fed_world.specs.Worlds.{Recalls}
use Rattle.closing.proofs.Cores.{numbers}
use Rattle.closing.proofs.actors.down_actors.Given as goal

-- the coordinator and those of the first sites
abbrev pub invariant-loop-site : goal.invariant-loop-site
invariant-loop-site l =
    (session : Session) (commands : List Command) → Recalls l.world session commands
    → l.found.items ≡ one l.down 0 [] ++ numbers (λ site. is_down (past_of site (story_in session commands))) (take l.site-index l.site-items)
