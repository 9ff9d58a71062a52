-- Which commands some actor hears, and what lines of them can be printed.
use Rattle.std.specs.Prelude.{◌≡◌, true, IsTrue, List, map}
use Rattle.mdb_base.specs.Words.{Each}
use Rattle.fed_rules.specs.declared.commands.Command.{Command}
use Rattle.fed_rules.specs.declared.commands.Command.TheVariants as Cmd
use Rattle.fed_rules.specs.declared.commands.Line.{Line}
use Rattle.fed_rules.specs.declared.scenario.Scenario.{Scenario}
use Rattle.fed_rules.specs.declared.scenario.SiteLine.{SiteLine}
use Rattle.fed_rules.specs.Closing.{closed}
use Rattle.fed_rules.specs.Plans.{IsScenario, is_actor, is_declared}
use Rattle.fed_rules.specs.Right.{IsRightStory}
use Rattle.line_text.specs.Fits.{line_fits}

-- a command of a site, or of an actor, names a declared one or the coordinator
abbrev pub IsHeard : List SiteLine → Command → Type 0
IsHeard sites (Cmd.Ask site tid) = is_declared sites site ≡ true
IsHeard sites (Cmd.Drop site tid) = is_declared sites site ≡ true
IsHeard sites (Cmd.Halt actor cut) = is_actor sites actor ≡ true
IsHeard sites (Cmd.Trip actor calls cut) = is_actor sites actor ≡ true
IsHeard sites (Cmd.Back actor) = is_actor sites actor ≡ true
IsHeard sites (Cmd.Check actor) = is_actor sites actor ≡ true
IsHeard sites command = Unit {0}

-- so each right line of such commands is one that they can have
abbrev pub RightLinesFit : Type 0
RightLinesFit =
    (scenario : Scenario) → IsScenario scenario → (lines : List Line) → Each (IsHeard scenario.sites) (map (λ line. line.command) lines)
    → IsRightStory scenario lines → Each (λ line. IsTrue (line_fits line)) lines

-- and the commands that close a session are such, where those before are
abbrev pub ClosingIsHeard : Type 0
ClosingIsHeard =
    (scenario : Scenario) → IsScenario scenario → (commands : List Command) → Each (IsHeard scenario.sites) commands
    → Each (IsHeard scenario.sites) (closed scenario commands)
