-- What becomes of commands that are carried out with nine disks, one after another: all of them, or the first ones.
use Rattle.std.specs.Prelude.{ℕ, ◌≡◌, true, List, ◌∷◌, ◌++◌}
use Rattle.mdb_base.specs.declared.names.SiteId.{SiteId}
use Rattle.fed_rules.specs.declared.commands.Command.{Command}
use Rattle.fed_rules.specs.declared.commands.Line.{Line}
use Rattle.fed_rules.specs.declared.scenario.Scenario.{Scenario}
use Rattle.fed_rules.specs.Scenarios.{sites}
use Rattle.fed_rules.specs.Story.{story_of}
use Rattle.journal_disk.specs.Disk.{Seen}
use Rattle.fed_world.specs.Faults.{faults_of}
use Rattle.fed_rules.specs.Right.{AreLines}
use Rattle.line_laws.specs.Refusals.{RefuseNone}
use Rattle.held_disks.specs.Holding.{HoldAll}
use Rattle.session_outputs.specs.Breaks.{BreaksAtNext}
use Rattle.session_outputs.specs.Disks.{AreSetUp, HoldFrames, NothingBut}
use Rattle.session_outputs.specs.Sessions.{IsFront, IsRight}

-- where tickets are taken conservatively, no line refuses a commit for a cycle
abbrev pub AreUnrefused : Scenario → List Line → Type 0
AreUnrefused scenario lines = scenario.conservative ≡ true → RefuseNone lines

-- they were carried out: these are their lines, each of which is the right one on the lines before it; none refuses a commit for a cycle where
-- tickets are taken conservatively; their story is right; and each disk holds the records of its actor
pub record IsDone (lines : List Line) (disks : List Seen) (scenario : Scenario) (commands : List Command) : Type 0 where
  pub lines_are : AreLines lines scenario commands
  pub unrefused : AreUnrefused scenario lines
  pub right : IsRight scenario (story_of scenario commands)
  pub kept : HoldFrames disks scenario (story_of scenario commands)

-- a call of this disk failed within the event of the command behind these first ones of all commands
pub record BreaksBehind {D : Type 0} (seen : D → Seen) (number : ℕ) (old new : List Seen) (scenario : Scenario) (whole done : List Command) : Type 0 where
  pub command : Command
  pub front : IsFront (command ∷ done) whole
  pub breaks : BreaksAtNext seen number old new command scenario (story_of scenario done)

-- memory was wanting while the sites were set up: the first ones are, nothing is on any other disk, and no disk failed
pub record StartsShort (old new : List Seen) (scenario : Scenario) : Type 0 where
  pub done : List SiteId
  pub left : List SiteId
  pub all : sites scenario ≡ done ++ left
  pub set_up : AreSetUp done new scenario
  pub empty : NothingBut done new
  pub calm : faults_of new ≡ faults_of old

-- memory was wanting behind the first ones of all commands: each disk holds what the rules say is on it then, and none failed
pub record StopsShort (old new : List Seen) (scenario : Scenario) (whole : List Command) : Type 0 where
  pub done : List Command
  pub front : IsFront done whole
  pub kept : HoldAll new scenario (story_of scenario done)
  pub calm : faults_of new ≡ faults_of old
