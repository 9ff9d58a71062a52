-- What becomes of a made scenario: it runs in threads as any other one, and the summary of its journals is the output.
use Rattle.std.specs.Prelude.{ℕ, ◌≡◌, ◌≤◌, List}
use Rattle.fed_rules.specs.declared.commands.Command.{Command}
use Rattle.fed_rules.specs.declared.commands.Line.{Line}
use Rattle.fed_rules.specs.declared.commands.Stamped.{Stamped}
use Rattle.fed_rules.specs.declared.scenario.Scenario.{Scenario}
use Rattle.fed_rules.specs.Story.{Story, story_of}
use Rattle.journal_disk.specs.Disk.{Seen}
use Rattle.fed_world.specs.Faults.{faults_of}
use Rattle.fed_rules.specs.Right.{AreLines}
use Rattle.report_text.specs.Summaries.{summary_text}
use Rattle.made_laws.specs.Summaries.{made_line}
use Rattle.scenario_maker.specs.Made.{made}
use Rattle.session_outputs.specs.declared.making.Making.{Making}
use Rattle.session_outputs.specs.Disks.{HoldFrames}
use Rattle.outputs.specs.Outputs.{Account}
use Rattle.session_outputs.specs.Runs.{AreOfHosts, Breaks, MayStopShort, host_commands, run_commands}
use Rattle.session_outputs.specs.Sessions.{AllCommit, IsRight}
use Rattle.outputs.specs.Texts.{disk_failed_text}

-- a scenario can be made: there are 1 to 8 sites, and 1 to 1,024 transactions
abbrev pub IsMakeable : Making → Type 0
IsMakeable making = (1 ≤ making.sites) × (making.sites ≤ 8) × (1 ≤ making.transactions) × (making.transactions ≤ 1024)

-- the scenario that is made
abbrev pub made_scenario : Making → Scenario
made_scenario making = made making.number making.sites making.transactions

-- what happens in a run of the made scenario whose hosts made these lines
abbrev pub made_story : Making → List Stamped → Story
made_story making merged = story_of (made_scenario making) (run_commands (made_scenario making) (host_commands merged))

-- all was carried out without a failed disk, as in a run of the scenario: the story is right, each transaction of the scenario is committed, once, and
-- each disk holds the records of its actor; the output is the summary of these records; and it is told by how many sites and transactions there are,
-- by neither the number that the scenario is made from nor what the threads did
pub record MakesWhole (output : List ℕ) (old new : List Seen) (making : Making) : Type 0 where
  pub merged : List Stamped
  pub hosts : AreOfHosts (faults_of old) (made_scenario making) merged
  pub right : IsRight (made_scenario making) (made_story making merged)
  pub committed : AllCommit (made_scenario making) (made_story making merged)
  pub kept : HoldFrames new (made_scenario making) (made_story making merged)
  pub calm : faults_of new ≡ faults_of old
  pub output_is : output ≡ summary_text (made_scenario making) (made_story making merged)
  pub fixed : output ≡ made_line making.sites making.transactions

-- a call of a disk failed, as in a run of the scenario: the lines that were made before are right, and the output is which disk, without these lines
pub record MakesBroken {D : Type 0} (seen : D → Seen) (output : List ℕ) (old new : List Seen) (scenario : Scenario) : Type 0 where
  pub number : ℕ
  pub done : List Command
  pub lines : List Line
  pub lines_are : AreLines lines scenario done
  pub output_is : output ≡ disk_failed_text number
  pub breaks : Breaks seen number old new scenario lines done

-- what `make` says of its output, with disks of which this is seen
abbrev pub making : {D : Type 0} → (D → Seen) → Account Making
making seen =
    record {
      whole = MakesWhole;
      broken = λ output old new asked. MakesBroken seen output old new (made_scenario asked);
      short = λ old new asked. MayStopShort old new (made_scenario asked);
    }
