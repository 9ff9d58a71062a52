-- What becomes of a scenario that runs in threads.
use Rattle.std.specs.Prelude.{ℕ, ◌≡◌, ◌⊎◌, List, [], ◌++◌}
use Rattle.fed_rules.specs.declared.commands.Command.{Command}
use Rattle.fed_rules.specs.declared.commands.Line.{Line}
use Rattle.fed_rules.specs.declared.commands.Stamped.{Stamped}
use Rattle.fed_rules.specs.declared.scenario.Scenario.{Scenario}
use Rattle.fed_rules.specs.Closing.{closed, finished_alone}
use Rattle.fed_rules.specs.Story.{story_of}
use Rattle.host_laws.specs.Logs.{CoordLog, SiteLog}
use Rattle.host_laws.specs.Merged.{commands_of, lines_in}
use Rattle.journal_disk.specs.Disk.{Seen}
use Rattle.fed_world.specs.Faults.{faults_of}
use Rattle.fed_rules.specs.Right.{AreLines}
use Rattle.federation_run.specs.Running.{HasBroken, HaveRun}
use Rattle.line_laws.specs.Printed.{printed}
use Rattle.line_text.specs.Spelling.{lines_bytes}
use Rattle.session_outputs.specs.Breaks.{BreaksSetUp}
use Rattle.session_outputs.specs.Again.{ReplaysAlike}
use Rattle.session_outputs.specs.Outcomes.{AreUnrefused, BreaksBehind, IsDone}
use Rattle.outputs.specs.Outputs.{Account}
use Rattle.session_outputs.specs.Sessions.{AllCommit}
use Rattle.outputs.specs.Texts.{disk_failed_text}

-- these are the lines of the scenario's hosts in threads, by their stamps; the counts are those of the disks' faults before
pub record AreOfHosts (counts : List ℕ) (scenario : Scenario) (merged : List Stamped) : Type 0 where
  pub disks : List Seen
  pub coordinator : CoordLog
  pub logs : List SiteLog
  pub lists : List (List Stamped)
  pub run : HaveRun counts disks scenario coordinator logs lists merged

-- the commands of the hosts' lines, the last one first
abbrev pub host_commands : List Stamped → List Command
host_commands merged = commands_of (lines_in merged)

-- all commands of a run whose hosts carried out these: behind them stand those that close the session, and then those that finish each transaction
-- without a commit alone
abbrev pub run_commands : Scenario → List Command → List Command
run_commands scenario commands = finished_alone scenario (closed scenario commands)

-- all was carried out without a failed disk: the output is the lines of the hosts and those behind them, and then the report; each transaction of
-- the scenario is committed, once; and the commands of these lines, given to `replay`, print the output again but for the edges of cycles
pub record RunsWhole (output : List ℕ) (old new : List Seen) (scenario : Scenario) : Type 0 where
  pub merged : List Stamped
  pub hosts : AreOfHosts (faults_of old) scenario merged
  pub lines : List Line
  pub done : IsDone lines new scenario (run_commands scenario (host_commands merged))
  pub committed : AllCommit scenario (story_of scenario (run_commands scenario (host_commands merged)))
  pub calm : faults_of new ≡ faults_of old
  pub output_is : output ≡ printed lines scenario (story_of scenario (run_commands scenario (host_commands merged)))
  pub again : ReplaysAlike output lines scenario (story_of scenario (run_commands scenario (host_commands merged)))

-- a call of this disk failed within the event of the command behind these, which closes the session or finishes a transaction alone
pub record BreaksAfterHosts {D : Type 0} (seen : D → Seen) (number : ℕ) (old new : List Seen) (scenario : Scenario) (done : List Command) : Type 0 where
  pub merged : List Stamped
  pub hosts : AreOfHosts (faults_of old) scenario merged
  pub more : List Command
  pub done_is : done ≡ more ++ host_commands merged
  pub breaks : BreaksBehind seen number old new scenario (run_commands scenario (host_commands merged)) done

-- it did so, or it failed while its site was set up, or while the hosts ran
abbrev pub Breaks : {D : Type 0} → (D → Seen) → ℕ → List Seen → List Seen → Scenario → List Line → List Command → Type 0
Breaks seen number old new scenario lines done =
    BreaksAfterHosts seen number old new scenario done
    ⊎ (((done ≡ []) × BreaksSetUp number old new scenario)
    ⊎ HasBroken (faults_of old) new scenario number lines)

-- a call of a disk failed: the output is the lines that were made before, which are right, and behind them which disk
pub record RunsBroken {D : Type 0} (seen : D → Seen) (output : List ℕ) (old new : List Seen) (scenario : Scenario) : Type 0 where
  pub number : ℕ
  pub done : List Command
  pub lines : List Line
  pub lines_are : AreLines lines scenario done
  pub unrefused : AreUnrefused scenario lines
  pub output_is : output ≡ lines_bytes lines ++ disk_failed_text number
  pub breaks : Breaks seen number old new scenario lines done

-- where memory was wanting nothing is said of the disks
abbrev pub MayStopShort : List Seen → List Seen → Scenario → Type 0
MayStopShort old new scenario = Unit {0}

-- what `run` says of its output, with disks of which this is seen
abbrev pub running : {D : Type 0} → (D → Seen) → Account Scenario
running seen = record { whole = RunsWhole; broken = RunsBroken seen; short = MayStopShort }
