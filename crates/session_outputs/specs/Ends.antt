-- How a run comes to its end, as its world is seen.
use Rattle.std.specs.Prelude.{ℕ, ◌≡◌, ◌≤◌, ◌⊎◌, Bool, List, length}
use Rattle.fed_rules.specs.declared.commands.Command.{Command}
use Rattle.fed_rules.specs.declared.commands.Stamped.{Stamped}
use Rattle.fed_rules.specs.declared.scenario.Scenario.{Scenario}
use Rattle.fed_rules.specs.Story.{story_of}
use Rattle.closing_laws.specs.Finished.{AllFinished}
use Rattle.journal_disk.specs.Disk.{Seen}
use Rattle.fed_world.specs.declared.world.World.{World}
use Rattle.fed_world.specs.Faults.{faults_of}
use Rattle.fed_world.specs.FreshWorlds.{Stands}
use Rattle.closing.specs.FreshTowards.{BreaksAt}
use Rattle.federation_run.specs.Running.{HasBroken, HasNotBegun, most_merged}
use Rattle.session_outputs.specs.declared.threaded.Ended.{Ended}
use Rattle.session_outputs.specs.declared.threaded.Ended.TheVariants as Is
use Rattle.session_outputs.specs.Runs.{AreOfHosts, host_commands, run_commands}

-- there are at most as many commands as all hosts make lines
abbrev pub CanEnd : Scenario → List Command → Type 0
CanEnd scenario commands = length commands ≤ most_merged

-- each transaction is committed: the world stands for the commands of the hosts' lines and those behind them, it is at rest, and no disk failed
pub record IsEnded (tells : Bool) (old new : List Seen) (scenario : Scenario) (world : World) : Type 0 where
  pub merged : List Stamped
  pub hosts : AreOfHosts (faults_of old) scenario merged
  pub stands : Stands tells world new scenario (run_commands scenario (host_commands merged))
  pub finished : AllFinished scenario (story_of scenario (run_commands scenario (host_commands merged)))
  pub calm : faults_of new ≡ faults_of old

-- a call of this disk failed behind the hosts, on the way to the last of all commands: from the disks as they were behind the commands before, on which no
-- count of faults had risen since the hosts began, its count rose and no other
pub record BreaksOff {D : Type 0} (seen : D → Seen) (tells : Bool) (number : ℕ) (old new : List Seen) (scenario : Scenario) (world : World) : Type 0 where
  pub merged : List Stamped
  pub hosts : AreOfHosts (faults_of old) scenario merged
  pub breaks : BreaksAt seen number tells old world new (run_commands scenario (host_commands merged)) scenario (host_commands merged)

-- how a run ended
abbrev pub ComesToEnd : {D : Type 0} → (D → Seen) → Bool → List Seen → List Seen → Scenario → Ended → Type 0
ComesToEnd seen tells old new scenario (Is.Done world) = IsEnded tells old new scenario world
ComesToEnd seen tells old new scenario (Is.Stopped number lines) =
    HasNotBegun tells old new scenario number lines ⊎ HasBroken (faults_of old) new scenario number lines
ComesToEnd seen tells old new scenario (Is.Broken number world) = BreaksOff seen tells number old new scenario world
