-- How a run ends behind its hosts: what closes its session, and what finishes each transaction alone.
use Rattle.std.proofs.Common.{◌≡◌, ℕ, Bool, true, List, sym, ap, subst, ◌∙◌, arith}
use Rattle.mdb_base.specs.Words.{Each}
use Rattle.mdb_base.proofs.ForCallers.{append_each, each_map}
use Rattle.fed_rules.specs.declared.commands.Command.{Command}
use Rattle.fed_rules.specs.declared.commands.Command.TheVariants as Cmd
use Rattle.fed_rules.specs.declared.commands.Stamped.{Stamped}
use Rattle.fed_rules.specs.declared.scenario.Scenario.{Scenario}
use Rattle.fed_rules.specs.declared.scenario.SiteLine.{SiteLine}
use Rattle.fed_rules.specs.Closing.{closed, finished_alone}
use Rattle.fed_rules.specs.Plans.{IsScenario}
use Rattle.fed_rules.specs.Sessions.{fresh}
use Rattle.fed_rules.specs.Story.{Story, story_of}
use Rattle.journal_disk.specs.Disk.{Seen}
use Rattle.closing_laws.specs.AtRest.{AllUp, ClosedSessionsRest, IsAtRest}
use Rattle.closing_laws.specs.Bound.{ClosingIsShort}
use Rattle.closing_laws.specs.Finished.{FinishedSessionsCommit, HaveAttemptsLeft, begun}
use Rattle.closing.specs.Alone.{CanFinish}
use Rattle.closing.specs.Steps.{CanClose}
use Rattle.progress_laws.specs.Added.{ClosingAddsItsOwn, FinishingAddsItsOwn, is_of_clients, is_of_closing}
use Rattle.progress_laws.proofs.ForCallers.{closing_begins_nothing, keeps_all}
use Rattle.fed_rules.proofs.ForCallers.{begins_nothing}
use Rattle.fed_world.specs.declared.world.World.{World}
use Rattle.fed_world.specs.Faults.{faults_of}
use Rattle.fed_world.specs.FreshWorlds.{Stands}
use Rattle.federation_run.specs.Running.{HasRun}
use Rattle.line_laws.specs.Lines.{ClosingIsHeard, IsHeard}
use Rattle.session_outputs.specs.Ends.{CanEnd, IsEnded}
use Rattle.session_outputs.specs.Runs.{AreOfHosts, host_commands, run_commands}
use Rattle.session_outputs.proofs.HostsHeard.{hosts_heard}

-- as few commands as all hosts make can be closed
pub can_close : (scenario : Scenario) (commands : List Command) → CanEnd scenario commands → CanClose (fresh scenario) commands
can_close scenario commands few = omega (arith, few)

-- at rest every actor is up
all_up : (scenario : Scenario) (story : Story) → IsAtRest scenario story → AllUp story
all_up scenario story rest = record { coordinator = rest.coordinator_up; sites = rest.sites_up }

-- and then each transaction can be finished
pub can_finish : ClosingIsShort → ClosedSessionsRest → (scenario : Scenario) (commands : List Command) → IsScenario scenario → CanEnd scenario commands → CanFinish scenario (closed scenario commands)
can_finish short rests scenario commands whole few =
    let all = short scenario whole commands in
    record { up = all_up scenario (story_of scenario (closed scenario commands)) (rests scenario commands whole); few = omega (arith, all, few) }

-- every session hears what a client does, and messages
clients_heard : (sites : List SiteLine) (command : Command) → is_of_clients command ≡ true → IsHeard sites command
clients_heard sites (Cmd.Ask site tid) e = cc
clients_heard sites (Cmd.Drop site tid) e = cc
clients_heard sites (Cmd.Halt actor cut) e = cc
clients_heard sites (Cmd.Trip actor calls cut) e = cc
clients_heard sites (Cmd.Back actor) e = cc
clients_heard sites (Cmd.Check actor) e = cc
clients_heard sites command e = tt

-- so it hears what finishes each transaction alone, where it hears the commands before
finishing_heard : FinishingAddsItsOwn → (scenario : Scenario) (commands : List Command) → Each (IsHeard scenario.sites) commands → Each (IsHeard scenario.sites) (finished_alone scenario commands)
finishing_heard adding scenario commands heard =
    let adds = adding scenario commands in
    subst (λ cs. Each (IsHeard scenario.sites) cs) (sym adds.is)
    (append_each (IsHeard scenario.sites) adds.front commands
    (each_map (λ command. is_of_clients command ≡ true) (IsHeard scenario.sites) (clients_heard scenario.sites) adds.front adds.each) heard)

-- each command of a run is heard
module _ (closing : ClosingIsHeard) (finishing : FinishingAddsItsOwn) (counts : List ℕ) (scenario : Scenario) (merged : List Stamped) (hosts : AreOfHosts counts scenario merged) where
  pub closing_heard : Each (IsHeard scenario.sites) (closed scenario (host_commands merged))
  closing_heard =
      closing scenario hosts.run.logged.whole (host_commands merged) (hosts_heard scenario hosts.coordinator hosts.logs hosts.lists merged hosts.run.logged hosts.run.listed hosts.run.traced)

  pub run_heard : Each (IsHeard scenario.sites) (run_commands scenario (host_commands merged))
  run_heard = finishing_heard finishing scenario (closed scenario (host_commands merged)) closing_heard

-- the lines of a run's hosts
pub of_hosts : (tells : Bool) (counts : List ℕ) (disks : List Seen) (scenario : Scenario) (world : World) → (r : HasRun tells counts disks scenario world) → AreOfHosts counts scenario r.merged
of_hosts tells counts disks scenario world r = record { disks = disks; coordinator = r.coordinator; logs = r.logs; lists = r.lists; run = r.run }

module _ (closing : ClosingAddsItsOwn) (rests : ClosedSessionsRest) (finish : FinishedSessionsCommit) (tells : Bool) (old new : List Seen) (scenario : Scenario) (world : World) (merged : List Stamped)
    (hosts : AreOfHosts (faults_of old) scenario merged) (stands : Stands tells world new scenario (run_commands scenario (host_commands merged)))
  where
    abbrev commands : List Command
    commands = host_commands merged

    abbrev whole : IsScenario scenario
    whole = hosts.run.logged.whole

    -- an attempt is left of each transaction, since closing began none
    attempts_left : HaveAttemptsLeft scenario (story_of scenario (closed scenario commands))
    attempts_left line i undone =
        let adds = closing scenario commands in
        let keeps = keeps_all scenario line.tx adds.front commands (each_map (λ command. is_of_closing command ≡ true) (λ command. begins_nothing command ≡ true) closing_begins_nothing adds.front adds.each) in
        let same : begun scenario (story_of scenario (closed scenario commands)) line.tx ≡ begun scenario (story_of scenario commands) line.tx = ap (λ cs. begun scenario (story_of scenario cs) line.tx) adds.is ∙ keeps.attempts in
        let few = hosts.run.few_begun line.tx in
        omega (arith, same, few)

    -- so each is finished
    pub has_ended : faults_of new ≡ faults_of old → IsEnded tells old new scenario world
    has_ended calm = record {
      merged = merged;
      hosts = hosts;
      stands = stands;
      finished = finish scenario (closed scenario commands) whole (rests scenario commands whole) attempts_left;
      calm = calm;
    }
