-- What became of a scenario that ran in threads.
use Rattle.std.specs.Prelude.{ℕ, ◌≡◌, ◌≤◌, ◌<◌, ◌*◌, ◌⊎◌, Bool, true, false, Option, Some, None, List, [], ◌∷◌, ◌++◌, length, option_to_list, slice_get}
use Rattle.mdb_base.specs.declared.names.SiteId.{SiteId}
use Rattle.mdb_base.specs.declared.names.Tx.{Tx}
use Rattle.mdb_base.specs.Counts.{HasRisen}
use Rattle.fed_rules.specs.declared.commands.Line.{Line}
use Rattle.fed_rules.specs.declared.commands.Stamped.{Stamped}
use Rattle.fed_rules.specs.declared.scenario.Scenario.{Scenario}
use Rattle.fed_rules.specs.declared.scenario.StopLine.{StopLine}
use Rattle.fed_rules.specs.Scenarios.{sites}
use Rattle.fed_rules.specs.Story.{Story}
use Rattle.closing_laws.specs.Finished.{begun}
use Rattle.fed_messages.specs.declared.Packet.{Packet}
use Rattle.journal_disk.specs.Disk.{Seen}
use Rattle.held_disks.specs.Holding.{CoordHolds, SiteHolds}
use Rattle.trace_merge.specs.Traces.{Entry, IsTrace, lines_of, list_of}
use Rattle.fed_world.specs.declared.world.World.{World}
use Rattle.fed_world.specs.Faults.{RisesAt, faults_of}
use Rattle.fed_world.specs.SettingUp.{StopsForDisk}
use Rattle.fed_world.specs.FreshWorlds.{AreDisks, Stands}
use Rattle.fed_world.specs.Worlds.{OnDisk}
use Rattle.host_laws.specs.CoordTurns.{coord_begun_in, coord_is_due, offered_to}
use Rattle.host_laws.specs.Links.{script_of}
use Rattle.host_laws.specs.Logs.{AreLists, AreLogs, CoordLog, IsDelivered, SiteLog}
use Rattle.host_laws.specs.Merged.{CarriesSite, TellsLogs, commands_of, lines_in, story_in}
use Rattle.host_laws.specs.Plans.{most_lines}
use Rattle.host_laws.specs.Stops.{ArmsFirst, stop_left, story_to, trip_at}
use Rattle.host_laws.specs.Turns.{begun_in, is_due, packets_by}
use Rattle.fed_hosts.specs.CoordKeeps.{IsCoordStanding}
use Rattle.fed_hosts.specs.Keeps.{IsCounting, IsStanding, most_begun}
use Rattle.federation_run.specs.declared.errors.RunErr.{RunErr}
use Rattle.federation_run.specs.declared.errors.RunErr.TheVariants as Err_is
use Rattle.federation_run.specs.Plans.{count_at, stops_in}

-- A disk holds what the host of the site left there. Until a disk call failed these are the records of what its lines made; then they are those that
-- some stop within the event of a further command leaves, and a packet that was put back came over the ring. Its count rose exactly where a call failed.
pub record LeavesSite (count : ℕ) (scenario : Scenario) (site : SiteId) (coordinator : CoordLog) (log : SiteLog) (disk : Seen) : Type 0 where
  pub failed : Bool
  pub back : Option Packet
  pub carried : IsDelivered (script_of scenario true site) (offered_to coordinator.plan site coordinator.turns) (log.took ++ option_to_list back)
  pub holds : IsStanding (SiteHolds disk.image log.plan.home) failed log.plan back log.turns
  pub faults : IsCounting failed count disk.faults

-- these packets, by rising site, came over the rings behind those that were taken
abbrev pub AreCarriedBack : Scenario → CoordLog → List SiteLog → List (Option Packet) → Type 0
AreCarriedBack scenario coordinator logs backs = (place : ℕ) (site : SiteId) (log : SiteLog) (took : List Packet) (back : Option Packet)
    → slice_get (sites scenario) place ≡ Some site → slice_get logs place ≡ Some log → slice_get coordinator.tooks place ≡ Some took → slice_get backs place ≡ Some back
    → IsDelivered (script_of scenario false site) (packets_by log.plan log.turns) (took ++ option_to_list back)

-- so of the coordinator's host
pub record LeavesCoord (count : ℕ) (scenario : Scenario) (logs : List SiteLog) (log : CoordLog) (disk : Seen) : Type 0 where
  pub failed : Bool
  pub backs : List (Option Packet)
  pub carried : AreCarriedBack scenario log logs backs
  pub holds : IsCoordStanding (CoordHolds disk.image) failed log.plan backs log.turns
  pub faults : IsCounting failed count disk.faults

-- how a site's host ended: at most so many of its lines began an attempt of a transaction, no stop of its script has still to be armed, and
-- its disk holds what it left
pub record EndsSite (counts : List ℕ) (disks : List Seen) (scenario : Scenario) (site : SiteId) (coordinator : CoordLog) (log : SiteLog) : Type 0 where
  pub stops : log.plan.stops ≡ stops_in scenario site.0
  pub few : (tx : Tx) → begun_in tx log.turns ≤ most_begun
  pub armed : length log.turns < most_lines → is_due log.plan log.turns ≡ false
  pub disk : OnDisk disks site.0 (LeavesSite (count_at counts site.0) scenario site coordinator log)

-- and how the coordinator's did
pub record EndsCoord (counts : List ℕ) (disks : List Seen) (scenario : Scenario) (logs : List SiteLog) (log : CoordLog) : Type 0 where
  pub stops : log.plan.stops ≡ stops_in scenario 0
  pub few : (tx : Tx) → coord_begun_in tx log.turns ≤ most_begun
  pub armed : length log.turns < most_lines → coord_is_due log.plan log.turns ≡ false
  pub disk : OnDisk disks 0 (LeavesCoord (count_at counts 0) scenario logs log)

-- Scripted stops are armed. Take one of the entries behind which no trip of its actor is in force, so one that arms no stop, and a stop of that
-- actor is left. Where the actor has made fewer lines than a host may, its next line arms the next stop that is left.
abbrev pub AreArmed : Scenario → List (List Stamped) → List Entry → Type 0
AreArmed scenario lists entries = (before behind : List Entry) (entry : Entry) (stop : StopLine) → entries ≡ before ++ entry ∷ behind
    → trip_at entry.actor (story_to scenario (before ++ entry ∷ [])) ≡ None → stop_left scenario entry.actor (before ++ entry ∷ []) ≡ Some stop
    → length (list_of lists entry.actor) < most_lines → ArmsFirst entry.actor stop (lines_of entry.actor behind)

-- at most 31 attempts of each transaction were begun, so one is left to commit it alone
abbrev pub AreFewBegun : Scenario → Story → Type 0
AreFewBegun scenario story = (tx : Tx) → begun scenario story tx ≤ most_begun

-- the most lines of all hosts
abbrev pub most_merged : ℕ
most_merged = 9 * most_lines

-- The hosts of a run of the scenario left these lists of lines, of which these are the merged ones. The merged lines are right, and tell what
-- the hosts did; over each ring came the first messages that its script lets through, in their order; scripted stops are armed; and few
-- attempts were begun, in few lines.
pub record HaveRun (counts : List ℕ) (disks : List Seen) (scenario : Scenario) (coordinator : CoordLog) (logs : List SiteLog) (lists : List (List Stamped)) (merged : List Stamped) : Type 0 where
  pub logged : AreLogs (script_of scenario) scenario coordinator logs
  pub listed : AreLists scenario coordinator logs lists
  pub traced : IsTrace lists merged
  pub told : TellsLogs scenario coordinator logs (lines_in merged)
  pub carried : (place : ℕ) (site : SiteId) (log : SiteLog) (took : List Packet) → slice_get (sites scenario) place ≡ Some site → slice_get logs place ≡ Some log
      → slice_get coordinator.tooks place ≡ Some took → CarriesSite (script_of scenario) (story_in scenario (lines_in merged)) (lines_in merged) site log took
  pub armed : AreArmed scenario lists traced.entries
  pub few_begun : AreFewBegun scenario (story_in scenario (lines_in merged))
  pub few_lines : length (commands_of (lines_in merged)) ≤ most_merged
  pub coordinator_short : length coordinator.turns ≤ most_lines
  pub sites_short : (place : ℕ) (log : SiteLog) → slice_get logs place ≡ Some log → length log.turns ≤ most_lines
  pub coordinator_ends : EndsCoord counts disks scenario logs coordinator
  pub sites_end : (place : ℕ) (site : SiteId) (log : SiteLog) → slice_get (sites scenario) place ≡ Some site → slice_get logs place ≡ Some log
      → EndsSite counts disks scenario site coordinator log
  pub others : AreDisks disks scenario

-- the world, with these disks, stands for the scenario and the commands of the merged lines of its hosts, which are its lines, and no disk failed
pub record HasRun (tells : Bool) (counts : List ℕ) (disks : List Seen) (scenario : Scenario) (world : World) : Type 0 where
  pub coordinator : CoordLog
  pub logs : List SiteLog
  pub lists : List (List Stamped)
  pub merged : List Stamped
  pub run : HaveRun counts disks scenario coordinator logs lists merged
  pub lines_are : world.lines.items ≡ lines_in merged
  pub stands : Stands tells world disks scenario (commands_of (lines_in merged))
  pub calm : faults_of disks ≡ counts

-- the disk of this actor failed, and that of no lesser one; the lines are the merged ones of the hosts
pub record HasBroken (counts : List ℕ) (disks : List Seen) (scenario : Scenario) (number : ℕ) (lines : List Line) : Type 0 where
  pub coordinator : CoordLog
  pub logs : List SiteLog
  pub lists : List (List Stamped)
  pub merged : List Stamped
  pub run : HaveRun counts disks scenario coordinator logs lists merged
  pub lines_are : lines ≡ lines_in merged
  pub rose : OnDisk disks number (λ disk. HasRisen (count_at counts number) disk.faults)
  pub first : (actor : ℕ) (disk : Seen) → actor < number → slice_get disks actor ≡ Some disk → disk.faults ≡ count_at counts actor

-- the disk of this actor failed while its site was set up, and there is no line
pub record HasNotBegun (tells : Bool) (old new : List Seen) (scenario : Scenario) (number : ℕ) (lines : List Line) : Type 0 where
  pub none : lines ≡ []
  pub stopped : StopsForDisk number tells new scenario
  pub rose : RisesAt number old new

-- a run that doesn't end well
abbrev pub EndsBadly : Bool → List Seen → List Seen → Scenario → RunErr → Type 0
EndsBadly tells old new scenario Err_is.Memory = Unit {0}
EndsBadly tells old new scenario (Err_is.Disk number lines) = HasNotBegun tells old new scenario number lines ⊎ HasBroken (faults_of old) new scenario number lines

-- a run that comes to its end without its world
abbrev pub StopsBadly : List ℕ → List Seen → Scenario → RunErr → Type 0
StopsBadly counts disks scenario Err_is.Memory = Unit {0}
StopsBadly counts disks scenario (Err_is.Disk number lines) = HasBroken counts disks scenario number lines
