-- When actors, lines and messages are those of a world.
use Rattle.std.specs.Prelude.{ℕ, ◌≡◌, Bool, Some, List, length, slice_get}
use Rattle.mdb_base.specs.declared.names.SiteId.{SiteId}
use Rattle.fed_rules.specs.declared.commands.Command.{Command}
use Rattle.fed_rules.specs.declared.commands.Line.{Line}
use Rattle.fed_rules.specs.declared.scenario.Scenario.{Scenario}
use Rattle.fed_rules.specs.Scenarios.{global_program, home_of, sites}
use Rattle.fed_rules.specs.Sessions.{fresh}
use Rattle.fed_rules.specs.SiteRecords.{Home}
use Rattle.fed_rules.specs.Story.{Story, coord_past, past_of, sent_from, sent_to, story_of}
use Rattle.journal_disk.specs.Disk.{Seen}
use Rattle.any_engine.specs.declared.engine.AnyEngine.{AnyEngine}
use Rattle.local_dbms.specs.declared.dbms.LocalDbms.{LocalDbms}
use Rattle.local_dbms.specs.Stands.{own_programs}
use Rattle.session_report.specs.declared.marks.Marks.{Marks}
use Rattle.session_report.specs.declared.session.Channel.{Channel}
use Rattle.session_report.specs.Marks.{kept_marks}
use Rattle.session_routes.specs.declared.traffic.Traffic.{Traffic}
use Rattle.fed_world.specs.declared.cores.Cores.{Cores}
use Rattle.fed_world.specs.Asks.{terms_of}
use Rattle.fed_world.specs.Seats.{AreFew, OfDbms}
use Rattle.fed_world.specs.Worlds.{AreDisks, DbmsRecalls, DbmsStands, ManagerRecalls, ManagerStands, OfManager}
use Rattle.fed_rules.specs.Right.{AreLines}

-- the channel holds the messages to and from the site
pub record IsChannel (channel : Channel) (own : SiteId) (story : Story) : Type 0 where
  pub site : channel.site ≡ own
  pub to : channel.to ≡ sent_to own story
  pub from : channel.from ≡ sent_from own story

-- the traffic of a channel has its messages
pub record IsTraffic (channel : Channel) (traffic : Traffic) : Type 0 where
  pub site : traffic.site ≡ channel.site
  pub to : traffic.to.items ≡ channel.to
  pub from : traffic.from.items ≡ channel.from

-- so it is with each channel
pub record AreTraffic (channels : List Channel) (all : List Traffic) : Type 0 where
  pub count : length all ≡ length channels
  pub each : (place : ℕ) (channel : Channel) (traffic : Traffic) → slice_get channels place ≡ Some channel → slice_get all place ≡ Some traffic → IsTraffic channel traffic

-- the local database system is that of the site, with the marks of its records and its messages
pub record IsGathered (K : OfDbms) (dbms : LocalDbms AnyEngine) (marks : Marks) (channel : Channel) (scenario : Scenario) (site : SiteId) (story : Story) : Type 0 where
  pub home : Home
  pub is : home.site ≡ site
  pub declared : home_of scenario site ≡ Some home
  pub recalls : K dbms home (own_programs site scenario.transactions) (past_of site story)
  pub marked : marks.site ≡ site
  pub kept : marks.kept.items ≡ kept_marks home (past_of site story)
  pub messages : IsChannel channel site story

-- the actors are what these lines leave, and the channels hold all messages
pub record GathersAt (M : OfManager) (K : OfDbms) (cores : Cores) (lines : List Line) (channels : List Channel) (scenario : Scenario) (commands : List Command) : Type 0 where
  pub scenario_is : cores.scenario ≡ scenario
  pub told : AreLines lines scenario commands
  pub coordinator : M cores.coordinator (terms_of scenario) (global_program scenario) (coord_past (story_of scenario commands))
  pub all_cores : length cores.sites.items.items ≡ length (sites scenario)
  pub all_marks : length cores.marks.items ≡ length (sites scenario)
  pub all_channels : length channels ≡ length (sites scenario)
  pub each : (place : ℕ) (site : SiteId) (dbms : LocalDbms AnyEngine) (own : Marks) (channel : Channel) → slice_get (sites scenario) place ≡ Some site
      → slice_get cores.sites.items.items place ≡ Some dbms → slice_get cores.marks.items place ≡ Some own → slice_get channels place ≡ Some channel
      → IsGathered K dbms own channel scenario site (story_of scenario commands)

-- whatever is on the disks
abbrev pub Gathers : Cores → List Line → List Channel → Scenario → List Command → Type 0
Gathers cores lines channels scenario commands = GathersAt ManagerRecalls DbmsRecalls cores lines channels scenario commands

-- with these disks
pub record GathersOn (tells : Bool) (disks : List Seen) (cores : Cores) (lines : List Line) (channels : List Channel) (scenario : Scenario) (commands : List Command) : Type 0 where
  pub parts : GathersAt (ManagerStands tells disks) (DbmsStands tells disks) cores lines channels scenario commands
  pub few : AreFew (story_of scenario commands) (length commands)
  pub others : AreDisks disks (fresh scenario)
