-- The sessions and commands that a world stands for, and what a call does to them. Commands stand newest first.
use Rattle.std.specs.Prelude.{ℕ, zero, suc, ◌≡◌, ◌≤◌, ◌<◌, ◌^◌, ◌+◌, Bool, true, false, Some, None, List, [], ◌∷◌, ◌++◌, length, map, reverse, slice_get}
use Rattle.std.specs.Vec.{vec_len, vec_capacity}
use Rattle.mdb_base.specs.declared.names.SiteId.{SiteId}
use Rattle.fed_rules.specs.declared.commands.Command.{Command}
use Rattle.fed_rules.specs.declared.commands.Line.{Line}
use Rattle.fed_rules.specs.declared.events.CoordEvent.{CoordEvent}
use Rattle.fed_rules.specs.declared.events.SiteEvent.{SiteEvent}
use Rattle.fed_rules.specs.CoordPast.{CoordPast}
use Rattle.fed_rules.specs.Requests.{Request}
use Rattle.fed_rules.specs.Right.{IsAnswer}
use Rattle.fed_rules.specs.Scenarios.{global_program, home_of, protocols, sites}
use Rattle.fed_rules.specs.Sessions.{Session}
use Rattle.fed_rules.specs.SiteRecords.{Home}
use Rattle.fed_rules.specs.Story.{Story, coord_past, coord_requested, happens, past_of, places_of, requested, story_in, tell}
use Rattle.journal_disk.specs.Disk.{Seen}
use Rattle.actor_store.specs.declared.errors.StepErr.{StepErr}
use Rattle.actor_store.specs.declared.errors.StepErr.TheVariants as Step_err
use Rattle.any_engine.specs.declared.engine.AnyEngine.{AnyEngine}
use Rattle.any_engine.specs.Stands as Engines
use Rattle.conservative_take.specs.declared.any_policy.AnyPolicy.{AnyPolicy}
use Rattle.conservative_take.specs.AnyPolicies.{policy_is}
use Rattle.closing_laws.specs.AtRest.{IsAtRest}
use Rattle.coord_tables.specs.Terms.{Terms}
use Rattle.global_manager.specs.declared.manager.GlobalManager.{GlobalManager}
use Rattle.global_manager.specs.Stands as Manager
use Rattle.local_dbms.specs.declared.asks.SiteAsk.{SiteAsk}
use Rattle.local_dbms.specs.declared.dbms.LocalDbms.{LocalDbms}
use Rattle.local_dbms.specs.Stands as Dbms
use Rattle.local_dbms.specs.Stands.{OwnPrograms}
use Rattle.fed_world.specs.declared.cores.Cores.{Cores}
use Rattle.fed_world.specs.declared.errors.WorldErr.{WorldErr}
use Rattle.fed_world.specs.declared.errors.WorldErr.TheVariants as Err_is
use Rattle.session_routes.specs.declared.traffic.Traffic.{Traffic}
use Rattle.fed_world.specs.declared.world.World.{World}
use Rattle.global_manager.specs.declared.asks.CoordAsk.{CoordAsk}
use Rattle.fed_world.specs.Asks.{AsksCoordinator, AsksSite, terms_of}
use Rattle.fed_world.specs.Beginnings.{Begins, IsBlank, Remembers, made_up, programs_at, scenario_of}
use Rattle.fed_world.specs.Lines.{IsRightIn}
use Rattle.fed_world.specs.Seats.{AreFew, OfDbms, SitesAt}
use Rattle.session_routes.specs.Routes.{IsRouted}

-- ---- which fact holds of an actor

-- of the coordinator
abbrev pub OfManager : Type 1
OfManager = GlobalManager AnyPolicy → Terms → OwnPrograms → CoordPast → Type 0

-- the coordinator has the past in memory
abbrev pub ManagerRecalls : OfManager
ManagerRecalls manager = Manager.Recalls policy_is manager

-- so does a site
abbrev pub DbmsRecalls : OfDbms
DbmsRecalls dbms = Dbms.Recalls Engines.Stands dbms

-- the disk of this actor is there, and the fact holds of what is seen of it
pub record OnDisk (disks : List Seen) (number : ℕ) (K : Seen → Type 0) : Type 0 where
  pub disk : Seen
  pub own : slice_get disks number ≡ Some disk
  pub holds : K disk

-- the coordinator stands for it with disk 0
abbrev pub ManagerStands : Bool → List Seen → OfManager
ManagerStands tells disks manager terms programs past = OnDisk disks 0 (λ disk. Manager.Stands policy_is tells manager disk terms programs past)

-- a site stands for it with the disk of its number
abbrev pub DbmsStands : Bool → List Seen → OfDbms
DbmsStands tells disks dbms home programs past = OnDisk disks home.site.0 (λ disk. Dbms.Stands Engines.Stands tells dbms disk home programs past)

-- ---- the parts of a world

-- the coordinator and the sites
pub record ActorsAt (M : OfManager) (K : OfDbms) (cores : Cores) (channels : List Traffic) (session : Session) (story : Story) : Type 0 where
  pub coordinator : M cores.coordinator (terms_of session.plan) (global_program session.plan) (coord_past story)
  pub sites : SitesAt K cores.sites.items.items cores.marks.items channels session story

-- the world is of this session, and its lines are right and of these commands
pub record HasLines (world : World) (session : Session) (commands : List Command) : Type 0 where
  pub begins : Begins session
  pub scenario_is : world.cores.scenario ≡ scenario_of session
  pub remembers : Remembers world.begun session.found
  pub commands_are : map (λ line. line.command) (reverse world.lines.items) ≡ commands
  pub right : IsRightIn session (reverse world.lines.items)

-- the world, whatever is on its disks, stands for this session and these commands
pub record Recalls (world : World) (session : Session) (commands : List Command) : Type 0 where
  pub has : HasLines world session commands
  pub routed : IsRouted world.routes session.plan
  pub actors : ActorsAt ManagerRecalls DbmsRecalls world.cores world.traffic.items session (story_in session commands)

-- there are nine disks, and nothing is on the disk of a site that isn't declared, or no whole frame where the session goes on from disks
pub record AreDisks (disks : List Seen) (session : Session) : Type 0 where
  pub nine : length disks ≡ 9
  pub others : (site : SiteId) (disk : Seen) → 1 ≤ site.0 → home_of session.plan site ≡ None → slice_get disks site.0 ≡ Some disk → IsBlank session.found.coordinator disk

-- what the actors of a world with these disks are behind these commands, whatever its lines
pub record ActorsStand (tells : Bool) (world : World) (disks : List Seen) (session : Session) (commands : List Command) : Type 0 where
  pub actors : ActorsAt (ManagerStands tells disks) (DbmsStands tells disks) world.cores world.traffic.items session (story_in session commands)
  pub few : AreFew (story_in session commands) (length commands)
  pub others : AreDisks disks session

-- the world with these disks stands for it
pub record Stands (tells : Bool) (world : World) (disks : List Seen) (session : Session) (commands : List Command) : Type 0 where
  pub has : HasLines world session commands
  pub whole : world.broken ≡ false
  pub routed : IsRouted world.routes session.plan
  pub stand : ActorsStand tells world disks session commands

-- ---- what is asked of a world

-- the local database system is that of the site, and has its past in memory
pub record IsLocalAt (dbms : LocalDbms AnyEngine) (session : Session) (site : SiteId) (story : Story) : Type 0 where
  pub home : Home
  pub declared : home_of session.plan site ≡ Some home
  pub recalls : DbmsRecalls dbms home (programs_at session site) (past_of site story)

-- the actors have their pasts in memory, the sites by rising site
pub record ActorsRecall (cores : Cores) (session : Session) (story : Story) : Type 0 where
  pub scenario_is : cores.scenario ≡ scenario_of session
  pub coordinator : ManagerRecalls cores.coordinator (terms_of session.plan) (global_program session.plan) (coord_past story)
  pub count : length cores.sites.items.items ≡ length (sites session.plan)
  pub sites : (place : ℕ) (site : SiteId) (dbms : LocalDbms AnyEngine) → slice_get (sites session.plan) place ≡ Some site → slice_get cores.sites.items.items place ≡ Some dbms
      → IsLocalAt dbms session site story

-- the session is at rest
abbrev pub Rests : Session → List Command → Type 0
Rests session commands = IsAtRest session.plan (story_in session commands)

-- for some session and commands that it stands for the fact holds; where it stands for sessions that begin with empty disks alone, a session is told
-- by its scenario
pub record SomeStory {S : Type 0} (K : S → List Command → Type 0) (P : S → List Command → Type 0) : Type 0 where
  pub session : S
  pub commands : List Command
  pub stood : K session commands
  pub holds : P session commands

-- the fact holds of every session and commands that it stands for
abbrev pub EachStory : {S : Type 0} → (S → List Command → Type 0) → (S → List Command → Type 0) → Type 0
EachStory {S} K P = (session : S) (commands : List Command) → K session commands → P session commands

-- and of every one where this holds too
abbrev pub EachWhere : {S : Type 0} → (S → List Command → Type 0) → (S → List Command → Type 0) → (S → List Command → Type 0) → Type 0
EachWhere {S} K Can P = (session : S) (commands : List Command) → K session commands → Can session commands → P session commands

-- any commands
abbrev pub AnyStory : {S : Type 0} → S → List Command → Type 0
AnyStory session commands = Unit {0}

-- there are few enough lines that the numbers of one more fit
abbrev pub HasRoom : Session → List Command → Type 0
HasRoom session commands = made_up session + length commands < 2 ^ 30

-- ---- a failed disk call

-- the coordinator, in memory and on disk 0, is as some stop within the event of this command leaves it, and each site stands for its past
pub record CoordinatorBroke (tells : Bool) (world : World) (disks : List Seen) (command : Command) (session : Session) (story : Story) : Type 0 where
  pub asked : Request CoordEvent
  pub happens : happens session.plan story command ≡ coord_requested session.plan story asked
  pub coordinator : Manager.Fails (ManagerStands tells disks world.cores.coordinator) Step_err.Disk (terms_of session.plan) (global_program session.plan) (coord_past story) asked
  pub sites : SitesAt (DbmsStands tells disks) world.cores.sites.items.items world.cores.marks.items world.traffic.items session story

-- a site stands for its past, unless it has this number
abbrev pub StandsBut : ℕ → Bool → List Seen → OfDbms
StandsBut number tells disks dbms home programs past = (home.site.0 ≡ number → ⊥) → DbmsStands tells disks dbms home programs past

-- the site of this number, in memory and on its disk, is as some stop within the event of this command leaves it, and each other actor stands
-- for its past
pub record SiteBroke (number : ℕ) (tells : Bool) (world : World) (disks : List Seen) (command : Command) (session : Session) (story : Story) : Type 0 where
  pub home : Home
  pub declared : home_of session.plan home.site ≡ Some home
  pub number_is : number ≡ home.site.0
  pub asked : Request SiteEvent
  pub happens : happens session.plan story command ≡ requested home story asked
  pub place : ℕ
  pub at : slice_get (sites session.plan) place ≡ Some home.site
  pub dbms : LocalDbms AnyEngine
  pub own : slice_get world.cores.sites.items.items place ≡ Some dbms
  pub broken : Dbms.Fails (DbmsStands tells disks dbms) Step_err.Disk home (programs_at session home.site) (past_of home.site story) asked
  pub coordinator : ManagerStands tells disks world.cores.coordinator (terms_of session.plan) (global_program session.plan) (coord_past story)
  pub sites : SitesAt (StandsBut number tells disks) world.cores.sites.items.items world.cores.marks.items world.traffic.items session story

-- the actor of this number is broken: 0 is the coordinator
abbrev pub ActorBroke : ℕ → Bool → World → List Seen → Command → Session → Story → Type 0
ActorBroke zero tells world disks command session story = CoordinatorBroke tells world disks command session story
ActorBroke (suc n) tells world disks command session story = SiteBroke (suc n) tells world disks command session story

-- the world of which this actor's disk failed at this command has the lines of the commands before
pub record IsBroken (number : ℕ) (tells : Bool) (world : World) (disks : List Seen) (command : Command) (session : Session) (commands : List Command) : Type 0 where
  pub has : HasLines world session commands
  pub broken : world.broken ≡ true
  pub actor : ActorBroke number tells world disks command session (story_in session commands)
  pub others : AreDisks disks session

-- a command without a line: want of memory changes nothing, and a failed disk call breaks the world within the event of this command
abbrev pub FailsAt : Bool → WorldErr → World → List Seen → Command → Session → List Command → Type 0
FailsAt tells Err_is.Memory world disks command session commands = Stands tells world disks session commands
FailsAt tells (Err_is.Disk number) world disks command session commands = IsBroken number tells world disks command session commands

-- ---- what is asked of the actors

-- a command that asks this of the site at this place, behind commands that the world stands for
pub record SomeSiteAsk (K : Session → List Command → Type 0) (place : ℕ) (ask : SiteAsk) : Type 0 where
  pub session : Session
  pub commands : List Command
  pub command : Command
  pub stood : K session commands
  pub asks : AsksSite place ask command session (story_in session commands)
  pub room : HasRoom session commands

-- and for all such
abbrev pub EachSiteAsk : (Session → List Command → Type 0) → ℕ → SiteAsk → (Command → Session → List Command → Type 0) → Type 0
EachSiteAsk K place ask P = (session : Session) (commands : List Command) (command : Command) → K session commands
    → AsksSite place ask command session (story_in session commands) → HasRoom session commands → P command session commands

-- a command that asks this of the coordinator
pub record SomeCoordAsk (K : Session → List Command → Type 0) (ask : CoordAsk) : Type 0 where
  pub session : Session
  pub commands : List Command
  pub command : Command
  pub stood : K session commands
  pub asks : AsksCoordinator ask command session (story_in session commands)
  pub room : HasRoom session commands

abbrev pub EachCoordAsk : (Session → List Command → Type 0) → CoordAsk → (Command → Session → List Command → Type 0) → Type 0
EachCoordAsk K ask P = (session : Session) (commands : List Command) (command : Command) → K session commands
    → AsksCoordinator ask command session (story_in session commands) → HasRoom session commands → P command session commands

-- the lines of the world, the first line first
abbrev pub lines_of : World → List Line
lines_of world = world.lines.items

-- the other world has the same actors and messages
pub record HasActorsOf (old new : World) : Type 0 where
  pub cores : new.cores ≡ old.cores
  pub traffic : new.traffic.items ≡ old.traffic.items

-- and the same lines and routes
pub record IsSameWorld (old new : World) : Type 0 where
  pub actors : HasActorsOf old new
  pub lines : new.lines.items ≡ old.lines.items
  pub broken : new.broken ≡ old.broken
  pub routes : new.routes ≡ old.routes
  pub begun : new.begun ≡ old.begun

-- so many further lines fit in the memory of those made before
abbrev pub HasLineRoom : ℕ → World → Type 0
HasLineRoom count world = vec_len world.lines + count ≤ vec_capacity world.lines

-- the lines made before stay as they are, and behind them stands that of the command
pub record AddsLine (old new : World) (command : Command) : Type 0 where
  pub line : Line
  pub is : line.command ≡ command
  pub lines : lines_of new ≡ lines_of old ++ line ∷ []

-- the line has the answer to the command with its places, and the actors stand for the command too
pub record IsHeard (tells : Bool) (world : World) (disks : List Seen) (line : Line) (command : Command) (session : Session) (commands : List Command) : Type 0 where
  pub answer : IsAnswer (protocols session.plan) (story_in session commands) (tell session.plan (story_in session commands) command).happened line.answer
  pub sends : line.sends ≡ places_of (story_in session commands) (tell session.plan (story_in session commands) command).happened
  pub next : ActorsStand tells world disks session (command ∷ commands)

-- what isn't heard: want of memory changes nothing, and a failed disk call breaks an actor
abbrev pub IsUnheard : Bool → WorldErr → World → List Seen → Command → Session → List Command → Type 0
IsUnheard tells Err_is.Memory world disks command session commands = ActorsStand tells world disks session commands
IsUnheard tells (Err_is.Disk number) world disks command session commands =
    ActorBroke number tells world disks command session (story_in session commands) × AreDisks disks session

-- what a world has beside its actors and its lines stays
pub record KeepsRest (old new : World) : Type 0 where
  pub broken : new.broken ≡ old.broken
  pub routes : new.routes ≡ old.routes
  pub scenario : new.cores.scenario ≡ old.cores.scenario
  pub begun : new.begun ≡ old.begun

-- why the disk of this number gave no line
abbrev pub error_of : ℕ → StepErr → WorldErr
error_of number Step_err.Disk = Err_is.Disk number
error_of number Step_err.Memory = Err_is.Memory
