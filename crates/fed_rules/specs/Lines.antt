-- What each command makes happen in a story: the next line of a declared site or of the coordinator, at an event that the command asked for,
-- or no line.
use Rattle.std.specs.Prelude.{ℕ, ◌≡◌, false, nat_le, nat_lt, Some, List, length}
use Rattle.mdb_base.specs.declared.acts.Step.{Step}
use Rattle.mdb_base.specs.declared.names.SiteId.{SiteId}
use Rattle.mdb_base.specs.declared.names.Tid.{Tid}
use Rattle.mdb_base.specs.declared.names.Tx.{Tx}
use Rattle.mdb_base.specs.Programs.{plain_act}
use Rattle.mdb_base.specs.Words.{item_at}
use Rattle.fed_rules.specs.declared.commands.Command.{Command}
use Rattle.fed_rules.specs.declared.commands.Command.TheVariants as Cmd
use Rattle.fed_rules.specs.declared.events.CoordEvent.{CoordEvent}
use Rattle.fed_rules.specs.declared.events.CoordEvent.TheVariants as To_coord
use Rattle.fed_rules.specs.declared.events.SiteEvent.{SiteEvent}
use Rattle.fed_rules.specs.declared.events.SiteEvent.TheVariants as To_site
use Rattle.fed_rules.specs.declared.messages.FromSite.{FromSite}
use Rattle.fed_rules.specs.declared.messages.ToSite.{ToSite}
use Rattle.fed_rules.specs.declared.scenario.Scenario.{Scenario}
use Rattle.fed_rules.specs.Coord.{coord_line}
use Rattle.fed_rules.specs.CoordPast as Coordinator
use Rattle.fed_rules.specs.CoordPast.{CoordHappening}
use Rattle.fed_rules.specs.Happenings.{is_down}
use Rattle.fed_rules.specs.Requests.{most_attempts, attempt}
use Rattle.fed_rules.specs.Runs.{Run}
use Rattle.fed_rules.specs.Scenarios.{home_of, local_home, global_program, program_of, policy, protocols}
use Rattle.fed_rules.specs.Site.{site_line, done}
use Rattle.fed_rules.specs.SiteCommands.{Verb, Begin, Step_on, Commit, Abort, Fate, run_reads}
use Rattle.fed_rules.specs.SitePast.{SiteHappening, SitePast, live, live_of_tx, attempts_of}
use Rattle.fed_rules.specs.SiteRecords.{Home}
use Rattle.fed_rules.specs.Story.{Story, Happened, AtSite, AtCoordinator, Nowhere, past_of, coord_past, sent_to, sent_from, happens}

-- the live attempt of a local transaction, at a site that is up
pub record IsLiveAttemptOf (home : Home) (past : SitePast) (tx : Tx) (tid : Tid) (run : Run) : Type 0 where
  pub up : is_down past ≡ false
  pub found : live_of_tx home past tx ≡ Some tid
  pub own : live home past tid ≡ Some run

-- `begin` submits the next attempt
pub record BeginsNext (past : SitePast) (tx : Tx) (event : SiteEvent) : Type 0 where
  pub few : nat_le most_attempts (attempts_of past tx) ≡ false
  pub is : event ≡ To_site.Begin (attempt tx (attempts_of past tx))

-- `step` submits the next act of the live attempt
pub record StepsOn (home : Home) (steps : List Step) (past : SitePast) (tx : Tx) (event : SiteEvent) : Type 0 where
  pub tid : Tid
  pub run : Run
  pub is_live : IsLiveAttemptOf home past tx tid run
  pub step : Step
  pub next : item_at steps (done run) ≡ Some step
  pub is : event ≡ To_site.Act tid (plain_act (run_reads run) step.act)

-- `commit` submits the commit of the live attempt, every step of which is done
pub record CommitsDone (home : Home) (steps : List Step) (past : SitePast) (tx : Tx) (event : SiteEvent) : Type 0 where
  pub tid : Tid
  pub run : Run
  pub is_live : IsLiveAttemptOf home past tx tid run
  pub all : nat_lt (done run) (length steps) ≡ false
  pub is : event ≡ To_site.Commit tid

-- `abort` submits the abort of the live attempt
pub record AbortsLive (home : Home) (past : SitePast) (tx : Tx) (event : SiteEvent) : Type 0 where
  pub tid : Tid
  pub run : Run
  pub is_live : IsLiveAttemptOf home past tx tid run
  pub is : event ≡ To_site.Abort tid

-- which event a command of a local transaction submits
abbrev pub Asks : Verb → Home → List Step → SitePast → Tx → SiteEvent → Type 0
Asks Begin home steps past tx event = BeginsNext past tx event
Asks Step_on home steps past tx event = StepsOn home steps past tx event
Asks Commit home steps past tx event = CommitsDone home steps past tx event
Asks Abort home steps past tx event = AbortsLive home past tx event
Asks Fate home steps past tx event = event ≡ To_site.Fate tx

-- a command of a local transaction of this home asks for the event
pub record IsAsked (verb : Verb) (scenario : Scenario) (home : Home) (past : SitePast) (tx : Tx) (event : SiteEvent) : Type 0 where
  pub here : local_home scenario tx ≡ Some home
  pub asks : Asks verb home (program_of scenario tx) past tx event

-- a message that was sent to the site is given to it
pub record IsGiven (sent : List ToSite) (place : ℕ) (event : SiteEvent) : Type 0 where
  pub message : ToSite
  pub at : item_at sent place ≡ Some message
  pub is : event ≡ To_site.Give message

-- why a command makes this event of a site
abbrev pub SiteCause : Scenario → Home → Story → Command → SiteEvent → Type 0
SiteCause scenario home story (Cmd.Begin tx) event = IsAsked Begin scenario home (past_of home.site story) tx event
SiteCause scenario home story (Cmd.Step tx) event = IsAsked Step_on scenario home (past_of home.site story) tx event
SiteCause scenario home story (Cmd.Commit tx) event = IsAsked Commit scenario home (past_of home.site story) tx event
SiteCause scenario home story (Cmd.Abort tx) event = IsAsked Abort scenario home (past_of home.site story) tx event
SiteCause scenario home story (Cmd.Fate tx) event = IsAsked Fate scenario home (past_of home.site story) tx event
SiteCause scenario home story (Cmd.Give site place) event = (site ≡ home.site) × IsGiven (sent_to home.site story) place event
SiteCause scenario home story (Cmd.Ask site tid) event = (site ≡ home.site) × (event ≡ To_site.Ask tid)
SiteCause scenario home story (Cmd.Drop site tid) event = (site ≡ home.site) × (event ≡ To_site.Drop tid)
SiteCause scenario home story (Cmd.Halt actor cut) event = (actor ≡ home.site.0) × (event ≡ To_site.Halt cut)
SiteCause scenario home story (Cmd.Trip actor calls cut) event = (actor ≡ home.site.0) × (event ≡ To_site.Trip calls cut)
SiteCause scenario home story (Cmd.Back actor) event = (actor ≡ home.site.0) × (event ≡ To_site.Back)
SiteCause scenario home story (Cmd.Check actor) event = (actor ≡ home.site.0) × (event ≡ To_site.Check)
SiteCause scenario home story command event = ⊥

-- `go` submits the next attempt of a global transaction
pub record GoesNext (scenario : Scenario) (story : Story) (tx : Tx) (event : CoordEvent) : Type 0 where
  pub steps : List Step
  pub program : global_program scenario tx ≡ Some steps
  pub is : event ≡ To_coord.Go (attempt tx (Coordinator.attempts_of (coord_past story) tx)) steps

pub record AsksFate (scenario : Scenario) (tx : Tx) (event : CoordEvent) : Type 0 where
  pub steps : List Step
  pub program : global_program scenario tx ≡ Some steps
  pub is : event ≡ To_coord.Fate tx

-- a message that was sent from the site is taken
pub record IsTaken (sent : List FromSite) (site : SiteId) (place : ℕ) (event : CoordEvent) : Type 0 where
  pub message : FromSite
  pub at : item_at sent place ≡ Some message
  pub is : event ≡ To_coord.Take site message

-- why a command makes this event of the coordinator
abbrev pub CoordCause : Scenario → Story → Command → CoordEvent → Type 0
CoordCause scenario story (Cmd.Go tx) event = GoesNext scenario story tx event
CoordCause scenario story (Cmd.Fate tx) event = AsksFate scenario tx event
CoordCause scenario story (Cmd.Again tid) event = event ≡ To_coord.Again tid
CoordCause scenario story (Cmd.Late tid) event = event ≡ To_coord.Late tid
CoordCause scenario story (Cmd.Take site place) event = IsTaken (sent_from site story) site place event
CoordCause scenario story (Cmd.Halt actor cut) event = (actor ≡ 0) × (event ≡ To_coord.Halt cut)
CoordCause scenario story (Cmd.Trip actor calls cut) event = (actor ≡ 0) × (event ≡ To_coord.Trip calls cut)
CoordCause scenario story (Cmd.Back actor) event = (actor ≡ 0) × (event ≡ To_coord.Back)
CoordCause scenario story (Cmd.Check actor) event = (actor ≡ 0) × (event ≡ To_coord.Check)
CoordCause scenario story command event = ⊥

-- a line of the coordinator
pub record IsCoordLine (scenario : Scenario) (story : Story) (command : Command) (x : CoordHappening) : Type 0 where
  pub event : CoordEvent
  pub is_next : x ≡ coord_line (protocols scenario) (policy scenario) (coord_past story) event
  pub cause : CoordCause scenario story command event

-- a line of a declared site
pub record IsSiteLine (scenario : Scenario) (story : Story) (command : Command) (site : SiteId) (x : SiteHappening) : Type 0 where
  pub home : Home
  pub declared : home_of scenario home.site ≡ Some home
  pub here : site ≡ home.site
  pub event : SiteEvent
  pub is_next : x ≡ site_line home (past_of home.site story) event
  pub cause : SiteCause scenario home story command event

abbrev pub IsLine : Scenario → Story → Command → Happened → Type 0
IsLine scenario story command (AtSite site x) = IsSiteLine scenario story command site x
IsLine scenario story command (AtCoordinator x) = IsCoordLine scenario story command x
IsLine scenario story command (Nowhere answer) = Unit {0}

-- so it is of each command behind every story
abbrev pub EachLineIsAskedFor : Type 0
EachLineIsAskedFor = (scenario : Scenario) (story : Story) (command : Command) → IsLine scenario story command (happens scenario story command)
