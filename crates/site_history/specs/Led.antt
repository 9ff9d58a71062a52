-- Which events of local transactions come to a site: those that their commands ask for, by their programs.
use Rattle.std.specs.Prelude.{◌≡◌, nat_le, nat_lt, false, Some, List, [], ◌∷◌, length}
use Rattle.mdb_base.specs.declared.acts.PlainAct.{PlainAct}
use Rattle.mdb_base.specs.declared.acts.Step.{Step}
use Rattle.mdb_base.specs.declared.names.Tid.{Tid}
use Rattle.mdb_base.specs.Programs.{plain_act}
use Rattle.mdb_base.specs.Words.{item_at}
use Rattle.fed_rules.specs.declared.commands.Command.{Command}
use Rattle.fed_rules.specs.declared.commands.Command.TheVariants as Cmd
use Rattle.fed_rules.specs.declared.events.SiteEvent.{SiteEvent}
use Rattle.fed_rules.specs.declared.events.SiteEvent.TheVariants as Ev
use Rattle.fed_rules.specs.declared.messages.ToSite.{ToSite}
use Rattle.fed_rules.specs.declared.scenario.Scenario.{Scenario}
use Rattle.fed_rules.specs.Runs.{Run}
use Rattle.fed_rules.specs.Scenarios.{local_home, program_of}
use Rattle.fed_rules.specs.Site.{site_line, done}
use Rattle.fed_rules.specs.SitePast.{SiteHappening, SitePast, live, attempts_of}
use Rattle.fed_rules.specs.SiteRecords.{Home}
use Rattle.fed_rules.specs.Story.{Story, story_of, sent_to, most_attempts, run_reads}

-- a begin is of the next attempt, of which there are at most 32
pub record IsBegin (scenario : Scenario) (home : Home) (past : SitePast) (tid : Tid) : Type 0 where
  pub homed : local_home scenario tid.tx ≡ Some home
  pub next : tid.attempt ≡ attempts_of past tid.tx
  pub few : nat_le most_attempts tid.attempt ≡ false

-- an access is of a live attempt, and it is its program's next step with the values that were read so far
pub record IsStep (scenario : Scenario) (home : Home) (past : SitePast) (tid : Tid) (act : PlainAct) : Type 0 where
  pub homed : local_home scenario tid.tx ≡ Some home
  pub run : Run
  pub live : live home past tid ≡ Some run
  pub step : Step
  pub at : item_at (program_of scenario tid.tx) (done run) ≡ Some step
  pub is : act ≡ plain_act (run_reads run) step.act

-- a commit is of a live attempt that has done every step
pub record IsCommit (scenario : Scenario) (home : Home) (past : SitePast) (tid : Tid) : Type 0 where
  pub homed : local_home scenario tid.tx ≡ Some home
  pub run : Run
  pub live : live home past tid ≡ Some run
  pub all : nat_lt (done run) (length (program_of scenario tid.tx)) ≡ false

-- an abort is of a live attempt
pub record IsAbort (scenario : Scenario) (home : Home) (past : SitePast) (tid : Tid) : Type 0 where
  pub homed : local_home scenario tid.tx ≡ Some home
  pub run : Run
  pub live : live home past tid ≡ Some run

-- the event of a local transaction is one that its commands ask for
abbrev pub IsAsked : Scenario → Home → SitePast → SiteEvent → Type 0
IsAsked scenario home past (Ev.Begin tid) = IsBegin scenario home past tid
IsAsked scenario home past (Ev.Act tid act) = IsStep scenario home past tid act
IsAsked scenario home past (Ev.Commit tid) = IsCommit scenario home past tid
IsAsked scenario home past (Ev.Abort tid) = IsAbort scenario home past tid
IsAsked scenario home past event = Unit {0}

-- the line is the site's next one at an event that was asked for, of which the fact holds
pub record IsLedLine (P : SiteEvent → Type 0) (scenario : Scenario) (home : Home) (past : SitePast) (x : SiteHappening) : Type 0 where
  pub event : SiteEvent
  pub holds : P event
  pub asked : IsAsked scenario home past event
  pub line : x ≡ site_line home past event

-- so is each line of the past
abbrev pub IsLed : (SiteEvent → Type 0) → Scenario → Home → SitePast → Type 0
IsLed P scenario home [] = Unit {0}
IsLed P scenario home (x ∷ past) = IsLedLine P scenario home past x × IsLed P scenario home past

-- the fact holds of every event that the command may make
abbrev pub Allows : (SiteEvent → Type 0) → Story → Command → Type 0
Allows P story (Cmd.Begin tx) = (tid : Tid) → P (Ev.Begin tid)
Allows P story (Cmd.Step tx) = (tid : Tid) (act : PlainAct) → P (Ev.Act tid act)
Allows P story (Cmd.Commit tx) = (tid : Tid) → P (Ev.Commit tid)
Allows P story (Cmd.Abort tx) = (tid : Tid) → P (Ev.Abort tid)
Allows P story (Cmd.Fate tx) = P (Ev.Fate tx)
Allows P story (Cmd.Give site place) = (message : ToSite) → item_at (sent_to site story) place ≡ Some message → P (Ev.Give message)
Allows P story (Cmd.Ask site tid) = P (Ev.Ask tid)
Allows P story (Cmd.Drop site tid) = P (Ev.Drop tid)
Allows P story (Cmd.Halt actor cut) = P (Ev.Halt cut)
Allows P story (Cmd.Trip actor calls cut) = P (Ev.Trip calls cut)
Allows P story (Cmd.Back actor) = P Ev.Back
Allows P story (Cmd.Check actor) = P Ev.Check
Allows P story command = Unit {0}

-- and of every event that these commands may make
abbrev pub AllAllow : (SiteEvent → Type 0) → Scenario → List Command → Type 0
AllAllow P scenario [] = Unit {0}
AllAllow P scenario (command ∷ commands) = Allows P (story_of scenario commands) command × AllAllow P scenario commands
