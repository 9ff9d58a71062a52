-- What each line of a story is: the next line of a site or of the coordinator, at an event with a cause.
use Rattle.std.proofs.Common.{◌≡◌, false, nat_lt, Some, length, refl, sym, subst}
use Rattle.mdb_base.specs.declared.acts.PlainAct.{PlainAct}
use Rattle.mdb_base.specs.declared.acts.Step.{Step}
use Rattle.mdb_base.specs.declared.names.SiteId.{SiteId}
use Rattle.mdb_base.specs.declared.names.Tid.{Tid}
use Rattle.mdb_base.specs.declared.names.Tx.{Tx}
use Rattle.mdb_base.specs.Programs.{plain_act}
use Rattle.mdb_base.specs.Words.{item_at}
use Rattle.order_laws.specs.Chains.{In}
use Rattle.order_laws.proofs.ForCallers.{item_at-in}
use Rattle.fed_rules.specs.declared.commands.Command.{Command}
use Rattle.fed_rules.specs.declared.commands.Command.TheVariants as Cmd
use Rattle.fed_rules.specs.declared.events.CoordEvent.{CoordEvent}
use Rattle.fed_rules.specs.declared.events.CoordEvent.TheVariants as To_coord
use Rattle.fed_rules.specs.declared.events.SiteEvent.{SiteEvent}
use Rattle.fed_rules.specs.declared.events.SiteEvent.TheVariants as To_site
use Rattle.fed_rules.specs.declared.scenario.Scenario.{Scenario}
use Rattle.fed_rules.specs.Coord.{coord_line}
use Rattle.fed_rules.specs.CoordPast as Coordinator
use Rattle.fed_rules.specs.CoordPast.{CoordHappening}
use Rattle.fed_rules.specs.Runs.{Run}
use Rattle.fed_rules.specs.Scenarios.{home_of, local_home, global_program, program_of, policy, protocols}
use Rattle.fed_rules.specs.Site.{site_line, done}
use Rattle.fed_rules.specs.SitePast.{SiteHappening, SitePast, live, live_of_tx, attempts_of}
use Rattle.fed_rules.specs.SiteRecords.{Home}
use Rattle.fed_rules.specs.Story.{Story, Happened, AtSite, AtCoordinator, Nowhere, past_of, coord_past, sent_to, sent_from, happens, run_reads}
use Rattle.fed_rules.specs.Lines as Lines
pub use Rattle.fed_rules.proofs.ForCallers.{home-again, its-site as home_is-site, local-declared as local_home-declared}
use Rattle.fed_rules.proofs.ForCallers as Asked

-- what makes an event of the coordinator come
abbrev pub CoordCause : Scenario → Story → CoordEvent → Type 0
CoordCause scenario story (To_coord.Go tid steps) =
    (global_program scenario tid.tx ≡ Some steps) × (tid.attempt ≡ Coordinator.attempts_of (coord_past story) tid.tx)
CoordCause scenario story (To_coord.Take site message) = In message (sent_from site story)
CoordCause scenario story event = Unit {0}

-- the next step of the live attempt of a local transaction
pub record IsNextStep (scenario : Scenario) (home : Home) (past : SitePast) (tid : Tid) (act : PlainAct) : Type 0 where
  pub tx : Tx
  pub here : local_home scenario tx ≡ Some home
  pub found_live : live_of_tx home past tx ≡ Some tid
  pub run : Run
  pub is_live : live home past tid ≡ Some run
  pub step : Step
  pub is_next : item_at (program_of scenario tx) (done run) ≡ Some step
  pub is_act : act ≡ plain_act (run_reads run) step.act

-- every step of the live attempt of a local transaction is done
pub record IsAllDone (scenario : Scenario) (home : Home) (past : SitePast) (tid : Tid) : Type 0 where
  pub tx : Tx
  pub here : local_home scenario tx ≡ Some home
  pub found_live : live_of_tx home past tx ≡ Some tid
  pub run : Run
  pub is_live : live home past tid ≡ Some run
  pub all : nat_lt (done run) (length (program_of scenario tx)) ≡ false

-- the live attempt of a local transaction
pub record IsLiveAttempt (scenario : Scenario) (home : Home) (past : SitePast) (tid : Tid) : Type 0 where
  pub tx : Tx
  pub here : local_home scenario tx ≡ Some home
  pub found_live : live_of_tx home past tx ≡ Some tid
  pub run : Run
  pub is_live : live home past tid ≡ Some run

-- the next attempt of a local transaction
pub record IsNextAttempt (scenario : Scenario) (home : Home) (past : SitePast) (tid : Tid) : Type 0 where
  pub here : local_home scenario tid.tx ≡ Some home
  pub next : tid.attempt ≡ attempts_of past tid.tx

-- what makes an event of a site come
abbrev pub SiteCause : Scenario → Story → Home → SiteEvent → Type 0
SiteCause scenario story home (To_site.Begin tid) = IsNextAttempt scenario home (past_of home.site story) tid
SiteCause scenario story home (To_site.Act tid act) = IsNextStep scenario home (past_of home.site story) tid act
SiteCause scenario story home (To_site.Commit tid) = IsAllDone scenario home (past_of home.site story) tid
SiteCause scenario story home (To_site.Abort tid) = IsLiveAttempt scenario home (past_of home.site story) tid
SiteCause scenario story home (To_site.Give message) = In message (sent_to home.site story)
SiteCause scenario story home event = Unit {0}

-- a line of the coordinator
pub record IsCoordLine (scenario : Scenario) (story : Story) (x : CoordHappening) : Type 0 where
  pub event : CoordEvent
  pub is_next : x ≡ coord_line (protocols scenario) (policy scenario) (coord_past story) event
  pub cause : CoordCause scenario story event

-- a line of a declared site
pub record IsSiteLine (scenario : Scenario) (story : Story) (site : SiteId) (x : SiteHappening) : Type 0 where
  pub home : Home
  pub declared : home_of scenario home.site ≡ Some home
  pub here : site ≡ home.site
  pub event : SiteEvent
  pub is_next : x ≡ site_line home (past_of home.site story) event
  pub cause : SiteCause scenario story home event

abbrev pub IsLine : Scenario → Story → Happened → Type 0
IsLine scenario story (AtSite site x) = IsSiteLine scenario story site x
IsLine scenario story (AtCoordinator x) = IsCoordLine scenario story x
IsLine scenario story (Nowhere answer) = Unit {0}

module _ (scenario : Scenario) (story : Story) where
  site_cause : (home : Home) (event : SiteEvent) (command : Command) → Lines.SiteCause scenario home story command event → SiteCause scenario story home event
  site_cause home event (Cmd.Begin tx) c = subst (SiteCause scenario story home) (sym c.asks.is) (record { here = c.here; next = refl })
  site_cause home event (Cmd.Step tx) c =
      subst (SiteCause scenario story home) (sym c.asks.is)
      (record { tx = tx; here = c.here; found_live = c.asks.is_live.found; run = c.asks.run; is_live = c.asks.is_live.own; step = c.asks.step; is_next = c.asks.next; is_act = refl })
  site_cause home event (Cmd.Commit tx) c =
      subst (SiteCause scenario story home) (sym c.asks.is)
      (record { tx = tx; here = c.here; found_live = c.asks.is_live.found; run = c.asks.run; is_live = c.asks.is_live.own; all = c.asks.all })
  site_cause home event (Cmd.Abort tx) c =
      subst (SiteCause scenario story home) (sym c.asks.is)
      (record { tx = tx; here = c.here; found_live = c.asks.is_live.found; run = c.asks.run; is_live = c.asks.is_live.own })
  site_cause home event (Cmd.Fate tx) c = subst (SiteCause scenario story home) (sym c.asks) tt
  site_cause home event (Cmd.Give s place) c = subst (SiteCause scenario story home) (sym c.1.is) (item_at-in (sent_to home.site story) place c.1.message c.1.at)
  site_cause home event (Cmd.Ask s tid) c = subst (SiteCause scenario story home) (sym c.1) tt
  site_cause home event (Cmd.Drop s tid) c = subst (SiteCause scenario story home) (sym c.1) tt
  site_cause home event (Cmd.Halt actor cut) c = subst (SiteCause scenario story home) (sym c.1) tt
  site_cause home event (Cmd.Trip actor calls cut) c = subst (SiteCause scenario story home) (sym c.1) tt
  site_cause home event (Cmd.Back actor) c = subst (SiteCause scenario story home) (sym c.1) tt
  site_cause home event (Cmd.Check actor) c = subst (SiteCause scenario story home) (sym c.1) tt
  site_cause home event (Cmd.Go tx) c = absurd c
  site_cause home event (Cmd.Again tid) c = absurd c
  site_cause home event (Cmd.Late tid) c = absurd c
  site_cause home event (Cmd.Take s place) c = absurd c

  coord_cause : (event : CoordEvent) (command : Command) → Lines.CoordCause scenario story command event → CoordCause scenario story event
  coord_cause event (Cmd.Go tx) c = subst (CoordCause scenario story) (sym c.is) (c.program, refl)
  coord_cause event (Cmd.Fate tx) c = subst (CoordCause scenario story) (sym c.is) tt
  coord_cause event (Cmd.Again tid) c = subst (CoordCause scenario story) (sym c) tt
  coord_cause event (Cmd.Late tid) c = subst (CoordCause scenario story) (sym c) tt
  coord_cause event (Cmd.Take s place) c = subst (CoordCause scenario story) (sym c.is) (item_at-in (sent_from s story) place c.message c.at)
  coord_cause event (Cmd.Halt actor cut) c = subst (CoordCause scenario story) (sym c.1) tt
  coord_cause event (Cmd.Trip actor calls cut) c = subst (CoordCause scenario story) (sym c.1) tt
  coord_cause event (Cmd.Back actor) c = subst (CoordCause scenario story) (sym c.1) tt
  coord_cause event (Cmd.Check actor) c = subst (CoordCause scenario story) (sym c.1) tt
  coord_cause event (Cmd.Begin tx) c = absurd c
  coord_cause event (Cmd.Step tx) c = absurd c
  coord_cause event (Cmd.Commit tx) c = absurd c
  coord_cause event (Cmd.Abort tx) c = absurd c
  coord_cause event (Cmd.Give s place) c = absurd c
  coord_cause event (Cmd.Ask s tid) c = absurd c
  coord_cause event (Cmd.Drop s tid) c = absurd c

  told_line : (command : Command) (happened : Happened) → Lines.IsLine scenario story command happened → IsLine scenario story happened
  told_line command (AtSite at x) line =
      record { home = line.home; declared = line.declared; here = line.here; event = line.event; is_next = line.is_next; cause = site_cause line.home line.event command line.cause }
  told_line command (AtCoordinator x) line = record { event = line.event; is_next = line.is_next; cause = coord_cause line.event command line.cause }
  told_line command (Nowhere answer) line = tt

  -- each command makes a line of an actor at an event with its cause, or one that no actor hears of
  pub line_is : (command : Command) → IsLine scenario story (happens scenario story command)
  line_is command = told_line command (happens scenario story command) (Asked.line_is scenario story command)
