-- What happens in a story is the next line of a site or of the coordinator; what is given or taken there was sent, and what begins is new.
use Rattle.std.proofs.Common.{◌≡◌, true, Option, Some, None, List, [], ◌∷◌, refl, sym, ◌∙◌, ap, ap₂, subst}
use Rattle.mdb_base.specs.declared.acts.Step.{Step}
use Rattle.mdb_base.specs.declared.names.SiteId.{SiteId}
use Rattle.mdb_base.specs.declared.names.Tid.{Tid}
use Rattle.mdb_base.specs.declared.names.Tx.{Tx}
use Rattle.mdb_base.specs.Names.{same_site}
use Rattle.mdb_base.specs.Words.{map_some}
use Rattle.mdb_base.proofs.ForCallers.{same_site-equal, some_parts}
use Rattle.order_laws.specs.Chains.{In}
use Rattle.presumptions.specs.declared.Participant.{Participant}
use Rattle.order_laws.proofs.ForCallers.{item_at-in}
use Rattle.fed_rules.specs.declared.commands.Command.{Command}
use Rattle.fed_rules.specs.declared.commands.Command.TheVariants as Cmd
use Rattle.fed_rules.specs.declared.events.CoordEvent.{CoordEvent}
use Rattle.fed_rules.specs.declared.events.CoordEvent.TheVariants as Coord_event
use Rattle.fed_rules.specs.declared.events.SiteEvent.{SiteEvent}
use Rattle.fed_rules.specs.declared.events.SiteEvent.TheVariants as Site_event
use Rattle.fed_rules.specs.declared.scenario.Scenario.{Scenario}
use Rattle.fed_rules.specs.declared.scenario.TxLine.{TxLine}
use Rattle.fed_rules.specs.Coord.{coord_line}
use Rattle.fed_rules.specs.CoordPast as Coordinator
use Rattle.fed_rules.specs.Scenarios.{home_of, home_at, home_of_line, local_home, transaction, global_line, global_program, policy, protocols}
use Rattle.fed_rules.specs.Site.{site_line}
use Rattle.fed_rules.specs.SitePast.{SiteHappening}
use Rattle.fed_rules.specs.SiteRecords.{Home}
use Rattle.fed_rules.specs.Story.{Story, Happened, AtSite, AtCoordinator, Nowhere, past_of, coord_past, story_of, with_coordinator, sent_to, sent_from, happens}
use Rattle.coord_laws.specs.Pasts.{IsGoingOn, IsNumbered, IsMadeByEvents}
use Rattle.coord_laws.proofs.ForCallers.{going_on}
use Rattle.commit_laws.specs.Pasts.{CoordinatorsAreMadeByEvents}
use Rattle.fed_rules.specs.Lines.{SiteCause, CoordCause, IsLine}
pub use Rattle.fed_rules.proofs.ForCallers.{home-again, its-site}
use Rattle.fed_rules.proofs.ForCallers.{line_is}

-- the attempt is one of a global transaction
abbrev pub IsGlobal : Scenario → Tid → Type 0
IsGlobal scenario t = (steps : List Step) × (global_program scenario t.tx ≡ Some steps)

-- a global transaction has no home
pub not-both : (scenario : Scenario) (tx : Tx) (h : Home) (steps : List Step) → local_home scenario tx ≡ Some h
    → global_program scenario tx ≡ Some steps → ⊥
not-both scenario tx h steps e f = by_line (transaction scenario tx) e f where
  by_home : (line : TxLine) (o : Option SiteId) → home_at scenario o ≡ Some h
      → map_some (λ l. l.program) (global_line (Some (record line { home = o }))) ≡ Some steps → ⊥
  by_home line None e f = cc
  by_home line (Some s) e f = cc

  by_line : (o : Option TxLine) → home_at scenario (home_of_line o) ≡ Some h → map_some (λ l. l.program) (global_line o) ≡ Some steps
      → ⊥
  by_line None e f = cc
  by_line (Some line) e f = by_home line line.home e f

-- a site with its protocol, as a participant
abbrev pub member_of : Home → Participant
member_of home = record { site = home.site; protocol = home.protocol }

-- where the event of a site comes from
abbrev pub SiteCame : Scenario → SiteId → Story → SiteEvent → Type 0
SiteCame scenario site story (Site_event.Give message) = In message (sent_to site story)
SiteCame scenario site story (Site_event.Begin t) = (h : Home) × (local_home scenario t.tx ≡ Some h)
SiteCame scenario site story event = Unit {0}

-- where the event of the coordinator comes from
abbrev pub CoordCame : Scenario → Story → CoordEvent → Type 0
CoordCame scenario story (Coord_event.Take site message) = In message (sent_from site story)
CoordCame scenario story (Coord_event.Go t steps) = (t.attempt ≡ Coordinator.attempts_of (coord_past story) t.tx) ×
    (global_program scenario t.tx ≡ Some steps)
CoordCame scenario story event = Unit {0}

-- what happens is the next line of a declared site, or of the coordinator, or is no line of them
abbrev pub IsNext : Scenario → Story → Happened → Type 0
IsNext scenario story (AtSite at x) = (home : Home) × (home_of scenario at ≡ Some home) × (event : SiteEvent) ×
    (x ≡ site_line home (past_of at story) event) × SiteCame scenario at story event
IsNext scenario story (AtCoordinator x) = (event : CoordEvent) ×
    (x ≡ coord_line (protocols scenario) (policy scenario) (coord_past story) event) × CoordCame scenario story event
IsNext scenario story (Nowhere answer) = Unit {0}

pub record Linked (scenario : Scenario) (story : Story) (happened : Happened) : Type 0 where
  pub next : IsNext scenario story happened

site_came : (scenario : Scenario) (home : Home) (story : Story) (command : Command) (event : SiteEvent) → SiteCause scenario home story command event
    → SiteCame scenario home.site story event
site_came scenario home story (Cmd.Begin tx) event c = subst (λ e. SiteCame scenario home.site story e) (sym c.asks.is) (home, c.here)
site_came scenario home story (Cmd.Step tx) event c = subst (λ e. SiteCame scenario home.site story e) (sym c.asks.is) tt
site_came scenario home story (Cmd.Commit tx) event c = subst (λ e. SiteCame scenario home.site story e) (sym c.asks.is) tt
site_came scenario home story (Cmd.Abort tx) event c = subst (λ e. SiteCame scenario home.site story e) (sym c.asks.is) tt
site_came scenario home story (Cmd.Fate tx) event c = subst (λ e. SiteCame scenario home.site story e) (sym c.asks) tt
site_came scenario home story (Cmd.Give site place) event c =
    subst (λ e. SiteCame scenario home.site story e) (sym c.1.is) (item_at-in (sent_to home.site story) place c.1.message c.1.at)
site_came scenario home story (Cmd.Ask site tid) event c = subst (λ e. SiteCame scenario home.site story e) (sym c.1) tt
site_came scenario home story (Cmd.Drop site tid) event c = subst (λ e. SiteCame scenario home.site story e) (sym c.1) tt
site_came scenario home story (Cmd.Halt actor cut) event c = subst (λ e. SiteCame scenario home.site story e) (sym c.1) tt
site_came scenario home story (Cmd.Trip actor calls cut) event c = subst (λ e. SiteCame scenario home.site story e) (sym c.1) tt
site_came scenario home story (Cmd.Back actor) event c = subst (λ e. SiteCame scenario home.site story e) (sym c.1) tt
site_came scenario home story (Cmd.Check actor) event c = subst (λ e. SiteCame scenario home.site story e) (sym c.1) tt
site_came scenario home story (Cmd.Go tx) event c = absurd c
site_came scenario home story (Cmd.Again tid) event c = absurd c
site_came scenario home story (Cmd.Late tid) event c = absurd c
site_came scenario home story (Cmd.Take site place) event c = absurd c

coord_came : (scenario : Scenario) (story : Story) (command : Command) (event : CoordEvent) → CoordCause scenario story command event
    → CoordCame scenario story event
coord_came scenario story (Cmd.Go tx) event c = subst (λ e. CoordCame scenario story e) (sym c.is) (refl, c.program)
coord_came scenario story (Cmd.Fate tx) event c = subst (λ e. CoordCame scenario story e) (sym c.is) tt
coord_came scenario story (Cmd.Again tid) event c = subst (λ e. CoordCame scenario story e) (sym c) tt
coord_came scenario story (Cmd.Late tid) event c = subst (λ e. CoordCame scenario story e) (sym c) tt
coord_came scenario story (Cmd.Take site place) event c =
    subst (λ e. CoordCame scenario story e) (sym c.is) (item_at-in (sent_from site story) place c.message c.at)
coord_came scenario story (Cmd.Halt actor cut) event c = subst (λ e. CoordCame scenario story e) (sym c.1) tt
coord_came scenario story (Cmd.Trip actor calls cut) event c = subst (λ e. CoordCame scenario story e) (sym c.1) tt
coord_came scenario story (Cmd.Back actor) event c = subst (λ e. CoordCame scenario story e) (sym c.1) tt
coord_came scenario story (Cmd.Check actor) event c = subst (λ e. CoordCame scenario story e) (sym c.1) tt
coord_came scenario story (Cmd.Begin tx) event c = absurd c
coord_came scenario story (Cmd.Step tx) event c = absurd c
coord_came scenario story (Cmd.Commit tx) event c = absurd c
coord_came scenario story (Cmd.Abort tx) event c = absurd c
coord_came scenario story (Cmd.Give site place) event c = absurd c
coord_came scenario story (Cmd.Ask site tid) event c = absurd c
coord_came scenario story (Cmd.Drop site tid) event c = absurd c

next_of : (scenario : Scenario) (story : Story) (command : Command) (happened : Happened) → IsLine scenario story command happened
    → IsNext scenario story happened
next_of scenario story command (AtSite at x) line = (
  line.home,
  ap (home_of scenario) line.here ∙ line.declared,
  line.event,
  line.is_next ∙ ap (λ s. site_line line.home (past_of s story) line.event) (sym line.here),
  subst (λ s. SiteCame scenario s story line.event) (sym line.here) (site_came scenario line.home story command line.event line.cause),
)
next_of scenario story command (AtCoordinator x) line = (line.event, line.is_next, coord_came scenario story command line.event line.cause)
next_of scenario story command (Nowhere answer) line = tt

pub linked : (scenario : Scenario) (story : Story) (command : Command) → Linked scenario story (happens scenario story command)
linked scenario story command =
    record { next = next_of scenario story command (happens scenario story command) (line_is scenario story command) }

-- a line of this site
pub linked-here : (scenario : Scenario) (home : Home) (story : Story) (x : SiteHappening) (at : SiteId)
    → home_of scenario home.site ≡ Some home → same_site at home.site ≡ true → IsNext scenario story (AtSite at x)
    → (event : SiteEvent) × (x ≡ site_line home (past_of home.site story) event) × SiteCame scenario home.site story event
linked-here scenario home story x at declared q (other, found, event, is, came) =
    let site : at ≡ home.site = same_site-equal at home.site q in
    let same : other ≡ home = some_parts (sym found ∙ ap (home_of scenario) site ∙ declared) in
    (event, is ∙ ap₂ (λ h s. site_line h (past_of s story) event) same site, subst (λ s. SiteCame scenario s story event) site came)

pub numbered : (scenario : Scenario) (story : Story) (event : CoordEvent) → CoordCame scenario story event → IsNumbered (coord_past story) event
numbered scenario story (Coord_event.Go t steps) c = c.0
numbered scenario story (Coord_event.Take site message) c = tt
numbered scenario story (Coord_event.Again t) c = tt
numbered scenario story (Coord_event.Late t) c = tt
numbered scenario story (Coord_event.Fate tx) c = tt
numbered scenario story (Coord_event.Halt cut) c = tt
numbered scenario story (Coord_event.Trip calls cut) c = tt
numbered scenario story Coord_event.Back c = tt
numbered scenario story Coord_event.Check c = tt

-- in the story of any commands the coordinator's past is one that events make
pub story_made : CoordinatorsAreMadeByEvents
story_made scenario [] = tt
story_made scenario (command ∷ commands) =
    more (happens scenario (story_of scenario commands) command) (linked scenario (story_of scenario commands) command) (story_made scenario commands)
  where
    more : (happened : Happened) → Linked scenario (story_of scenario commands) happened
        → IsMadeByEvents (protocols scenario) (policy scenario) (coord_past (story_of scenario commands))
        → IsMadeByEvents (protocols scenario) (policy scenario) (with_coordinator happened (coord_past (story_of scenario commands)))
    more (Nowhere answer) l m = m
    more (AtSite at x) l m = m
    more (AtCoordinator x) l m = (l.next.0, l.next.1, numbered scenario (story_of scenario commands) l.next.0 l.next.2, m)

-- and so one that goes on
pub story_goes_on : (scenario : Scenario) (commands : List Command) → IsGoingOn (protocols scenario) (policy scenario) (coord_past (story_of scenario commands))
story_goes_on scenario commands = going_on (protocols scenario) (policy scenario) (coord_past (story_of scenario commands)) (story_made scenario commands)
