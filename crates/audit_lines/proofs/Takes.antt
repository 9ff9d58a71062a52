-- Which command has the coordinator take a message: `take` alone.
use Rattle.std.proofs.Common.{◌≡◌, ℕ, zero, suc, Bool, true, false, nat_le, Option, Some, None, List, sym, subst}
use Rattle.mdb_base.specs.declared.acts.Step.{Step}
use Rattle.mdb_base.specs.declared.names.SiteId.{SiteId}
use Rattle.mdb_base.specs.declared.names.Tid.{Tid}
use Rattle.mdb_base.specs.declared.names.Tx.{Tx}
use Rattle.mdb_base.specs.Names.{same_tid}
use Rattle.mdb_base.specs.Words.{given, item_at, some_of, when}
use Rattle.presumptions.specs.declared.Participant.{Participant}
use Rattle.fed_rules.specs.declared.answers.Answer.TheVariants as Say
use Rattle.fed_rules.specs.declared.commands.Command.{Command}
use Rattle.fed_rules.specs.declared.commands.Command.TheVariants as Cmd
use Rattle.fed_rules.specs.declared.events.CoordEvent.{CoordEvent}
use Rattle.fed_rules.specs.declared.events.CoordEvent.TheVariants as Ev
use Rattle.fed_rules.specs.declared.events.SiteEvent.{SiteEvent}
use Rattle.fed_rules.specs.declared.events.SiteEvent.TheVariants as Site_event
use Rattle.fed_rules.specs.declared.messages.ToSite.{ToSite}
use Rattle.fed_rules.specs.declared.scenario.Scenario.{Scenario}
use Rattle.fed_rules.specs.Coord.{coord_line}
use Rattle.fed_rules.specs.CoordCommands.{go_next, go_request, fate_request, attempt_request}
use Rattle.fed_rules.specs.CoordPast.{CoordPast, attempts_of, begun_tids}
use Rattle.fed_rules.specs.Policies.{Policy}
use Rattle.fed_rules.specs.Requests.{Request, Submits, Declines, most_attempts, unless_begun, attempt}
use Rattle.fed_rules.specs.Scenarios.{global_program, home_of, local_home, policy, program_of, protocols}
use Rattle.fed_rules.specs.SiteCommands.{Verb, Begin, Step_on, Commit, Abort, Fate, request}
use Rattle.fed_rules.specs.SiteRecords.{Home}
use Rattle.fed_rules.specs.Story.{Story, Happened, AtSite, AtCoordinator, Nowhere, at_coordinator, at_site, coord_past, coord_requested, happens, on_local, on_go, on_fate, on_attempt, on_site, on_give, on_actor, past_of, requested, sent_to}
use Rattle.coord_laws.proofs.ForCallers.{coord_made}
use Rattle.audit_lines.specs.Compared.{is_take}

-- the event isn't a message that is taken
abbrev pub IsNoTake : CoordEvent → Type 0
IsNoTake (Ev.Take site message) = ⊥
IsNoTake event = Unit {0}

-- the coordinator took no message
abbrev pub TookNothing : Happened → Type 0
TookNothing (AtSite site x) = Unit {0}
TookNothing (AtCoordinator x) = IsNoTake x.event
TookNothing (Nowhere answer) = Unit {0}

-- the request asks for no message to be taken
abbrev AsksNoTake : Request CoordEvent → Type 0
AsksNoTake (Submits event) = IsNoTake event
AsksNoTake (Declines answer) = Unit {0}

asks_go : (protocols : List Participant) (policy : Policy) (program : Option (List Step)) (past : CoordPast) (tx : Tx) → AsksNoTake (go_request protocols policy program past tx)
unfolding go_request go_next given when
asks_go protocols policy None past tx = tt
asks_go protocols policy (Some steps) past tx = by_count (nat_le most_attempts (attempts_of past tx)) where
  by_count : (b : Bool) → AsksNoTake (when b (Declines (unless_begun (coord_line protocols policy past (Ev.Go (attempt tx (attempts_of past tx)) steps)).answer)) (Submits (Ev.Go (attempt tx (attempts_of past tx)) steps)))
  by_count true = tt
  by_count false = tt

asks_fate : (program : Option (List Step)) (tx : Tx) → AsksNoTake (fate_request program tx)
unfolding fate_request given
asks_fate None tx = tt
asks_fate (Some steps) tx = tt

asks_attempt : (past : CoordPast) (tid : Tid) (event : CoordEvent) → IsNoTake event → AsksNoTake (attempt_request past tid event)
unfolding attempt_request when
asks_attempt past tid event none = by_begun (some_of (same_tid tid) (begun_tids past)) where
  by_begun : (b : Bool) → AsksNoTake (when b (Submits event) (Declines Say.None))
  by_begun true = none
  by_begun false = tt

module _ (scenario : Scenario) (story : Story) where
  -- the line of an event is of that event
  pub heard : (event : CoordEvent) → (coord_line (protocols scenario) (policy scenario) (coord_past story) event).event ≡ event
  heard event = (coord_made (protocols scenario) (policy scenario) (coord_past story) event).heard

  other_event : (event : CoordEvent) → IsNoTake event → TookNothing (at_coordinator scenario story event)
  other_event event none = subst IsNoTake (sym (heard event)) none

  at_request : (r : Request SiteEvent) (home : Home) → TookNothing (requested home story r)
  at_request (Submits event) home = tt
  at_request (Declines answer) home = tt

  by_home : (verb : Verb) (tx : Tx) (o : Option Home) (nowhere : Happened) → TookNothing nowhere
      → TookNothing (given o (λ home. requested home story (request verb home (program_of scenario tx) (past_of home.site story) tx)) nowhere)
  unfolding given
  by_home verb tx None nowhere none = none
  by_home verb tx (Some home) nowhere none = at_request (request verb home (program_of scenario tx) (past_of home.site story) tx) home

  local_takes_none : (verb : Verb) (tx : Tx) (nowhere : Happened) → TookNothing nowhere → TookNothing (on_local scenario story verb tx nowhere)
  unfolding on_local
  local_takes_none verb tx nowhere none = by_home verb tx (local_home scenario tx) nowhere none

  site_takes_none : (site : SiteId) (event : SiteEvent) → TookNothing (on_site scenario story site event)
  unfolding on_site given
  site_takes_none site event = by_declared (home_of scenario site) where
    by_declared : (o : Option Home) → TookNothing (given o (λ home. at_site home story event) (Nowhere Say.None))
    by_declared None = tt
    by_declared (Some home) = tt

  requests_none : (r : Request CoordEvent) → AsksNoTake r → TookNothing (coord_requested scenario story r)
  requests_none (Submits event) none = other_event event none
  requests_none (Declines answer) none = tt

  go_takes_none : (tx : Tx) → TookNothing (on_go scenario story tx)
  unfolding on_go
  go_takes_none tx = requests_none _ (asks_go (protocols scenario) (policy scenario) (global_program scenario tx) (coord_past story) tx)

  fate_takes_none : (tx : Tx) → TookNothing (on_fate scenario story tx)
  unfolding on_fate
  fate_takes_none tx = local_takes_none Fate tx _ (requests_none _ (asks_fate (global_program scenario tx) tx))

  attempt_takes_none : (tid : Tid) (event : CoordEvent) → IsNoTake event → TookNothing (on_attempt scenario story tid event)
  unfolding on_attempt
  attempt_takes_none tid event none = requests_none _ (asks_attempt (coord_past story) tid event none)

  actor_takes_none : (actor : ℕ) (event : CoordEvent) (own : SiteEvent) → IsNoTake event → TookNothing (on_actor scenario story actor event own)
  unfolding on_actor
  actor_takes_none zero event own none = other_event event none
  actor_takes_none (suc n) event own none = site_takes_none (record { 0 = suc n }) own

  give_takes_none : (site : SiteId) (place : ℕ) → TookNothing (on_give scenario story site place)
  unfolding on_give given
  give_takes_none site place = by_message (item_at (sent_to site story) place) where
    by_message : (o : Option ToSite) → TookNothing (given o (λ message. on_site scenario story site (Site_event.Give message)) (Nowhere Say.None))
    by_message None = tt
    by_message (Some message) = site_takes_none site (Site_event.Give message)

  -- by any other command the coordinator takes no message
  pub takes_none : (command : Command) → is_take command ≡ false → TookNothing (happens scenario story command)
  unfolding happens
  takes_none (Cmd.Begin tx) e = local_takes_none Begin tx (Nowhere Say.None) tt
  takes_none (Cmd.Step tx) e = local_takes_none Step_on tx (Nowhere Say.None) tt
  takes_none (Cmd.Commit tx) e = local_takes_none Commit tx (Nowhere Say.None) tt
  takes_none (Cmd.Abort tx) e = local_takes_none Abort tx (Nowhere Say.None) tt
  takes_none (Cmd.Fate tx) e = fate_takes_none tx
  takes_none (Cmd.Go tx) e = go_takes_none tx
  takes_none (Cmd.Again tid) e = attempt_takes_none tid (Ev.Again tid) tt
  takes_none (Cmd.Late tid) e = attempt_takes_none tid (Ev.Late tid) tt
  takes_none (Cmd.Give site place) e = give_takes_none site place
  takes_none (Cmd.Take site place) e = cc
  takes_none (Cmd.Ask site tid) e = site_takes_none site (Site_event.Ask tid)
  takes_none (Cmd.Drop site tid) e = site_takes_none site (Site_event.Drop tid)
  takes_none (Cmd.Halt actor cut) e = actor_takes_none actor (Ev.Halt cut) (Site_event.Halt cut) tt
  takes_none (Cmd.Trip actor calls cut) e = actor_takes_none actor (Ev.Trip calls cut) (Site_event.Trip calls cut) tt
  takes_none (Cmd.Back actor) e = actor_takes_none actor Ev.Back Site_event.Back tt
  takes_none (Cmd.Check actor) e = actor_takes_none actor Ev.Check Site_event.Check tt
