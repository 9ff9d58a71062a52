-- What a command of the coordinator's host makes happen by the rules: the request of the host's own plan.
use Rattle.std.proofs.Common.{◌≡◌, ℕ, zero, suc, Option, Some, None, List, [], length, refl, sym, ◌∙◌, ap, subst}
use Rattle.std.specs.Prelude.{option_to_list}
use Rattle.std.specs.Option.{IsSome}
use Rattle.mdb_base.specs.declared.acts.Step.{Step}
use Rattle.mdb_base.specs.declared.names.SiteId.{SiteId}
use Rattle.mdb_base.specs.declared.names.Tx.{Tx}
use Rattle.mdb_base.specs.Words.{Each, item_at, map_some}
use Rattle.mdb_base.proofs.ForCallers.{given_none, given_some, some_parts, those_rise}
use Rattle.order_laws.specs.Chains.{In}
use Rattle.order_laws.proofs.ForCallers.{each_at, each_from, slice_get-in}
use Rattle.presumptions.specs.declared.Participant.{Participant}
use Rattle.commit_laws.proofs.ForCallers.{IsNext, linked, members_rise, story_made}
use Rattle.coord_laws.proofs.ForCallers.{going_on, records_name}
use Rattle.fed_rules.specs.declared.answers.Answer.{Answer}
use Rattle.fed_rules.specs.declared.commands.Command.{Command}
use Rattle.fed_rules.specs.declared.commands.Command.TheVariants as Cmd
use Rattle.fed_rules.specs.declared.events.CoordEvent.{CoordEvent}
use Rattle.fed_rules.specs.declared.events.CoordEvent.TheVariants as Ev
use Rattle.fed_rules.specs.declared.events.SiteEvent.{SiteEvent}
use Rattle.fed_rules.specs.declared.messages.FromSite.{FromSite}
use Rattle.fed_rules.specs.declared.messages.Sent.{Sent}
use Rattle.fed_rules.specs.declared.scenario.Scenario.{Scenario}
use Rattle.fed_rules.specs.declared.scenario.StopLine.{StopLine}
use Rattle.fed_rules.specs.declared.scenario.TxLine.{TxLine}
use Rattle.fed_rules.specs.CoordPast.{CoordHappening}
use Rattle.fed_rules.specs.Plans.{IsScenario}
use Rattle.fed_rules.specs.Requests.{Request, Submits, Declines}
use Rattle.fed_rules.specs.Right.{IsAnswer}
use Rattle.fed_rules.specs.Scenarios.{global_line, global_program, home_at, home_of_line, local_home, policy, protocols, transaction}
use Rattle.fed_rules.specs.SiteCommands as Rule
use Rattle.fed_rules.specs.SiteCommands.{Verb, request}
use Rattle.fed_rules.specs.SitePast.{SitePast}
use Rattle.fed_rules.specs.Story.{Story, Happened, AtCoordinator, at_coordinator, coord_past, coord_requested, happens, on_actor, on_attempt, on_fate, on_go, on_local, on_take, places_of, sends_from, sends_to, sent_from, sent_to, story_of, with_coordinator, with_site}
use Rattle.world_laws.proofs.ForCallers.{SendsAmong, coordinator_sends, sites_in}
use Rattle.fed_rules.specs.Terms.{Terms, line_of}
use Rattle.fed_rules.specs.Site_of.{message_to}
use Rattle.coord_tables.specs.Terms.{Terms, line_of}
use Rattle.fed_messages.specs.declared.Envelope.{Envelope}
use Rattle.fed_rules.proofs.ForCallers.{MembersRise}
use Rattle.host_laws.specs.CoordHistory.{IsCoordCommand}
use Rattle.host_laws.specs.CoordPlans.{CoordPlan}
use Rattle.host_laws.specs.CoordTurns.{CoordTurn, MayAnswer, coord_behind, coord_request, coord_sends, coord_trips_of, places_sent, taken_from, sent_to as sent_by_coordinator}
use Rattle.host_laws.proofs.SendsRise.{BySite, NamesRise, line_rises}
use Rattle.host_laws.proofs.SentPlaces.{no_places, one_message, places_same, sent_places}

-- ---- global transactions

no_home : (tx : Tx) (home : Option SiteId) (program : List Step) → IsSome (map_some (λ (l : TxLine). l.program) (global_line (Some (record { tx = tx; home = home; program = program })))) → home ≡ None
no_home tx None program some = refl
no_home tx (Some site) program some = cc

global_homeless : (line : Option TxLine) → IsSome (map_some (λ (l : TxLine). l.program) (global_line line)) → home_of_line line ≡ None
global_homeless None some = cc
global_homeless (Some line) some = no_home line.tx line.home line.program some

-- a global transaction is local nowhere
not_local : (scenario : Scenario) (story : Story) (verb : Verb) (tx : Tx) (none : Happened) → IsSome (global_program scenario tx) → on_local scenario story verb tx none ≡ none
unfolding on_local
not_local scenario story verb tx none some = given_none (local_home scenario tx) none _ (ap (home_at scenario) (global_homeless (transaction scenario tx) some))

taken_is : (scenario : Scenario) (story : Story) (site : SiteId) (took : Option (Envelope FromSite)) (envelope : Envelope FromSite) → took ≡ Some envelope
    → coord_requested scenario story (taken_from site took) ≡ at_coordinator scenario story (Ev.Take site envelope.message)
taken_is scenario story site None envelope e = cc
taken_is scenario story site (Some other) envelope e = ap (λ (n : Envelope FromSite). at_coordinator scenario story (Ev.Take site n.message)) (some_parts e)

-- the envelope that a line takes bears the message of its number
abbrev pub WasTaken : Story → Command → Option (Envelope FromSite) → Type 0
WasTaken story command took = (site : SiteId) (place : ℕ) (envelope : Envelope FromSite) → command ≡ Cmd.Take site place → took ≡ Some envelope → place ≡ envelope.index → item_at (sent_from site story) place ≡ Some envelope.message

take_happens : (scenario : Scenario) (story : Story) (site : SiteId) (place : ℕ) (message : FromSite) → item_at (sent_from site story) place ≡ Some message → on_take scenario story site place ≡ at_coordinator scenario story (Ev.Take site message)
unfolding on_take
take_happens scenario story site place message at = given_some (item_at (sent_from site story) place) _ _ message at

actor_happens : (scenario : Scenario) (story : Story) (actor : ℕ) (event : CoordEvent) (other : SiteEvent) → actor ≡ 0 → on_actor scenario story actor event other ≡ at_coordinator scenario story event
unfolding on_actor
actor_happens scenario story zero event other e = refl
actor_happens scenario story (suc n) event other e = cc

-- the terms of the scenario
abbrev pub terms_in : Scenario → Terms
terms_in scenario = record { protocols = protocols scenario; policy = policy scenario }

-- a plan of the scenario
abbrev pub plan_in : Scenario → List StopLine → ℕ → CoordPlan
plan_in scenario stops faults = record { terms = terms_in scenario; programs = global_program scenario; stops = stops; faults = faults }

module _ (scenario : Scenario) (story : Story) (stops : List StopLine) (faults : ℕ) where
  abbrev plan : CoordPlan
  plan = plan_in scenario stops faults

  -- a command of the coordinator's host makes happen what its own request does
  pub command_happens : (turns : List CoordTurn) (command : Command) (took : Option (Envelope FromSite)) → Each (λ (stop : StopLine). stop.actor ≡ 0) stops → IsCoordCommand plan turns command took → WasTaken story command took
      → happens scenario story command ≡ coord_requested scenario story (coord_request plan (coord_past story) command took)
  unfolding happens on_go on_fate on_attempt
  command_happens turns (Cmd.Go tx) took own is sent = refl
  command_happens turns (Cmd.Fate tx) took own is sent = not_local scenario story Rule.Fate tx _ is.0
  command_happens turns (Cmd.Again tid) took own is sent = refl
  command_happens turns (Cmd.Late tid) took own is sent = refl
  command_happens turns (Cmd.Take site place) took own is sent =
      let taken = is.1 in
      take_happens scenario story site place taken.envelope.message (sent site place taken.envelope refl taken.is taken.place_is) ∙ sym (taken_is scenario story site took taken.envelope taken.is)
  command_happens turns (Cmd.Trip actor calls cut) took own is sent =
      actor_happens scenario story actor (Ev.Trip calls cut) _ (each_at (λ (stop : StopLine). stop.actor ≡ 0) _ stops own (slice_get-in stops (coord_trips_of turns) _ is.0))
  command_happens turns (Cmd.Back actor) took own is sent = actor_happens scenario story actor Ev.Back _ is.0
  command_happens turns (Cmd.Begin tx) took own is sent = absurd is
  command_happens turns (Cmd.Step tx) took own is sent = absurd is
  command_happens turns (Cmd.Commit tx) took own is sent = absurd is
  command_happens turns (Cmd.Abort tx) took own is sent = absurd is
  command_happens turns (Cmd.Give site place) took own is sent = absurd is
  command_happens turns (Cmd.Ask site tid) took own is sent = absurd is
  command_happens turns (Cmd.Drop site tid) took own is sent = absurd is
  command_happens turns (Cmd.Halt actor cut) took own is sent = absurd is
  command_happens turns (Cmd.Check actor) took own is sent = absurd is

-- ---- what a request of the coordinator does to the story

module _ (scenario : Scenario) (story : Story) where
  pub coord_answers : (r : Request CoordEvent) (answer : Answer) → MayAnswer (terms_in scenario) (coord_past story) r answer → IsAnswer (protocols scenario) story (coord_requested scenario story r) answer
  coord_answers (Submits event) answer may = may
  coord_answers (Declines declined) answer may = may

  pub coord_goes_on : (r : Request CoordEvent) → with_coordinator (coord_requested scenario story r) (coord_past story) ≡ coord_behind (terms_in scenario) (coord_past story) r
  coord_goes_on (Submits event) = refl
  coord_goes_on (Declines answer) = refl

  pub sites_stay : (site : SiteId) (r : Request CoordEvent) (past : SitePast) → with_site site (coord_requested scenario story r) past ≡ past
  sites_stay site (Submits event) past = refl
  sites_stay site (Declines answer) past = refl

  pub none_from_sites : (site : SiteId) (r : Request CoordEvent) → sends_from site (coord_requested scenario story r) ≡ []
  none_from_sites site (Submits event) = refl
  none_from_sites site (Declines answer) = refl

  pub sends_to_site : (site : SiteId) (r : Request CoordEvent) → BySite (coord_sends (terms_in scenario) (coord_past story) r)
      → sends_to site (coord_requested scenario story r) ≡ option_to_list (message_to site (coord_sends (terms_in scenario) (coord_past story) r))
  sends_to_site site (Submits event) rises = sym (one_message site (line_of (terms_in scenario) (coord_past story) event).sends rises)
  sends_to_site site (Declines answer) rises = refl

  -- the places by rising site are those of the story, where the channels to the declared sites are as long as the host's
  pub coord_places : (stops : List StopLine) (faults : ℕ) (turns : List CoordTurn) (r : Request CoordEvent) → IsScenario scenario → BySite (coord_sends (terms_in scenario) (coord_past story) r)
      → Each (λ (z : Sent). In z.site (sites_in (protocols scenario))) (coord_sends (terms_in scenario) (coord_past story) r)
      → ((site : SiteId) → In site (sites_in (protocols scenario)) → length (sent_by_coordinator (plan_in scenario stops faults) site turns) ≡ length (sent_to site story))
      → places_sent (plan_in scenario stops faults) turns (coord_sends (terms_in scenario) (coord_past story) r) ≡ places_of story (coord_requested scenario story r)
  coord_places stops faults turns (Submits event) whole rises among counts =
      let sends = (line_of (terms_in scenario) (coord_past story) event).sends in
      sent_places (λ (site : SiteId). length (sent_by_coordinator (plan_in scenario stops faults) site turns)) (protocols scenario) sends (members_rise scenario whole) rises among
      ∙ places_same (λ (site : SiteId). length (sent_by_coordinator (plan_in scenario stops faults) site turns)) (λ (site : SiteId). length (sent_to site story)) sends
      (each_from _ sends (λ z i. counts z.site (each_at (λ (s : Sent). In s.site (sites_in (protocols scenario))) z sends among i)))
  coord_places stops faults turns (Declines answer) whole rises among counts = no_places (λ (site : SiteId). length (sent_by_coordinator (plan_in scenario stops faults) site turns)) (protocols scenario)

-- ---- the sends of a line of a story

module _ (scenario : Scenario) (commands : List Command) where
  abbrev told : Story
  told = story_of scenario commands

  -- the records name participants by rising site
  names_rise : IsScenario scenario → NamesRise (protocols scenario) (coord_past told)
  names_rise whole tid members e =
      subst (λ (ms : List Participant). MembersRise ms) (sym (records_name (protocols scenario) (policy scenario) (coord_past told) (going_on (protocols scenario) (policy scenario) (coord_past told) (story_made scenario commands)) tid members e))
      (those_rise (λ (p : Participant). p.site.0) _ (protocols scenario) (members_rise scenario whole))

  -- what a request sends goes to rising sites
  pub requests_rise : (r : Request CoordEvent) → IsScenario scenario → BySite (coord_sends (terms_in scenario) (coord_past told) r)
  requests_rise (Submits event) whole = (line_rises (protocols scenario) (members_rise scenario whole) (policy scenario) (coord_past told) event (names_rise whole)).sends
  requests_rise (Declines answer) whole = tt

  by_happened : (x y : Happened) (h : CoordHappening) → x ≡ y → y ≡ AtCoordinator h → IsNext scenario told x → SendsAmong (protocols scenario) h
  by_happened x y h same is next =
      let n = subst (IsNext scenario told) (same ∙ is) next in
      subst (λ (z : CoordHappening). SendsAmong (protocols scenario) z) (sym n.1) (coordinator_sends scenario commands n.0 n.2)

  -- and to declared ones
  pub requests_declared : (command : Command) (r : Request CoordEvent) → happens scenario told command ≡ coord_requested scenario told r
      → Each (λ (z : Sent). In z.site (sites_in (protocols scenario))) (coord_sends (terms_in scenario) (coord_past told) r)
  requests_declared command (Submits event) is = (by_happened (happens scenario told command) (coord_requested scenario told (Submits event)) _ is refl (linked scenario told command).next).sends
  requests_declared command (Declines answer) is = tt
