-- What a command of a site's host makes happen by the rules: the request of the host's own plan.
use Rattle.std.proofs.Common.{◌≡◌, ℕ, zero, suc, ◌≤◌, Bool, true, false, cond, Option, Some, None, List, [], length, refl, sym, ◌∙◌, ap, subst, arith}
use Rattle.std.specs.Option.{IsSome}
use Rattle.mdb_base.specs.declared.acts.Step.{Step}
use Rattle.mdb_base.specs.declared.names.SiteId.{SiteId}
use Rattle.mdb_base.specs.declared.names.Tx.{Tx}
use Rattle.mdb_base.specs.Names.{same_site}
use Rattle.mdb_base.specs.Words.{Each, item_at}
use Rattle.mdb_base.proofs.ForCallers.{cond-false, cond-true, given_some, same_site-equal, same_site-refl, some_parts}
use Rattle.order_laws.proofs.ForCallers.{each_at, slice_get-in}
use Rattle.fed_rules.specs.declared.answers.Answer.TheVariants as Say
use Rattle.fed_rules.specs.declared.commands.Command.{Command}
use Rattle.fed_rules.specs.declared.commands.Command.TheVariants as Cmd
use Rattle.fed_rules.specs.declared.events.CoordEvent.{CoordEvent}
use Rattle.fed_rules.specs.declared.events.SiteEvent.{SiteEvent}
use Rattle.fed_rules.specs.declared.events.SiteEvent.TheVariants as Ev
use Rattle.fed_rules.specs.declared.messages.ToSite.{ToSite}
use Rattle.fed_rules.specs.declared.scenario.Scenario.{Scenario}
use Rattle.fed_rules.specs.declared.scenario.StopLine.{StopLine}
use Rattle.fed_rules.specs.declared.scenario.TxLine.{TxLine}
use Rattle.fed_rules.specs.CoordPast.{CoordPast}
use Rattle.fed_rules.specs.Requests.{Request, Submits, Declines}
use Rattle.fed_rules.specs.Right.{IsAnswer}
use Rattle.fed_rules.specs.Scenarios.{home_at, home_of, home_of_line, local_home, program_of, program_of_line, transaction}
use Rattle.fed_rules.specs.SiteCommands as Rule
use Rattle.fed_rules.specs.SiteCommands.{Verb, answer_to, own_request, past_behind, request}
use Rattle.fed_rules.specs.SitePast.{SitePast}
use Rattle.fed_rules.specs.SiteRecords.{Home}
use Rattle.fed_rules.specs.Story.{Story, Happened, Nowhere, at_site, happens, on_actor, on_fate, on_give, on_local, on_site, past_of, place_from, places_of, requested, sends_from, sends_to, sent_from, sent_to, with_coordinator, with_site}
use Rattle.fed_rules.specs.OwnPrograms.{own_programs, program_at}
use Rattle.presumptions.specs.declared.Participant.{Participant}
use Rattle.fed_messages.specs.declared.Envelope.{Envelope}
use Rattle.host_laws.specs.History.{IsCommand}
use Rattle.host_laws.specs.Plans.{SitePlan}
use Rattle.host_laws.specs.Turns.{SiteTurn, giving, request_of, sends_of, trips_of}

-- ---- transactions of the site's own

-- a program of the site's own is that of a line that is at home there
pub record IsOwn (site : SiteId) (line : Option TxLine) : Type 0 where
  pub home : home_of_line line ≡ Some site
  pub program : program_at site line ≡ Some (program_of_line line)

own_here : (site : SiteId) (tx : Tx) (home : Option SiteId) (program : List Step) → IsSome (program_at site (Some (record { tx = tx; home = home; program = program })))
    → IsOwn site (Some (record { tx = tx; home = home; program = program }))
own_here site tx None program some = cc
own_here site tx (Some home) program some = by_test (same_site home site) refl some
  where
    by_test : (b : Bool) → same_site home site ≡ b → IsSome (cond b (Some program) None) → IsOwn site (Some (record { tx = tx; home = Some home; program = program }))
    by_test true is some = record { home = ap (λ (s : SiteId). Some s) (same_site-equal home site is); program = cond-true (same_site home site) (Some program) None is }
    by_test false is some = cc

own_line : (site : SiteId) (line : Option TxLine) → IsSome (program_at site line) → IsOwn site line
own_line site None some = cc
own_line site (Some line) some = own_here site line.tx line.home line.program some

-- the envelope that a line takes bears the message of its number
abbrev pub WasGiven : Story → SiteId → Command → Option (Envelope ToSite) → Type 0
WasGiven story own command took = (place : ℕ) (envelope : Envelope ToSite) → command ≡ Cmd.Give own place → took ≡ Some envelope → place ≡ envelope.index → item_at (sent_to own story) place ≡ Some envelope.message

module _ (scenario : Scenario) (story : Story) (home : Home) (declared : home_of scenario home.site ≡ Some home) where
  -- a command of one of these
  pub local_happens : (verb : Verb) (tx : Tx) (none : Happened) → IsSome (own_programs home.site scenario.transactions tx)
      → on_local scenario story verb tx none ≡ requested home story (own_request verb home (own_programs home.site scenario.transactions tx) (past_of home.site story) tx)
  unfolding on_local own_request
  local_happens verb tx none some =
      let own = own_line home.site (transaction scenario tx) some in
      let there : local_home scenario tx ≡ Some home = ap (home_at scenario) own.home ∙ declared in
      given_some (local_home scenario tx) none _ home there
      ∙ ap (requested home story) (sym (given_some (own_programs home.site scenario.transactions tx) _ (λ steps. request verb home steps (past_of home.site story) tx) (program_of scenario tx) own.program))

  -- an event of the site
  site_happens : (site : SiteId) (event : SiteEvent) → site ≡ home.site → on_site scenario story site event ≡ at_site home story event
  unfolding on_site
  site_happens site event same = given_some (home_of scenario site) _ _ home (ap (home_of scenario) same ∙ declared)

  -- of the actor that it is
  own_happens : (actor : ℕ) (one : CoordEvent) (event : SiteEvent) → 1 ≤ home.site.0 → actor ≡ home.site.0 → on_actor scenario story actor one event ≡ at_site home story event
  unfolding on_actor
  own_happens zero one event least same = absurd (omega (arith, least, same))
  own_happens (suc n) one event least same = site_happens (record { 0 = suc n }) event (ap (λ (k : ℕ). let s : SiteId = record { 0 = k } in s) same)

  -- a message that is given
  give_happens : (site : SiteId) (place : ℕ) (message : ToSite) → site ≡ home.site → item_at (sent_to home.site story) place ≡ Some message → on_give scenario story site place ≡ at_site home story (Ev.Give message)
  unfolding on_give
  give_happens site place message same at =
      given_some (item_at (sent_to site story) place) _ _ message (ap (λ (s : SiteId). item_at (sent_to s story) place) same ∙ at) ∙ site_happens site (Ev.Give message) same

-- whatever the envelope is, what is given is its message
giving_is : (home : Home) (story : Story) (took : Option (Envelope ToSite)) (envelope : Envelope ToSite) → took ≡ Some envelope → requested home story (giving took) ≡ at_site home story (Ev.Give envelope.message)
giving_is home story None envelope e = cc
giving_is home story (Some other) envelope e = ap (λ (n : Envelope ToSite). at_site home story (Ev.Give n.message)) (some_parts e)

module _ (scenario : Scenario) (story : Story) (plan : SitePlan) (declared : home_of scenario plan.home.site ≡ Some plan.home) (least : 1 ≤ plan.home.site.0)
    (own : plan.programs ≡ own_programs plan.home.site scenario.transactions) (stops : Each (λ (stop : StopLine). stop.actor ≡ plan.home.site.0) plan.stops) where
  abbrev home : Home
  home = plan.home

  abbrev past : SitePast
  past = past_of plan.home.site story

  -- a command of an own transaction
  own_request_happens : (verb : Verb) (tx : Tx) (none : Happened) → IsSome (plan.programs tx) → on_local scenario story verb tx none ≡ requested home story (own_request verb home (plan.programs tx) past tx)
  own_request_happens verb tx none some =
      let is : plan.programs tx ≡ own_programs plan.home.site scenario.transactions tx = ap (λ f. f tx) own in
      local_happens scenario story home declared verb tx none (subst IsSome is some) ∙ ap (λ (o : Option (List Step)). requested home story (own_request verb home o past tx)) (sym is)

  -- a command of the site's host makes happen what its own request does
  pub command_happens : (turns : List SiteTurn) (command : Command) (took : Option (Envelope ToSite)) → IsCommand plan turns command took → WasGiven story plan.home.site command took
      → happens scenario story command ≡ requested home story (request_of plan past command took)
  unfolding happens on_fate
  command_happens turns (Cmd.Begin tx) took is sent = own_request_happens Rule.Begin tx (Nowhere Say.None) is.0
  command_happens turns (Cmd.Step tx) took is sent = own_request_happens Rule.Step_on tx (Nowhere Say.None) is.0
  command_happens turns (Cmd.Commit tx) took is sent = own_request_happens Rule.Commit tx (Nowhere Say.None) is.0
  command_happens turns (Cmd.Abort tx) took is sent = own_request_happens Rule.Abort tx (Nowhere Say.None) is.0
  command_happens turns (Cmd.Fate tx) took is sent = own_request_happens Rule.Fate tx _ is.0
  command_happens turns (Cmd.Give site place) took is sent =
      let given = is.1 in
      let at = sent place given.envelope (ap (λ (s : SiteId). Cmd.Give s place) is.0) given.is given.place_is in
      give_happens scenario story home declared site place given.envelope.message is.0 at ∙ sym (giving_is home story took given.envelope given.is)
  command_happens turns (Cmd.Ask site tid) took is sent = site_happens scenario story home declared site (Ev.Ask tid) is.0
  command_happens turns (Cmd.Trip actor calls cut) took is sent =
      let actor_is = each_at (λ (stop : StopLine). stop.actor ≡ plan.home.site.0) _ plan.stops stops (slice_get-in plan.stops (trips_of turns) _ is.0) in
      own_happens scenario story home declared actor _ (Ev.Trip calls cut) least actor_is
  command_happens turns (Cmd.Back actor) took is sent = own_happens scenario story home declared actor _ Ev.Back least is.0
  command_happens turns (Cmd.Go tx) took is sent = absurd is
  command_happens turns (Cmd.Again tid) took is sent = absurd is
  command_happens turns (Cmd.Late tid) took is sent = absurd is
  command_happens turns (Cmd.Take site place) took is sent = absurd is
  command_happens turns (Cmd.Drop site tid) took is sent = absurd is
  command_happens turns (Cmd.Halt actor cut) took is sent = absurd is
  command_happens turns (Cmd.Check actor) took is sent = absurd is

-- ---- what a request of a site does to the story

module _ (story : Story) (home : Home) where
  pub site_answers : (members : List Participant) (r : Request SiteEvent) → IsAnswer members story (requested home story r) (answer_to home (past_of home.site story) r)
  site_answers members (Submits event) = refl
  site_answers members (Declines answer) = refl

  pub site_places : (r : Request SiteEvent) → places_of story (requested home story r) ≡ place_from home.site (length (sent_from home.site story)) (sends_of home (past_of home.site story) r)
  site_places (Submits event) = refl
  site_places (Declines answer) = refl

  pub site_behind : (r : Request SiteEvent) → with_site home.site (requested home story r) (past_of home.site story) ≡ past_behind home (past_of home.site story) r
  site_behind (Submits event) = cond-true (same_site home.site home.site) _ _ (same_site-refl home.site)
  site_behind (Declines answer) = refl

  pub site_sends : (r : Request SiteEvent) → sends_from home.site (requested home story r) ≡ sends_of home (past_of home.site story) r
  site_sends (Submits event) = cond-true (same_site home.site home.site) _ _ (same_site-refl home.site)
  site_sends (Declines answer) = refl

  pub none_from_others : (other : SiteId) (r : Request SiteEvent) → same_site home.site other ≡ false → sends_from other (requested home story r) ≡ []
  none_from_others other (Submits event) apart = cond-false (same_site home.site other) _ _ apart
  none_from_others other (Declines answer) apart = refl

  pub others_behind : (other : SiteId) (r : Request SiteEvent) (xs : SitePast) → same_site home.site other ≡ false → with_site other (requested home story r) xs ≡ xs
  others_behind other (Submits event) xs apart = cond-false (same_site home.site other) _ _ apart
  others_behind other (Declines answer) xs apart = refl

  pub coordinator_behind : (r : Request SiteEvent) (xs : CoordPast) → with_coordinator (requested home story r) xs ≡ xs
  coordinator_behind (Submits event) xs = refl
  coordinator_behind (Declines answer) xs = refl

  pub none_to_sites : (other : SiteId) (r : Request SiteEvent) → sends_to other (requested home story r) ≡ []
  none_to_sites other (Submits event) = refl
  none_to_sites other (Declines answer) = refl
