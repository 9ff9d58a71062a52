-- What each command makes happen in a story.
use Rattle.std.proofs.Common.{◌≡◌, ℕ, zero, suc, Bool, true, false, Option, Some, None, refl, sym, ap, subst}
use Rattle.mdb_base.specs.declared.names.SiteId.{SiteId}
use Rattle.mdb_base.specs.declared.names.Tid.{Tid}
use Rattle.mdb_base.specs.declared.names.Tx.{Tx}
use Rattle.mdb_base.specs.Names.{same_tid}
use Rattle.mdb_base.specs.Words.{when, given, item_at, some_of}
use Rattle.fed_rules.specs.declared.answers.Answer.{Answer}
use Rattle.fed_rules.specs.declared.answers.Answer.TheVariants as Say
use Rattle.fed_rules.specs.declared.commands.Command.{Command}
use Rattle.fed_rules.specs.declared.commands.Command.TheVariants as Cmd
use Rattle.fed_rules.specs.declared.events.CoordEvent.{CoordEvent}
use Rattle.fed_rules.specs.declared.events.CoordEvent.TheVariants as To_coord
use Rattle.fed_rules.specs.declared.events.SiteEvent.{SiteEvent}
use Rattle.fed_rules.specs.declared.events.SiteEvent.TheVariants as To_site
use Rattle.fed_rules.specs.declared.scenario.Scenario.{Scenario}
use Rattle.fed_rules.specs.CoordCommands.{go_next, go_request, fate_request, attempt_request}
use Rattle.fed_rules.specs.CoordPast as Coordinator
use Rattle.fed_rules.specs.Requests.{Request, Submits, Declines}
use Rattle.fed_rules.specs.Scenarios.{home_of, local_home, global_program, program_of, policy, protocols}
use Rattle.fed_rules.specs.SiteCommands.{Verb, Begin, Step_on, Commit, Abort, Fate, request}
use Rattle.fed_rules.specs.SiteRecords.{Home}
use Rattle.fed_rules.specs.Story.{Story, Happened, Nowhere, past_of, coord_past, sent_to, sent_from, happens, at_site, at_coordinator, requested, coord_requested, on_local, on_fate, on_go, on_attempt, on_site, on_give, on_take, on_actor}
use Rattle.fed_rules.specs.Lines.{IsAsked, SiteCause, CoordCause, IsLine, EachLineIsAskedFor}
use Rattle.fed_rules.proofs.Declared.{home-again, its-site, local-declared}
use Rattle.fed_rules.proofs.SiteRequests.{asks, submits-parts, given-submits, when-submits}

record Follows (scenario : Scenario) (story : Story) (command : Command) (happened : Happened) : Type 0 where
  line : IsLine scenario story command happened

module _ (scenario : Scenario) (story : Story) (command : Command) where
  nowhere : (answer : Answer) → Follows scenario story command (Nowhere answer)
  nowhere answer = record { line = tt }

  at-coordinator : (event : CoordEvent) → CoordCause scenario story command event → Follows scenario story command (at_coordinator scenario story event)
  at-coordinator event cause = record { line = record { event = event; is_next = refl; cause = cause } }

  at-home : (home : Home) (event : SiteEvent) → home_of scenario home.site ≡ Some home → SiteCause scenario home story command event → Follows scenario story command (at_site home story event)
  at-home home event declared cause =
      record { line = record { home = home; declared = declared; here = refl; event = event; is_next = refl; cause = cause } }

  follows_given : {A : Type 0} (o : Option A) (none : Happened) (some : A → Happened) → Follows scenario story command none → ((x : A) → o ≡ Some x → Follows scenario story command (some x)) → Follows scenario story command (given o some none)
  unfolding given
  follows_given None none some p q = p
  follows_given (Some x) none some p q = q x refl

  of_request : (home : Home) (r : Request SiteEvent) → home_of scenario home.site ≡ Some home → ((event : SiteEvent) → r ≡ Submits event → SiteCause scenario home story command event) → Follows scenario story command (requested home story r)
  of_request home (Submits event) declared cause = at-home home event declared (cause event refl)
  of_request home (Declines answer) declared cause = nowhere answer

  of_coord_request : (r : Request CoordEvent) → ((event : CoordEvent) → r ≡ Submits event → CoordCause scenario story command event) → Follows scenario story command (coord_requested scenario story r)
  of_coord_request (Submits event) cause = at-coordinator event (cause event refl)
  of_coord_request (Declines answer) cause = nowhere answer

  of_local : (verb : Verb) (tx : Tx) (other : Happened) → Follows scenario story command other
      → ((home : Home) (event : SiteEvent) → IsAsked verb scenario home (past_of home.site story) tx event → SiteCause scenario home story command event) → Follows scenario story command (on_local scenario story verb tx other)
  unfolding on_local
  of_local verb tx other p q =
      follows_given (local_home scenario tx) _ _ p (λ home here.
      of_request home (request verb home (program_of scenario tx) (past_of home.site story) tx) (local-declared scenario tx home here) (λ event e.
      q home event (record { here = here; asks = asks verb home (program_of scenario tx) (past_of home.site story) tx event e })))

  of_site : (s : SiteId) (event : SiteEvent) → ((home : Home) → s ≡ home.site → SiteCause scenario home story command event) → Follows scenario story command (on_site scenario story s event)
  unfolding on_site
  of_site s event cause =
      follows_given (home_of scenario s) _ _ (nowhere _) (λ home found.
      at-home home event (home-again scenario s home found) (cause home (sym (its-site scenario s home found))))

  of_attempt : (tid : Tid) (event : CoordEvent) → CoordCause scenario story command event → Follows scenario story command (on_attempt scenario story tid event)
  unfolding on_attempt attempt_request when
  of_attempt tid event cause = by_test (some_of (same_tid tid) (Coordinator.begun_tids (coord_past story)))
    where
      by_test : (b : Bool) → Follows scenario story command (coord_requested scenario story (when b (Submits event) (Declines Say.None)))
      by_test true = at-coordinator event cause
      by_test false = nowhere _

  of_actor : (actor : ℕ) (c : CoordEvent) (s : SiteEvent) → (actor ≡ 0 → CoordCause scenario story command c) → ((home : Home) → actor ≡ home.site.0 → SiteCause scenario home story command s) → Follows scenario story command (on_actor scenario story actor c s)
  unfolding on_actor
  of_actor zero c s p q = at-coordinator c (p refl)
  of_actor (suc n) c s p q = of_site (record { 0 = suc n }) s (λ home here. q home (ap (λ (x : SiteId). x.0) here))

follows_fate : (scenario : Scenario) (story : Story) (tx : Tx) → Follows scenario story (Cmd.Fate tx) (on_fate scenario story tx)
unfolding on_fate fate_request
follows_fate scenario story tx =
    of_local scenario story (Cmd.Fate tx) Fate tx _
    (of_coord_request scenario story (Cmd.Fate tx) (fate_request (global_program scenario tx) tx) (λ event e.
    let (steps, program, is) = given-submits (global_program scenario tx) _ _ event e in record { steps = steps; program = program; is = sym (submits-parts is) }))
    (λ home event asked. asked)

follows_go : (scenario : Scenario) (story : Story) (tx : Tx) → Follows scenario story (Cmd.Go tx) (on_go scenario story tx)
unfolding on_go go_request go_next
follows_go scenario story tx =
    of_coord_request scenario story (Cmd.Go tx) (go_request (protocols scenario) (policy scenario) (global_program scenario tx) (coord_past story) tx) (λ event e.
    let (steps, program, e1) = given-submits (global_program scenario tx) _ _ event e in
    let (few, is) = when-submits _ _ _ event e1 in
    record { steps = steps; program = program; is = sym (submits-parts is) })

follows_give : (scenario : Scenario) (story : Story) (s : SiteId) (place : ℕ) → Follows scenario story (Cmd.Give s place) (on_give scenario story s place)
unfolding on_give
follows_give scenario story s place =
    follows_given scenario story (Cmd.Give s place) (item_at (sent_to s story) place) _ _ (nowhere scenario story (Cmd.Give s place) _) (λ message f.
    of_site scenario story (Cmd.Give s place) s (To_site.Give message) (λ home here.
    (here, record { message = message; at = subst (λ site. item_at (sent_to site story) place ≡ Some message) here f; is = refl })))

follows_take : (scenario : Scenario) (story : Story) (s : SiteId) (place : ℕ) → Follows scenario story (Cmd.Take s place) (on_take scenario story s place)
unfolding on_take
follows_take scenario story s place =
    follows_given scenario story (Cmd.Take s place) (item_at (sent_from s story) place) _ _ (nowhere scenario story (Cmd.Take s place) _) (λ message f.
    at-coordinator scenario story (Cmd.Take s place) (To_coord.Take s message) (record { message = message; at = f; is = refl }))

follows : (scenario : Scenario) (story : Story) (command : Command) → Follows scenario story command (happens scenario story command)
unfolding happens
follows scenario story (Cmd.Begin tx) = of_local scenario story (Cmd.Begin tx) Begin tx _ (nowhere scenario story (Cmd.Begin tx) _) (λ home event asked. asked)
follows scenario story (Cmd.Step tx) = of_local scenario story (Cmd.Step tx) Step_on tx _ (nowhere scenario story (Cmd.Step tx) _) (λ home event asked. asked)
follows scenario story (Cmd.Commit tx) = of_local scenario story (Cmd.Commit tx) Commit tx _ (nowhere scenario story (Cmd.Commit tx) _) (λ home event asked. asked)
follows scenario story (Cmd.Abort tx) = of_local scenario story (Cmd.Abort tx) Abort tx _ (nowhere scenario story (Cmd.Abort tx) _) (λ home event asked. asked)
follows scenario story (Cmd.Fate tx) = follows_fate scenario story tx
follows scenario story (Cmd.Go tx) = follows_go scenario story tx
follows scenario story (Cmd.Again tid) = of_attempt scenario story (Cmd.Again tid) tid _ refl
follows scenario story (Cmd.Late tid) = of_attempt scenario story (Cmd.Late tid) tid _ refl
follows scenario story (Cmd.Give s place) = follows_give scenario story s place
follows scenario story (Cmd.Take s place) = follows_take scenario story s place
follows scenario story (Cmd.Ask s tid) = of_site scenario story (Cmd.Ask s tid) s _ (λ home here. (here, refl))
follows scenario story (Cmd.Drop s tid) = of_site scenario story (Cmd.Drop s tid) s _ (λ home here. (here, refl))
follows scenario story (Cmd.Halt actor cut) = of_actor scenario story (Cmd.Halt actor cut) actor _ _ (λ e. (e, refl)) (λ home e. (e, refl))
follows scenario story (Cmd.Trip actor calls cut) = of_actor scenario story (Cmd.Trip actor calls cut) actor _ _ (λ e. (e, refl)) (λ home e. (e, refl))
follows scenario story (Cmd.Back actor) = of_actor scenario story (Cmd.Back actor) actor _ _ (λ e. (e, refl)) (λ home e. (e, refl))
follows scenario story (Cmd.Check actor) = of_actor scenario story (Cmd.Check actor) actor _ _ (λ e. (e, refl)) (λ home e. (e, refl))

-- each command makes a line of an actor at an event that it asked for, or one that no actor hears of
pub line_is : EachLineIsAskedFor
line_is scenario story command = (follows scenario story command).line
