-- Who hears of a command by the rules.
use Rattle.std.proofs.Common.{◌≡◌, ℕ, zero, suc, Bool, cond, Option, Some, None, List, [], slice_get, refl, sym, ◌∙◌, ap, subst}
use Rattle.mdb_base.specs.declared.acts.Step.{Step}
use Rattle.mdb_base.specs.declared.names.SiteId.{SiteId}
use Rattle.mdb_base.specs.declared.names.Tid.{Tid}
use Rattle.mdb_base.specs.declared.names.Tx.{Tx}
use Rattle.mdb_base.specs.Names.{same_site}
use Rattle.mdb_base.specs.Words.{given, item_at, map_some}
use Rattle.mdb_base.proofs.ForCallers.{given_none, given_some, same_site-refl, some_parts}
use Rattle.order_laws.specs.Chains.{In}
use Rattle.order_laws.proofs.ForCallers.{item_at-in}
use Rattle.fed_rules.proofs.ForCallers.{home-again, its-site}
use Rattle.fed_rules.specs.declared.answers.Answer.TheVariants as Say
use Rattle.fed_rules.specs.declared.commands.Command.{Command}
use Rattle.fed_rules.specs.declared.commands.Command.TheVariants as Cmd
use Rattle.fed_rules.specs.declared.events.CoordEvent.{CoordEvent}
use Rattle.fed_rules.specs.declared.events.CoordEvent.TheVariants as Coord_event
use Rattle.fed_rules.specs.declared.events.SiteEvent.{SiteEvent}
use Rattle.fed_rules.specs.declared.events.SiteEvent.TheVariants as Site_event
use Rattle.fed_rules.specs.declared.messages.FromSite.{FromSite}
use Rattle.fed_rules.specs.declared.messages.ToSite.{ToSite}
use Rattle.fed_rules.specs.declared.records.SiteRecord.{SiteRecord}
use Rattle.fed_rules.specs.declared.scenario.Scenario.{Scenario}
use Rattle.fed_rules.specs.declared.scenario.TxLine.{TxLine}
use Rattle.fed_rules.specs.CoordCommands.{fate_request}
use Rattle.fed_rules.specs.CoordPast.{CoordPast}
use Rattle.fed_rules.specs.Requests.{Request, Submits, Declines}
use Rattle.fed_rules.specs.Scenarios.{global_line, global_program, home_at, home_of, home_of_line, local_home, local_site, program_of, program_of_line, sites, transaction}
use Rattle.fed_rules.specs.SiteCommands.{Verb, Abort, Begin, Commit, Fate, Step_on, own_request, request}
use Rattle.fed_rules.specs.SitePast.{SitePast}
use Rattle.fed_rules.specs.Found.{Journal}
use Rattle.fed_rules.specs.Sessions.{Session}
use Rattle.fed_rules.specs.SiteRecords.{Home}
use Rattle.fed_rules.specs.Story.{Story, Happened, Nowhere, at_coordinator, coord_past, coord_requested, happens, on_actor, on_attempt, on_fate, on_give, on_go, on_local, on_site, on_take, past_of, requested, sent_from, sent_to}
use Rattle.coord_tables.specs.Terms.{Terms}
use Rattle.local_dbms.specs.declared.asks.SiteAsk.{SiteAsk}
use Rattle.local_dbms.specs.declared.asks.SiteAsk.TheVariants as At
use Rattle.local_dbms.specs.Asks.{site_request}
use Rattle.global_manager.specs.declared.asks.CoordAsk.{CoordAsk}
use Rattle.global_manager.specs.declared.asks.CoordAsk.TheVariants as Coord
use Rattle.global_manager.specs.Asks.{coord_request}
use Rattle.local_dbms.specs.Found.{found_programs}
use Rattle.local_dbms.specs.Stands.{OwnPrograms, own_programs, program_at}
use Rattle.session_routes.specs.Routes.{place_in}
use Rattle.fed_world.specs.Beginnings.{either, journal_at, programs_at, with_found}
use Rattle.fed_world.specs.declared.asks.Asked.{Asked}
use Rattle.fed_world.specs.declared.asks.Asked.TheVariants.{Coordinator, Nobody}
use Rattle.fed_world.specs.Asks.{IsAsked, IsFromSite, WasSent, terms_of}
use Rattle.fed_world.specs.Hearers.{at_place, to_actor, to_fate, to_give, to_home, to_local, to_site, to_take}
use Rattle.fed_world.proofs.DeclaredPlaces.{among_sites, at_its_place, home_at_place, no_home_placeless}

-- the program of a line that is local at the site
program_at_home : (site : SiteId) (tx : Tx) (home : Option SiteId) (program : List Step) → home ≡ Some site → program_at site (Some (record { tx = tx; home = home; program = program })) ≡ Some program
program_at_home site tx None program e = cc
program_at_home site tx (Some home) program e =
    ap (λ (b : Bool). cond b (Some program) None) (ap (λ (s : SiteId). same_site s site) (some_parts e) ∙ same_site-refl site)

program_of_home : (site : SiteId) (o : Option TxLine) → home_of_line o ≡ Some site → program_at site o ≡ Some (program_of_line o)
program_of_home site None e = cc
program_of_home site (Some line) e = program_at_home site line.tx line.home line.program e

-- a program of a local transaction counts before what is found
found_besides : (o : Option (Journal SiteRecord)) (own : OwnPrograms) (tx : Tx) (steps : List Step) → own tx ≡ Some steps → with_found o own tx ≡ Some steps
found_besides None own tx steps e = e
found_besides (Some journal) own tx steps e = ap (λ (p : Option (List Step)). either p (found_programs journal.records tx)) e

-- the site's own program of a local transaction is that of the plan
pub own_program : (session : Session) (site : SiteId) (tx : Tx) → local_site session.plan tx ≡ Some site → programs_at session site tx ≡ Some (program_of session.plan tx)
own_program session site tx e =
    found_besides (journal_at session.found.sites site) (own_programs site session.plan.transactions) tx (program_of session.plan tx) (program_of_home site (transaction session.plan tx) e)

line_at_home : (site : SiteId) (tx : Tx) (home : Option SiteId) (program : List Step) → home ≡ Some site → global_line (Some (record { tx = tx; home = home; program = program })) ≡ None
line_at_home site tx None program e = cc
line_at_home site tx (Some home) program e = refl

line_of_home : (site : SiteId) (o : Option TxLine) → home_of_line o ≡ Some site → global_line o ≡ None
line_of_home site None e = cc
line_of_home site (Some line) e = line_at_home site line.tx line.home line.program e

-- a local transaction is no global one
pub no_global_program : (scenario : Scenario) (site : SiteId) (tx : Tx) → local_site scenario tx ≡ Some site → global_program scenario tx ≡ None
no_global_program scenario site tx e = ap (λ (o : Option TxLine). map_some (λ (line : TxLine). line.program) o) (line_of_home site (transaction scenario tx) e)

own_some : (verb : Verb) (home : Home) (program : Option (List Step)) (past : SitePast) (tx : Tx) (steps : List Step) → program ≡ Some steps → own_request verb home program past tx ≡ request verb home steps past tx
unfolding own_request
own_some verb home program past tx steps e = given_some program _ _ steps e

-- what comes to the one command comes to the other
pub asked_same : (asked made : Asked) (command other : Command) (session : Session) (story : Story) → asked ≡ made → command ≡ other → IsAsked made other session story → IsAsked asked command session story
asked_same asked made command other session story is same h =
    subst (λ (a : Asked). IsAsked a command session story) (sym is) (subst (λ (c : Command). IsAsked made c session story) (sym same) h)

module _ (session : Session) (story : Story) where
  -- what comes to a declared site, and without it to nobody
  pub site_asked : (site : SiteId) (ask : SiteAsk) (command : Command) (none : Happened) (r : Home → Request SiteEvent) → none ≡ Nowhere Say.None
      → happens session.plan story command ≡ given (home_of session.plan site) (λ home. requested home story (r home)) none
      → ((home : Home) → home.site ≡ site → r home ≡ site_request ask home (programs_at session home.site) (past_of home.site story))
      → WasSent ask site story → IsAsked (to_site session.plan site ask) command session story
  site_asked site ask command none r nothing is asks sent = by_place (place_in (sites session.plan) site) refl
    where
      by_place : (o : Option ℕ) → place_in (sites session.plan) site ≡ o → IsAsked (at_place o ask) command session story
      by_place None e = is ∙ (given_none (home_of session.plan site) none _ (no_home_placeless session.plan site e) ∙ nothing)
      by_place (Some place) e =
          let there : slice_get (sites session.plan) place ≡ Some site = at_its_place (sites session.plan) site place e in
          let found = home_at_place session.plan site place there in
          let home : Home = found.0 in
          let own : home.site ≡ site = its-site session.plan site home found.1 in
          record {
            home = home;
            declared = home-again session.plan site home found.1;
            at = there ∙ ap (λ (s : SiteId). Some s) (sym own);
            happens = is ∙ (given_some (home_of session.plan site) none _ home found.1 ∙ ap (requested home story) (asks home own));
            sent = subst (λ (s : SiteId). WasSent ask s story) (sym own) sent;
          }

  -- an event of a declared site
  pub event_asked : (site : SiteId) (ask : SiteAsk) (command : Command) (event : SiteEvent) → happens session.plan story command ≡ on_site session.plan story site event
      → ((home : Home) (programs : OwnPrograms) (past : SitePast) → site_request ask home programs past ≡ Submits event) → WasSent ask site story → IsAsked (to_site session.plan site ask) command session story
  unfolding on_site
  event_asked site ask command event is submits sent =
      site_asked site ask command (Nowhere Say.None) (λ home. Submits event) refl is (λ home own. sym (submits home (programs_at session home.site) (past_of home.site story))) sent

  local_none : (verb : Verb) (tx : Tx) (none : Happened) → local_site session.plan tx ≡ None → on_local session.plan story verb tx none ≡ none
  unfolding on_local
  local_none verb tx none e = given_none (local_home session.plan tx) none _ (ap (home_at session.plan) e)

  local_some : (verb : Verb) (tx : Tx) (none : Happened) (site : SiteId) → local_site session.plan tx ≡ Some site
      → on_local session.plan story verb tx none ≡ given (home_of session.plan site) (λ home. requested home story (request verb home (program_of session.plan tx) (past_of home.site story) tx)) none
  unfolding on_local
  local_some verb tx none site e =
      ap (λ (o : Option SiteId). given (home_at session.plan o) (λ (home : Home). requested home story (request verb home (program_of session.plan tx) (past_of home.site story) tx)) none) e

  -- a command of a transaction: it comes to its site, and where it is not local, so much holds
  pub home_asked : (verb : Verb) (tx : Tx) (ask : SiteAsk) (command : Command) (none : Happened) (other : Asked) → happens session.plan story command ≡ on_local session.plan story verb tx none
      → ((home : Home) (programs : OwnPrograms) (past : SitePast) → site_request ask home programs past ≡ own_request verb home (programs tx) past tx) → ((site : SiteId) → WasSent ask site story)
      → ((site : SiteId) → local_site session.plan tx ≡ Some site → none ≡ Nowhere Say.None) → (happens session.plan story command ≡ none → IsAsked other command session story)
      → IsAsked (to_home session.plan (local_site session.plan tx) ask other) command session story
  home_asked verb tx ask command none other is asks sent nothing otherwise = by_site (local_site session.plan tx) refl
    where
      by_site : (o : Option SiteId) → local_site session.plan tx ≡ o → IsAsked (to_home session.plan o ask other) command session story
      by_site None e = otherwise (is ∙ local_none verb tx none e)
      by_site (Some site) e =
          site_asked site ask command none (λ home. request verb home (program_of session.plan tx) (past_of home.site story) tx) (nothing site e) (is ∙ local_some verb tx none site e)
          (λ home own.
          let past : SitePast = past_of home.site story in
          let program : programs_at session home.site tx ≡ Some (program_of session.plan tx) = ap (λ (s : SiteId). programs_at session s tx) own ∙ own_program session site tx e in
          sym (asks home (programs_at session home.site) past ∙ own_some verb home (programs_at session home.site tx) past tx (program_of session.plan tx) program)) (sent site)

  -- of a local transaction
  pub local_asked : (verb : Verb) (tx : Tx) (ask : SiteAsk) (command : Command) → happens session.plan story command ≡ on_local session.plan story verb tx (Nowhere Say.None)
      → ((home : Home) (programs : OwnPrograms) (past : SitePast) → site_request ask home programs past ≡ own_request verb home (programs tx) past tx) → ((site : SiteId) → WasSent ask site story)
      → IsAsked (to_local session.plan tx ask) command session story
  local_asked verb tx ask command is asks sent = home_asked verb tx ask command (Nowhere Say.None) Nobody is asks sent (λ site e. refl) (λ e. e)

  fate_nobody : (tx : Tx) (site : SiteId) → local_site session.plan tx ≡ Some site → coord_requested session.plan story (fate_request (global_program session.plan tx) tx) ≡ Nowhere Say.None
  unfolding fate_request
  fate_nobody tx site e = ap (coord_requested session.plan story) (given_none (global_program session.plan tx) (Declines Say.None) _ (no_global_program session.plan site tx e))

  fate_happens : (tx : Tx) → happens session.plan story (Cmd.Fate tx) ≡ on_local session.plan story Fate tx (coord_requested session.plan story (fate_request (global_program session.plan tx) tx))
  unfolding happens on_fate
  fate_happens tx = refl

  -- `fate`
  pub fate_asked : (tx : Tx) → IsAsked (to_fate session.plan tx) (Cmd.Fate tx) session story
  fate_asked tx =
      home_asked Fate tx (At.Fate tx) (Cmd.Fate tx) (coord_requested session.plan story (fate_request (global_program session.plan tx) tx)) (Coordinator (Coord.Fate tx)) (fate_happens tx) (λ home programs past. refl) (λ site. tt)
      (fate_nobody tx) (λ is. record { happens = is; from = tt })

  -- commands of a global transaction and of its attempts
  pub go_asked : (tx : Tx) → IsAsked (Coordinator (Coord.Go tx)) (Cmd.Go tx) session story
  unfolding happens on_go
  go_asked tx = record { happens = refl; from = tt }

  pub again_asked : (tid : Tid) → IsAsked (Coordinator (Coord.Again tid)) (Cmd.Again tid) session story
  unfolding happens on_attempt
  again_asked tid = record { happens = refl; from = tt }

  pub late_asked : (tid : Tid) → IsAsked (Coordinator (Coord.Late tid)) (Cmd.Late tid) session story
  unfolding happens on_attempt
  late_asked tid = record { happens = refl; from = tt }

  give_happens : (site : SiteId) (n : ℕ) → happens session.plan story (Cmd.Give site n) ≡ given (item_at (sent_to site story) n) (λ message. on_site session.plan story site (Site_event.Give message)) (Nowhere Say.None)
  unfolding happens on_give
  give_happens site n = refl

  -- `give`
  pub give_asked : (site : SiteId) (n : ℕ) → IsAsked (to_give session.plan site (item_at (sent_to site story) n)) (Cmd.Give site n) session story
  give_asked site n = by_message (item_at (sent_to site story) n) refl
    where
      by_message : (o : Option ToSite) → item_at (sent_to site story) n ≡ o → IsAsked (to_give session.plan site o) (Cmd.Give site n) session story
      by_message None e = give_happens site n ∙ given_none (item_at (sent_to site story) n) _ _ e
      by_message (Some message) e =
          event_asked site (At.Give message) (Cmd.Give site n) (Site_event.Give message) (give_happens site n ∙ given_some (item_at (sent_to site story) n) _ _ message e) (λ home programs past. refl)
          (item_at-in (sent_to site story) n message e)

  take_happens : (site : SiteId) (n : ℕ) → happens session.plan story (Cmd.Take site n) ≡ given (item_at (sent_from site story) n) (λ message. at_coordinator session.plan story (Coord_event.Take site message)) (Nowhere Say.None)
  unfolding happens on_take
  take_happens site n = refl

  -- `take`, where messages come from declared sites alone
  pub take_asked : (site : SiteId) (n : ℕ) → (home_of session.plan site ≡ None → sent_from site story ≡ []) → IsAsked (to_take site (item_at (sent_from site story) n)) (Cmd.Take site n) session story
  take_asked site n none = by_message (item_at (sent_from site story) n) refl
    where
      by_home : (message : FromSite) → item_at (sent_from site story) n ≡ Some message → (o : Option Home) → home_of session.plan site ≡ o → IsFromSite (Coord.Take site message) session.plan
      by_home message e None is = absurd (subst (λ (ms : List FromSite). In message ms) (none is) (item_at-in (sent_from site story) n message e))
      by_home message e (Some home) is = among_sites session.plan site home is

      by_message : (o : Option FromSite) → item_at (sent_from site story) n ≡ o → IsAsked (to_take site o) (Cmd.Take site n) session story
      by_message None e = take_happens site n ∙ given_none (item_at (sent_from site story) n) _ _ e
      by_message (Some message) e =
          record { happens = take_happens site n ∙ given_some (item_at (sent_from site story) n) _ _ message e; from = by_home message e (home_of session.plan site) refl }

  actor_zero : (at_coord : CoordEvent) (event : SiteEvent) → on_actor session.plan story zero at_coord event ≡ at_coordinator session.plan story at_coord
  unfolding on_actor
  actor_zero at_coord event = refl

  actor_next : (n : ℕ) (at_coord : CoordEvent) (event : SiteEvent) → on_actor session.plan story (suc n) at_coord event ≡ on_site session.plan story (record { 0 = suc n }) event
  unfolding on_actor
  actor_next n at_coord event = refl

  -- an event of an actor
  pub actor_asked : (actor : ℕ) (coordinator : CoordAsk) (ask : SiteAsk) (command : Command) (at_coord : CoordEvent) (event : SiteEvent) → happens session.plan story command ≡ on_actor session.plan story actor at_coord event
      → ((terms : Terms) (programs : OwnPrograms) (past : CoordPast) → coord_request coordinator terms programs past ≡ Submits at_coord) → IsFromSite coordinator session.plan
      → ((home : Home) (programs : OwnPrograms) (past : SitePast) → site_request ask home programs past ≡ Submits event) → ((site : SiteId) → WasSent ask site story)
      → IsAsked (to_actor session.plan actor coordinator ask) command session story
  actor_asked zero coordinator ask command at_coord event is asks from submits sent = record {
    happens = is ∙ (actor_zero at_coord event ∙ ap (coord_requested session.plan story) (sym (asks (terms_of session.plan) (global_program session.plan) (coord_past story))));
    from = from;
  }
  actor_asked (suc n) coordinator ask command at_coord event is asks from submits sent =
      event_asked (record { 0 = suc n }) ask command event (is ∙ actor_next n at_coord event) submits (sent (record { 0 = suc n }))

  -- commands of a local transaction
  pub begin_asked : (tx : Tx) → IsAsked (to_local session.plan tx (At.Begin tx)) (Cmd.Begin tx) session story
  unfolding happens
  begin_asked tx = local_asked Begin tx (At.Begin tx) (Cmd.Begin tx) refl (λ home programs past. refl) (λ site. tt)

  pub step_asked : (tx : Tx) → IsAsked (to_local session.plan tx (At.Step tx)) (Cmd.Step tx) session story
  unfolding happens
  step_asked tx = local_asked Step_on tx (At.Step tx) (Cmd.Step tx) refl (λ home programs past. refl) (λ site. tt)

  pub commit_asked : (tx : Tx) → IsAsked (to_local session.plan tx (At.Commit tx)) (Cmd.Commit tx) session story
  unfolding happens
  commit_asked tx = local_asked Commit tx (At.Commit tx) (Cmd.Commit tx) refl (λ home programs past. refl) (λ site. tt)

  pub abort_asked : (tx : Tx) → IsAsked (to_local session.plan tx (At.Abort tx)) (Cmd.Abort tx) session story
  unfolding happens
  abort_asked tx = local_asked Abort tx (At.Abort tx) (Cmd.Abort tx) refl (λ home programs past. refl) (λ site. tt)

  -- what a declared site is asked of an attempt
  pub ask_asked : (site : SiteId) (tid : Tid) → IsAsked (to_site session.plan site (At.Ask tid)) (Cmd.Ask site tid) session story
  unfolding happens
  ask_asked site tid = event_asked site (At.Ask tid) (Cmd.Ask site tid) (Site_event.Ask tid) refl (λ home programs past. refl) tt

  pub drop_asked : (site : SiteId) (tid : Tid) → IsAsked (to_site session.plan site (At.Drop tid)) (Cmd.Drop site tid) session story
  unfolding happens
  drop_asked site tid = event_asked site (At.Drop tid) (Cmd.Drop site tid) (Site_event.Drop tid) refl (λ home programs past. refl) tt

  -- what an actor is
  pub halt_asked : (actor cut : ℕ) → IsAsked (to_actor session.plan actor (Coord.Halt cut) (At.Halt cut)) (Cmd.Halt actor cut) session story
  unfolding happens
  halt_asked actor cut =
      actor_asked actor (Coord.Halt cut) (At.Halt cut) (Cmd.Halt actor cut) (Coord_event.Halt cut) (Site_event.Halt cut) refl (λ terms programs past. refl) tt (λ home programs past. refl) (λ site. tt)

  pub trip_asked : (actor calls cut : ℕ) → IsAsked (to_actor session.plan actor (Coord.Trip calls cut) (At.Trip calls cut)) (Cmd.Trip actor calls cut) session story
  unfolding happens
  trip_asked actor calls cut =
      actor_asked actor (Coord.Trip calls cut) (At.Trip calls cut) (Cmd.Trip actor calls cut) (Coord_event.Trip calls cut) (Site_event.Trip calls cut) refl (λ terms programs past. refl) tt (λ home programs past. refl) (λ site. tt)

  pub back_asked : (actor : ℕ) → IsAsked (to_actor session.plan actor Coord.Back At.Back) (Cmd.Back actor) session story
  unfolding happens
  back_asked actor = actor_asked actor Coord.Back At.Back (Cmd.Back actor) Coord_event.Back Site_event.Back refl (λ terms programs past. refl) tt (λ home programs past. refl) (λ site. tt)

  pub check_asked : (actor : ℕ) → IsAsked (to_actor session.plan actor Coord.Check At.Check) (Cmd.Check actor) session story
  unfolding happens
  check_asked actor = actor_asked actor Coord.Check At.Check (Cmd.Check actor) Coord_event.Check Site_event.Check refl (λ terms programs past. refl) tt (λ home programs past. refl) (λ site. tt)

-- an actor but the coordinator is the site of its number
pub to_other_actor : (scenario : Scenario) (actor : ℕ) (coordinator : CoordAsk) (ask : SiteAsk) → (actor ≡ 0 → ⊥) → to_actor scenario actor coordinator ask ≡ to_site scenario (record { 0 = actor }) ask
to_other_actor scenario zero coordinator ask other = absurd (other refl)
to_other_actor scenario (suc n) coordinator ask other = refl
