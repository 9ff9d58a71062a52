-- What happens at a command to declared sites fits the command, behind commands whose attempts are ready, whatever the session found on its disks.
use Rattle.std.proofs.Common.{◌≡◌, ◌⊎◌, ℕ, zero, suc, ◌<◌, ◌||◌, Bool, true, false, cond, Option, Some, None, List, [], ◌∷◌, inl, inr, refl, sym, ◌∙◌, ap, subst}
use Rattle.std.proofs.lemmas.Bool.{ne_eqb}
use Rattle.mdb_base.specs.declared.acts.Step.{Step}
use Rattle.mdb_base.specs.declared.names.SiteId.{SiteId}
use Rattle.mdb_base.specs.declared.names.Tid.{Tid}
use Rattle.mdb_base.specs.declared.names.Tx.{Tx}
use Rattle.mdb_base.specs.Names.{same_site}
use Rattle.mdb_base.specs.Words.{given, item_at, when}
use Rattle.presumptions.specs.declared.Participant.{Participant}
use Rattle.fed_rules.specs.declared.answers.Answer.{Answer}
use Rattle.fed_rules.specs.declared.answers.Answer.TheVariants as Say
use Rattle.fed_rules.specs.declared.commands.Command.{Command}
use Rattle.fed_rules.specs.declared.commands.Command.TheVariants as Cmd
use Rattle.fed_rules.specs.declared.events.CoordEvent.{CoordEvent}
use Rattle.fed_rules.specs.declared.events.CoordEvent.TheVariants as To_coord
use Rattle.fed_rules.specs.declared.events.SiteEvent.{SiteEvent}
use Rattle.fed_rules.specs.declared.events.SiteEvent.TheVariants as To_site
use Rattle.fed_rules.specs.declared.messages.FromSite.{FromSite}
use Rattle.fed_rules.specs.declared.scenario.ItemLine.{ItemLine}
use Rattle.fed_rules.specs.declared.scenario.Scenario.{Scenario}
use Rattle.fed_rules.specs.declared.scenario.SiteLine.{SiteLine}
use Rattle.fed_rules.specs.Coord.{coord_line}
use Rattle.fed_rules.specs.CoordCommands.{attempt_request, fate_request, go_next, go_request}
use Rattle.fed_rules.specs.CoordPast.{CoordHappening, CoordPast}
use Rattle.fed_rules.specs.Plans.{is_actor, is_declared}
use Rattle.fed_rules.specs.Requests.{Request, Submits, Declines, unless_begun}
use Rattle.fed_rules.specs.Runs.{Run}
use Rattle.fed_rules.specs.Scenarios.{global_program, home_in, items_of, home_of, local_home, policy, program_of, protocols}
use Rattle.fed_rules.specs.Sessions.{Session}
use Rattle.fed_rules.specs.Site.{site_line}
use Rattle.fed_rules.specs.SiteCommands.{Verb, Begin, Step_on, Commit, Abort, Fate, begin_next, next_step, request, when_done, with_live}
use Rattle.fed_rules.specs.SitePast.{SiteHappening, SitePast, trip}
use Rattle.fed_rules.specs.SiteRecords.{Home}
use Rattle.fed_rules.specs.Story.{Happened, AtSite, AtCoordinator, Nowhere, Story, coord_past, coord_requested, happens, on_actor, on_attempt, on_fate, on_give, on_go, on_local, on_site, on_take, past_of, requested, sent_from, sent_to, story_in}
use Rattle.coord_laws.proofs.ForCallers.{decided_awaited, records_name}
use Rattle.commit_laws.proofs.ForCallers.{HasCalls, session_goes_on}
use Rattle.federation_laws.proofs.ForCallers.{number_some}
use Rattle.fed_rules.specs.Lines.{CoordCause, IsCoordLine, IsSiteLine, SiteCause}
use Rattle.fed_rules.proofs.ForCallers.{local-declared}
use Rattle.line_text.specs.Fits.{answer_fits, is_begin_answer, is_only}
use Rattle.line_laws.specs.Lines.{IsHeard}
use Rattle.line_laws.proofs.CoordFits as Coord
use Rattle.line_laws.proofs.CoordFits.{IsSited}
use Rattle.line_laws.proofs.CoordLines.{CoordGood}
use Rattle.line_laws.proofs.CoordSends.{KnowsDecided}
use Rattle.line_laws.proofs.Outstanding.{IsMember}
use Rattle.line_laws.proofs.SiteFits as Site
use Rattle.line_laws.proofs.SiteFits.{IsFit}
use Rattle.line_laws.proofs.Sorted.{Sorted, number_of, participants_sorted}
use Rattle.line_laws.proofs.Starts.{Starts, State}

-- ---- where sites are declared

pub declared_home : (lines : List SiteLine) (items : List ItemLine) (site : SiteId) → is_declared lines site ≡ true → home_in lines items site ≡ None → ⊥
declared_home [] items site e none = cc
declared_home (line ∷ lines) items site e none =
    by_test (same_site line.site site) (record { site = line.site; engine = line.engine; protocol = line.protocol; items = items_of items site }) e none (declared_home lines items site)
  where
    by_test : (b : Bool) (h : Home) → (b || is_declared lines site) ≡ true → cond b (Some h) (home_in lines items site) ≡ None → (is_declared lines site ≡ true → home_in lines items site ≡ None → ⊥) → ⊥
    by_test true h e none rest = cc
    by_test false h e none rest = rest e none

module _ (session : Session) (start : Starts session) (commands : List Command) (state : State session commands) where
  abbrev plan : Scenario
  plan = session.plan

  abbrev story : Story
  story = story_in session commands

  abbrev past : CoordPast
  past = coord_past story

  abbrev table : List Participant
  table = protocols plan

  pub sorted : Sorted number_of table
  sorted = participants_sorted plan.sites start.sites.differ

  knows : KnowsDecided table past state.ready sorted
  knows = record {
    awaited = λ t d e. decided_awaited table (policy plan) past (session_goes_on session start.fits commands) t d e;
    named = λ t ms e. records_name table (policy plan) past (session_goes_on session start.fits commands) t ms e;
  }

  -- a message comes from a declared site
  sender_member : (site : SiteId) (place : ℕ) (message : FromSite) → item_at (sent_from site story) place ≡ Some message → IsMember table site
  sender_member site place message at = by_sender (state.senders site)
    where
      by_sender : (sent_from site story ≡ []) ⊎ IsMember table site → IsMember table site
      by_sender (inl none) = (let clash : None ≡ Some message = sym (ap (λ (ms : List FromSite). item_at ms place) none) ∙ at in cc)
      by_sender (inr member) = member

  go_sited : (tx : Tx) (steps : List Step) → global_program plan tx ≡ Some steps → IsSited table past state.ready sorted steps
  go_sited tx steps e = let p = start.programs tx steps e in record { each = p.0; some = p.1 }

  -- the coordinator's line of a command
  coord_good : (command : Command) (event : CoordEvent) → CoordCause plan story command event → CoordGood table past state.ready sorted command (coord_line table (policy plan) past event)
  coord_good (Cmd.Go tx) event c = subst (λ v. CoordGood table past state.ready sorted (Cmd.Go tx) (coord_line table (policy plan) past v)) (sym c.is) (Coord.go_line table past state.ready sorted (policy plan) state.armed _ c.steps tx (go_sited tx c.steps c.program))
  coord_good (Cmd.Fate tx) event c = subst (λ v. CoordGood table past state.ready sorted (Cmd.Fate tx) (coord_line table (policy plan) past v)) (sym c.is) (Coord.fate_line table past state.ready sorted (policy plan) state.armed tx tx)
  coord_good (Cmd.Again tid) event c = subst (λ v. CoordGood table past state.ready sorted (Cmd.Again tid) (coord_line table (policy plan) past v)) (sym c) (Coord.again_line table past state.ready sorted (policy plan) state.armed tid knows)
  coord_good (Cmd.Late tid) event c = subst (λ v. CoordGood table past state.ready sorted (Cmd.Late tid) (coord_line table (policy plan) past v)) (sym c) (Coord.late_line table past state.ready sorted (policy plan) state.armed tid)
  coord_good (Cmd.Take site place) event c =
      subst (λ v. CoordGood table past state.ready sorted (Cmd.Take site place) (coord_line table (policy plan) past v)) (sym c.is)
      (Coord.take_line table past state.ready sorted (policy plan) state.armed site c.message place (sender_member site place c.message c.at))
  coord_good (Cmd.Halt actor cut) event c = subst (λ v. CoordGood table past state.ready sorted (Cmd.Halt actor cut) (coord_line table (policy plan) past v)) (sym c.1) (Coord.halt_line table past state.ready sorted (policy plan) state.armed actor cut)
  coord_good (Cmd.Trip actor calls cut) event c = subst (λ v. CoordGood table past state.ready sorted (Cmd.Trip actor calls cut) (coord_line table (policy plan) past v)) (sym c.1) (Coord.trip_line table past state.ready sorted (policy plan) state.armed actor calls cut)
  coord_good (Cmd.Back actor) event c =
      subst (λ v. CoordGood table past state.ready sorted (Cmd.Back actor) (coord_line table (policy plan) past v)) (sym c.1)
      (subst (λ n. CoordGood table past state.ready sorted (Cmd.Back n) (coord_line table (policy plan) past To_coord.Back)) (sym c.0) (Coord.back_line table past state.ready sorted (policy plan) state.armed))
  coord_good (Cmd.Check actor) event c = subst (λ v. CoordGood table past state.ready sorted (Cmd.Check actor) (coord_line table (policy plan) past v)) (sym c.1) (Coord.check_line table past state.ready sorted (policy plan) state.armed actor)
  coord_good (Cmd.Begin tx) event c = absurd c
  coord_good (Cmd.Step tx) event c = absurd c
  coord_good (Cmd.Commit tx) event c = absurd c
  coord_good (Cmd.Abort tx) event c = absurd c
  coord_good (Cmd.Give site place) event c = absurd c
  coord_good (Cmd.Ask site tid) event c = absurd c
  coord_good (Cmd.Drop site tid) event c = absurd c

  pub coord_line_good : (command : Command) (x : CoordHappening) → IsCoordLine plan story command x → CoordGood table past state.ready sorted command x
  coord_line_good command x line = subst (CoordGood table past state.ready sorted command) (sym line.is_next) (coord_good command line.event line.cause)

  -- a site's line of a command
  module _ (home : Home) (declared : home_of plan home.site ≡ Some home) where
    abbrev there : SitePast
    there = past_of home.site story

    site_armed : HasCalls (trip there)
    site_armed = state.site_armed home declared

    site_fit : (command : Command) (event : SiteEvent) → SiteCause plan home story command event → IsFit command home.site (site_line home there event)
    site_fit (Cmd.Begin tx) event c = subst (λ v. IsFit (Cmd.Begin tx) home.site (site_line home there v)) (sym c.asks.is) (Site.begin_line home there _ tx home.site site_armed)
    site_fit (Cmd.Step tx) event c = subst (λ v. IsFit (Cmd.Step tx) home.site (site_line home there v)) (sym c.asks.is) (Site.act_line home there _ _ tx home.site site_armed)
    site_fit (Cmd.Commit tx) event c = subst (λ v. IsFit (Cmd.Commit tx) home.site (site_line home there v)) (sym c.asks.is) (Site.commit_line home there _ tx home.site)
    site_fit (Cmd.Abort tx) event c = subst (λ v. IsFit (Cmd.Abort tx) home.site (site_line home there v)) (sym c.asks.is) (Site.abort_line home there _ tx home.site site_armed)
    site_fit (Cmd.Fate tx) event c = subst (λ v. IsFit (Cmd.Fate tx) home.site (site_line home there v)) (sym c.asks) (Site.fate_line home there tx tx home.site site_armed)
    site_fit (Cmd.Give site place) event c =
        subst (λ v. IsFit (Cmd.Give site place) home.site (site_line home there v)) (sym c.1.is)
        (subst (λ s. IsFit (Cmd.Give s place) home.site (site_line home there (To_site.Give c.1.message))) (sym c.0) (Site.give_line home.site place home there c.1.message))
    site_fit (Cmd.Ask site tid) event c =
        subst (λ v. IsFit (Cmd.Ask site tid) home.site (site_line home there v)) (sym c.1)
        (subst (λ s. IsFit (Cmd.Ask s tid) home.site (site_line home there (To_site.Ask tid))) (sym c.0) (Site.ask_line home there tid home.site tid site_armed))
    site_fit (Cmd.Drop site tid) event c =
        subst (λ v. IsFit (Cmd.Drop site tid) home.site (site_line home there v)) (sym c.1)
        (subst (λ s. IsFit (Cmd.Drop s tid) home.site (site_line home there (To_site.Drop tid))) (sym c.0) (Site.drop_line home there tid home.site tid site_armed))
    site_fit (Cmd.Halt actor cut) event c = subst (λ v. IsFit (Cmd.Halt actor cut) home.site (site_line home there v)) (sym c.1) (Site.halt_line home there actor cut home.site)
    site_fit (Cmd.Trip actor calls cut) event c = subst (λ v. IsFit (Cmd.Trip actor calls cut) home.site (site_line home there v)) (sym c.1) (Site.trip_line home there actor calls cut home.site)
    site_fit (Cmd.Back actor) event c =
        subst (λ v. IsFit (Cmd.Back actor) home.site (site_line home there v)) (sym c.1)
        (Site.back_line home there actor home.site (subst (λ n. 0 < n) (sym c.0) (number_some plan home.site home start.sites declared)))
    site_fit (Cmd.Check actor) event c = subst (λ v. IsFit (Cmd.Check actor) home.site (site_line home there v)) (sym c.1) (Site.check_line home there actor home.site)
    site_fit (Cmd.Go tx) event c = absurd c
    site_fit (Cmd.Again tid) event c = absurd c
    site_fit (Cmd.Late tid) event c = absurd c
    site_fit (Cmd.Take site place) event c = absurd c

  pub site_line_fit : (command : Command) (site : SiteId) (x : SiteHappening) → IsSiteLine plan story command site x → IsFit command site x
  site_line_fit command site x line =
      subst (λ s. IsFit command s x) (sym line.here) (subst (IsFit command line.home.site) (sym line.is_next) (site_fit line.home line.declared command line.event line.cause))

  -- ---- what nobody hears

  pub record IsWord (command : Command) (answer : Answer) : Type 0 where
    pub fits : answer_fits command answer ≡ true
    pub other : is_only answer ≡ false

  abbrev pub Unheard : Command → Happened → Type 0
  Unheard command (AtSite site x) = Unit {0}
  Unheard command (AtCoordinator x) = Unit {0}
  Unheard command (Nowhere answer) = IsWord command answer

  -- a wrapper, so that a choice is gone through by its branches
  pub record Word (command : Command) (h : Happened) : Type 0 where
    pub word : Unheard command h

  word_given : {A : Type 0} (command : Command) (o : Option A) (none : Happened) (some : A → Happened) → (o ≡ None → Word command none) → ((a : A) → o ≡ Some a → Word command (some a)) → Word command (given o some none)
  unfolding given
  word_given command None none some p q = p refl
  word_given command (Some a) none some p q = q a refl

  pub said : (command : Command) (answer : Answer) → answer_fits command answer ≡ true → is_only answer ≡ false → Word command (Nowhere answer)
  said command answer f o = record { word = record { fits = f; other = o } }

  -- a request of a site
  record Asked (command : Command) (home : Home) (r : Request SiteEvent) : Type 0 where
    asked : Word command (requested home story r)

  asked_when : (command : Command) (home : Home) (b : Bool) (r s : Request SiteEvent) → Asked command home r → Asked command home s → Asked command home (when b r s)
  unfolding when
  asked_when command home true r s p q = p
  asked_when command home false r s p q = q

  asked_given : {A : Type 0} (command : Command) (home : Home) (o : Option A) (r : Request SiteEvent) (f : A → Request SiteEvent) → Asked command home r → ((a : A) → Asked command home (f a)) → Asked command home (given o f r)
  unfolding given
  asked_given command home None r f p q = p
  asked_given command home (Some a) r f p q = q a

  declines : (command : Command) (home : Home) (answer : Answer) → answer_fits command answer ≡ true → is_only answer ≡ false → Asked command home (Declines answer)
  declines command home answer f o = record { asked = said command answer f o }

  submits : (command : Command) (home : Home) (event : SiteEvent) → Asked command home (Submits event)
  submits command home event = record { asked = record { word = tt } }

  spent : (answer : Answer) → is_begin_answer answer ≡ true → (is_begin_answer (unless_begun answer) ≡ true) × (is_only (unless_begun answer) ≡ false)
  spent Say.None f = (refl, refl)
  spent Say.Down f = (refl, refl)
  spent (Say.Committed tid) f = (refl, refl)
  spent (Say.Running tid) f = (refl, refl)
  spent Say.Spent f = (refl, refl)
  spent (Say.Begun tid) f = (refl, refl)
  spent answer f = cc

  begin_asked : (home : Home) (tx : Tx) (n : ℕ) → home_of plan home.site ≡ Some home → Asked (Cmd.Begin tx) home (begin_next home (past_of home.site story) tx n)
  unfolding begin_next
  begin_asked home tx n declared =
      let fit = Site.begin_line home (past_of home.site story) _ tx home.site (state.site_armed home declared) in
      let s = spent _ fit.answer in
      asked_when (Cmd.Begin tx) home _ _ _ (declines (Cmd.Begin tx) home _ s.0 s.1) (submits (Cmd.Begin tx) home _)

  live_asked : (command : Command) (home : Home) (tx : Tx) (next : Tid → Run → Request SiteEvent) → answer_fits command Say.Down ≡ true → answer_fits command Say.Idle ≡ true
      → ((tid : Tid) (run : Run) → Asked command home (next tid run)) → Asked command home (with_live home (past_of home.site story) tx next)
  unfolding with_live
  live_asked command home tx next down idle f =
      asked_when command home _ _ _ (declines command home Say.Down down refl)
      (asked_given command home _ _ _ (declines command home Say.Idle idle refl) (λ tid. asked_given command home _ _ _ (declines command home Say.Idle idle refl) (λ run. f tid run)))

  step_asked : (home : Home) (steps : List Step) (tx : Tx) (tid : Tid) (run : Run) → Asked (Cmd.Step tx) home (next_step steps tid run)
  unfolding next_step
  step_asked home steps tx tid run = asked_given (Cmd.Step tx) home _ _ _ (declines (Cmd.Step tx) home Say.End refl refl) (λ step. submits (Cmd.Step tx) home _)

  commit_asked : (home : Home) (steps : List Step) (tx : Tx) (tid : Tid) (run : Run) → Asked (Cmd.Commit tx) home (when_done steps tid run)
  unfolding when_done
  commit_asked home steps tx tid run = asked_when (Cmd.Commit tx) home _ _ _ (declines (Cmd.Commit tx) home Say.Unfinished refl refl) (submits (Cmd.Commit tx) home _)

  abbrev command_of : Verb → Tx → Command
  command_of Begin tx = Cmd.Begin tx
  command_of Step_on tx = Cmd.Step tx
  command_of Commit tx = Cmd.Commit tx
  command_of Abort tx = Cmd.Abort tx
  command_of Fate tx = Cmd.Fate tx

  verb_asked : (verb : Verb) (home : Home) (steps : List Step) (tx : Tx) → home_of plan home.site ≡ Some home → Asked (command_of verb tx) home (request verb home steps (past_of home.site story) tx)
  unfolding request
  verb_asked Begin home steps tx d = begin_asked home tx _ d
  verb_asked Step_on home steps tx d = live_asked (Cmd.Step tx) home tx (next_step steps) refl refl (λ tid run. step_asked home steps tx tid run)
  verb_asked Commit home steps tx d = live_asked (Cmd.Commit tx) home tx (when_done steps) refl refl (λ tid run. commit_asked home steps tx tid run)
  verb_asked Abort home steps tx d = live_asked (Cmd.Abort tx) home tx (λ tid run. Submits (To_site.Abort tid)) refl refl (λ tid run. submits (Cmd.Abort tx) home _)
  verb_asked Fate home steps tx d = submits (Cmd.Fate tx) home _

  local_word : (verb : Verb) (tx : Tx) (other : Happened) → Word (command_of verb tx) other → Word (command_of verb tx) (on_local plan story verb tx other)
  unfolding on_local
  local_word verb tx other w =
      word_given (command_of verb tx) (local_home plan tx) _ _ (λ e. w) (λ home e. (verb_asked verb home (program_of plan tx) tx (local-declared plan tx home e)).asked)

  -- a request of the coordinator
  record CoordAsked (command : Command) (r : Request CoordEvent) : Type 0 where
    asked : Word command (coord_requested plan story r)

  coord_when : (command : Command) (b : Bool) (r s : Request CoordEvent) → CoordAsked command r → CoordAsked command s → CoordAsked command (when b r s)
  unfolding when
  coord_when command true r s p q = p
  coord_when command false r s p q = q

  coord_given : {A : Type 0} (command : Command) (o : Option A) (r : Request CoordEvent) (f : A → Request CoordEvent) → CoordAsked command r → ((a : A) → o ≡ Some a → CoordAsked command (f a)) → CoordAsked command (given o f r)
  unfolding given
  coord_given command None r f p q = p
  coord_given command (Some a) r f p q = q a refl

  coord_declines : (command : Command) (answer : Answer) → answer_fits command answer ≡ true → is_only answer ≡ false → CoordAsked command (Declines answer)
  coord_declines command answer f o = record { asked = said command answer f o }

  coord_submits : (command : Command) (event : CoordEvent) → CoordAsked command (Submits event)
  coord_submits command event = record { asked = record { word = tt } }

  next_asked : (tx : Tx) (steps : List Step) (n : ℕ) → global_program plan tx ≡ Some steps → CoordAsked (Cmd.Go tx) (go_next table (policy plan) past tx steps n)
  unfolding go_next
  next_asked tx steps n e =
      let good = Coord.go_line table past state.ready sorted (policy plan) state.armed _ steps tx (go_sited tx steps e) in
      let s = spent _ good.answer in
      coord_when (Cmd.Go tx) _ _ _ (coord_declines (Cmd.Go tx) _ s.0 s.1) (coord_submits (Cmd.Go tx) _)

  go_word : (tx : Tx) → Word (Cmd.Go tx) (on_go plan story tx)
  unfolding on_go go_request
  go_word tx = (coord_given (Cmd.Go tx) (global_program plan tx) _ _ (coord_declines (Cmd.Go tx) Say.None refl refl) (λ steps e. next_asked tx steps _ e)).asked

  fate_word : (tx : Tx) → Word (Cmd.Fate tx) (on_fate plan story tx)
  unfolding on_fate fate_request
  fate_word tx =
      local_word Fate tx _ (coord_given (Cmd.Fate tx) (global_program plan tx) _ _ (coord_declines (Cmd.Fate tx) Say.None refl refl) (λ steps e. coord_submits (Cmd.Fate tx) _)).asked

  attempt_word : (command : Command) (tid : Tid) (event : CoordEvent) → answer_fits command Say.None ≡ true → Word command (on_attempt plan story tid event)
  unfolding on_attempt attempt_request
  attempt_word command tid event f = (coord_when command _ _ _ (coord_submits command event) (coord_declines command Say.None f refl)).asked

  site_word : (command : Command) (site : SiteId) (event : SiteEvent) → (home_of plan site ≡ None → answer_fits command Say.None ≡ true) → Word command (on_site plan story site event)
  unfolding on_site
  site_word command site event f = word_given command (home_of plan site) _ _ (λ e. said command Say.None (f e) refl) (λ home e. record { word = tt })

  give_word : (site : SiteId) (place : ℕ) → Word (Cmd.Give site place) (on_give plan story site place)
  unfolding on_give
  give_word site place = word_given (Cmd.Give site place) (item_at (sent_to site story) place) _ _ (λ e. said (Cmd.Give site place) Say.None refl refl) (λ message e. site_word (Cmd.Give site place) site _ (λ n. refl))

  take_word : (site : SiteId) (place : ℕ) → Word (Cmd.Take site place) (on_take plan story site place)
  unfolding on_take
  take_word site place = word_given (Cmd.Take site place) (item_at (sent_from site story) place) _ _ (λ e. said (Cmd.Take site place) Say.None refl refl) (λ message e. record { word = tt })

  heard_site : (command : Command) (site : SiteId) → is_declared plan.sites site ≡ true → home_of plan site ≡ None → answer_fits command Say.None ≡ true
  heard_site command site d none = absurd (declared_home plan.sites plan.items site d none)

  actor_word : (command : Command) (actor : ℕ) (at_coord : CoordEvent) (at : SiteEvent) → is_actor plan.sites actor ≡ true → Word command (on_actor plan story actor at_coord at)
  unfolding on_actor
  actor_word command zero at_coord at a = record { word = tt }
  actor_word command (suc n) at_coord at a = site_word command (record { 0 = suc n }) at (λ none. heard_site command (record { 0 = suc n }) declared none)
    where
      declared : is_declared plan.sites (record { 0 = suc n }) ≡ true
      declared = sym (ap (λ b. b || is_declared plan.sites (record { 0 = suc n })) (ne_eqb (suc n) 0 (λ e. cc))) ∙ a

  pub word : (command : Command) → IsHeard plan.sites command → Word command (happens plan story command)
  unfolding happens
  word (Cmd.Begin tx) h = local_word Begin tx _ (said (Cmd.Begin tx) Say.None refl refl)
  word (Cmd.Step tx) h = local_word Step_on tx _ (said (Cmd.Step tx) Say.None refl refl)
  word (Cmd.Commit tx) h = local_word Commit tx _ (said (Cmd.Commit tx) Say.None refl refl)
  word (Cmd.Abort tx) h = local_word Abort tx _ (said (Cmd.Abort tx) Say.None refl refl)
  word (Cmd.Fate tx) h = fate_word tx
  word (Cmd.Go tx) h = go_word tx
  word (Cmd.Again tid) h = attempt_word (Cmd.Again tid) tid _ refl
  word (Cmd.Late tid) h = attempt_word (Cmd.Late tid) tid _ refl
  word (Cmd.Give site place) h = give_word site place
  word (Cmd.Take site place) h = take_word site place
  word (Cmd.Ask site tid) h = site_word (Cmd.Ask site tid) site _ (heard_site (Cmd.Ask site tid) site h)
  word (Cmd.Drop site tid) h = site_word (Cmd.Drop site tid) site _ (heard_site (Cmd.Drop site tid) site h)
  word (Cmd.Halt actor cut) h = actor_word (Cmd.Halt actor cut) actor _ _ h
  word (Cmd.Trip actor calls cut) h = actor_word (Cmd.Trip actor calls cut) actor _ _ h
  word (Cmd.Back actor) h = actor_word (Cmd.Back actor) actor _ _ h
  word (Cmd.Check actor) h = actor_word (Cmd.Check actor) actor _ _ h
