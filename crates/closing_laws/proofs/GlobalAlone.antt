-- A global transaction that is finished alone: it is begun, and delivered to its end.
use Rattle.std.proofs.Common.{◌≡◌, suc, ◌*◌, ◌<◌, ◌≤◌, Bool, true, false, cond, not, ◌&&◌, ◌||◌, is_some, Option, Some, None, List, [], ◌∷◌, ◌++◌, map, length, drop, refl, sym, ap, ap₂, subst, ◌∙◌, arith}
use Rattle.std.proofs.lemmas.Bool.{lt-leb}
use Rattle.mdb_base.specs.declared.acts.Step.{Step}
use Rattle.mdb_base.specs.declared.names.SiteId.{SiteId}
use Rattle.mdb_base.specs.declared.names.Tid.{Tid}
use Rattle.mdb_base.specs.Names.{same_site, same_tx}
use Rattle.mdb_base.specs.Programs.{IsProgram}
use Rattle.mdb_base.specs.Words.{Each, Among, those, first_where, item_at}
use Rattle.mdb_base.proofs.ForCallers.{and_fails, cond-false, cond-true, each_map, given_none, given_some, same_site-equal, same_site-refl, same_tid-refl, when-false}
use Rattle.presumptions.specs.declared.Participant.{Participant}
use Rattle.order_laws.specs.Chains.{In}
use Rattle.order_laws.proofs.ForCallers.{each_at, each_from, is_among, those_in}
use Rattle.fed_rules.specs.declared.answers.Answer.TheVariants as Say
use Rattle.fed_rules.specs.declared.commands.Command.{Command}
use Rattle.fed_rules.specs.declared.commands.Command.TheVariants as Cmd
use Rattle.fed_rules.specs.declared.events.CoordEvent.{CoordEvent}
use Rattle.fed_rules.specs.declared.events.CoordEvent.TheVariants as Ev
use Rattle.fed_rules.specs.declared.messages.Due.{Due}
use Rattle.fed_rules.specs.declared.scenario.Scenario.{Scenario}
use Rattle.fed_rules.specs.Closing.{last_sends, deliver_all, is_done_at}
use Rattle.fed_rules.specs.Coord.{coord_line, answered, message_of, send_due, all_outstanding, of_go}
use Rattle.fed_rules.specs.CoordPast as Coordinator
use Rattle.fed_rules.specs.CoordPast.{CoordHappening, CoordPast, Undecided, Gone, standing, begun_tids, undecided_of, program, program_in, or_steps, visits, participants, counted, vote_at, outstanding, is_open, standing_of, known_decision}
use Rattle.fed_rules.specs.CoordRecords.{coord_frame, committed_of}
use Rattle.fed_rules.specs.EngineLines.{IsRight}
use Rattle.fed_rules.specs.Happenings.{quiet, tripped}
use Rattle.fed_rules.specs.Runs.{Start, EngineLine, Run, run_at, committed, aborted}
use Rattle.fed_rules.specs.Scenarios.{home_of, home_at, local_home, protocols, global_program, policy}
use Rattle.fed_rules.specs.Sessions.{fresh}
use Rattle.fed_rules.specs.Site.{next_number, is_over}
use Rattle.fed_rules.specs.SitePast.{SitePast, records, epoch_start, engine_lines, live_one, live, is_closed}
use Rattle.fed_rules.specs.SitePast as Site_past
use Rattle.fed_rules.specs.SiteRecords.{Home, doubt_of}
use Rattle.fed_rules.specs.Site_of.{due_site}
use Rattle.fed_rules.specs.Story.{Story, AtCoordinator, past_of, coord_past, with_site, with_coordinator, sent_to, sends_to, most_attempts, attempt, on_go, happens, places_of, story_of, coord_requested}
use Rattle.engine_laws.proofs.ForCallers.{AllDrew, IsDrawer, all_drew}
use Rattle.site_history.specs.Lines.{Agrees}
use Rattle.site_history.specs.SiteOrders.{HasEpochs}
use Rattle.site_history.specs.Stories.{StoriesHaveRightLines, OfSites}
use Rattle.federation_laws.proofs.ForCallers.{count_of, epoch_of, global-declared, global_program-is, program_fits, steps_of, ticket_of}
use Rattle.closing_laws.specs.Alone.{IsFinished, GlobalsCommitAlone}
use Rattle.closing_laws.specs.Given.{UnbegunAreOpen, CommittedTicketsArePublished}
use Rattle.closing_laws.proofs.AloneSites.{IsIdle, Stage, NotYet}
use Rattle.closing_laws.proofs.Calm.{IsReady, ready_next}
use Rattle.closing_laws.proofs.CoordView.{Apart, apart_those, protocols_apart, found_where, found_apart, first_due}
use Rattle.closing_laws.proofs.Delivered.{item_behind}
use Rattle.closing_laws.proofs.Dues.{due_is, IsDue, AtWork, AtTake, AtPrepare, due_kind, due_there}
use Rattle.closing_laws.proofs.Flow.{site_of, place_of, IsQueued, members_of, Flow, entry_for, places_for, apart_entries, in_entries, entry_among, member_there, gone_closed}
use Rattle.closing_laws.proofs.GlobalFlow.{flows}
use Rattle.closing_laws.proofs.Quiet.{IsQuiet, rests_quiet}
use Rattle.fed_rules.specs.Policies.{Policy}
use Rattle.fed_rules.specs.CoordCommands.{go_request, go_next}
use Rattle.site_history.proofs.ForCallers.{found_in}

go_here : (protocols : List Participant) (policy : Policy) (past : CoordPast) (tid : Tid) (steps : List Step) → IsReady Coordinator.trip_of past → coord_line protocols policy past (Ev.Go tid steps) ≡ of_go protocols past tid steps
unfolding coord_line answered tripped
go_here protocols policy past tid steps r = when-false _ _ _ r.up ∙ ap (λ t. tripped coord_frame (Coordinator.disk past) t (of_go protocols past tid steps)) r.untripped

-- at rest a site is idle
idle_site : StoriesHaveRightLines → OfSites HasEpochs → (scenario : Scenario) (commands : List Command) (home : Home) → home_of scenario home.site ≡ Some home → IsQuiet scenario (story_of scenario commands) → IsIdle home (past_of home.site (story_of scenario commands))
idle_site rights epochs scenario commands home d q = record { none = none; committed = older (committed start lines) drew.committed; aborted = older (aborted start lines) drew.aborted }
  where
    past : SitePast
    past = past_of home.site (story_of scenario commands)

    start : Start
    start = epoch_start home past

    lines : List EngineLine
    lines = engine_lines past

    right : IsRight start lines
    right = (rights scenario commands home.site home d).right

    drew : AllDrew start lines
    drew = all_drew start lines (epochs scenario commands home.site home d).start right

    older : (runs : List Run) → Each (IsDrawer start lines) runs → Each (λ run. run.age < next_number home past) runs
    older runs h = each_map (IsDrawer start lines) (λ run. run.age < next_number home past) (λ run w. (let kept = w.age_kept in omega arith)) runs h

    none : (t : Tid) → run_at start lines t ≡ None
    none t = by_run (run_at start lines t) refl (subst (λ w. Agrees w (run_at start lines t)) (q.settled home t d) ((rights scenario commands home.site home d).sealed t))
      where
        by_run : (o : Option Run) → run_at start lines t ≡ o → Agrees None o → run_at start lines t ≡ None
        by_run None e a = e
        by_run (Some run) e a =
            let is_live : live home past t ≡ Some run = ap live_one e ∙ ap (λ s. cond (is_some s) None (Some run)) a in
            let clash = sym is_live ∙ q.clear home t d in cc

-- a program has no more participants than steps
few_members : (steps : List Step) (ms : List Participant) → Apart (λ (m : Participant). m.site) ms → Each (λ (m : Participant). visits m.site steps ≡ true) ms → length ms ≤ length steps
few_members [] [] h v = omega arith
few_members [] (m ∷ ms) h v = (let no = v.0 in cc)
few_members (step ∷ steps) ms h v =
    let rest = few_members steps (those (λ (m : Participant). not (same_site step.site m.site)) ms) (apart_those (λ (m : Participant). m.site) (λ (m : Participant). not (same_site step.site m.site)) ms h)
    (each_from (λ (m : Participant). visits m.site steps ≡ true) (those (λ (m : Participant). not (same_site step.site m.site)) ms) (λ m i.
    (let w = those_in (λ (k : Participant). not (same_site step.site k.site)) m ms i in still_visits m w.1 (each_at (λ (k : Participant). visits k.site (step ∷ steps) ≡ true) m ms v w.0)))) in
    let one = one_off ms h in omega (arith, rest, one)
  where
    still_visits : (m : Participant) → not (same_site step.site m.site) ≡ true → (same_site step.site m.site || visits m.site steps) ≡ true → visits m.site steps ≡ true
    still_visits m a b = by_test (same_site step.site m.site) a b
      where
        by_test : (c : Bool) → not c ≡ true → (c || visits m.site steps) ≡ true → visits m.site steps ≡ true
        by_test true e f = cc
        by_test false e f = f

    all_off : (ks : List Participant) → Each (λ (k : Participant). same_site step.site k.site ≡ false) ks → length ks ≤ length (those (λ (k : Participant). not (same_site step.site k.site)) ks)
    all_off [] e = omega arith
    all_off (k ∷ ks) e =
        let less = all_off ks e.1 in
        subst (λ b. suc (length ks) ≤ length (cond (not b) (k ∷ those (λ (z : Participant). not (same_site step.site z.site)) ks) (those (λ (z : Participant). not (same_site step.site z.site)) ks))) (sym e.0) (omega (arith, less))

    one_off : (ks : List Participant) → Apart (λ (m : Participant). m.site) ks → length ks ≤ suc (length (those (λ (k : Participant). not (same_site step.site k.site)) ks))
    one_off [] e = omega arith
    one_off (k ∷ ks) e = by_test (same_site step.site k.site) refl (one_off ks e.1)
      where
        by_test : (b : Bool) → same_site step.site k.site ≡ b → length ks ≤ suc (length (those (λ (z : Participant). not (same_site step.site z.site)) ks))
            → suc (length ks) ≤ suc (length (cond (not b) (k ∷ those (λ (z : Participant). not (same_site step.site z.site)) ks) (those (λ (z : Participant). not (same_site step.site z.site)) ks)))
        by_test false q less = omega (arith, less)
        by_test true q less =
            let far = all_off ks (each_from (λ (z : Participant). same_site step.site z.site ≡ false) ks (λ z i. ap (λ s. same_site s z.site) (same_site-equal step.site k.site q) ∙ each_at (λ (w : Participant). same_site k.site w.site ≡ false) z ks e.0 i)) in
            omega (arith, far)

first_none : {A : Type 0} (test : A → Bool) (xs : List A) → ((x : A) → test x ≡ false) → first_where test xs ≡ None
first_none test [] f = refl
first_none test (x ∷ xs) f = cond-false _ _ _ (f x) ∙ first_none test xs f

pub global_commits : UnbegunAreOpen → CommittedTicketsArePublished → StoriesHaveRightLines → OfSites HasEpochs → GlobalsCommitAlone
unfolding happens on_go go_request go_next of_go
global_commits unbegun published_law rights epochs scenario commands tx steps whole rest is_program undone few =
    subst (λ ps. IsFinished scenario tx (story_of scenario (deliver_all scenario (4 * length steps) ps begun))) (sym places)
    (flows published_law scenario whole g global steps fits_it all_declared (4 * length steps) (map (entry_for story) dues) begun flow
    (let most = few_members steps (members_of scenario steps) (apart_those (λ (m : Participant). m.site) (λ (m : Participant). visits m.site steps) (protocols scenario) (protocols_apart scenario whole))
    (each_from (λ (m : Participant). visits m.site steps ≡ true) (members_of scenario steps) (λ m i. (those_in (λ (p : Participant). visits p.site steps) m (protocols scenario) i).1)) in
    omega (arith, most)))
  where
    story : Story
    story = story_of scenario commands

    past : CoordPast
    past = coord_past story

    q : IsQuiet scenario story
    q = rests_quiet rights scenario commands rest

    g : Tid
    g = attempt tx (Coordinator.attempts_of past tx)

    begun : List Command
    begun = Cmd.Go tx ∷ commands

    global : local_home scenario tx ≡ None
    global = ap (home_at scenario) (global_program-is scenario tx steps is_program).1

    fits_it : IsProgram steps
    fits_it = program_fits scenario tx steps whole is_program

    all_declared : (site : SiteId) → visits site steps ≡ true → Among (λ (p : Participant). p.site ≡ site) (protocols scenario)
    all_declared site v = global-declared scenario whole tx (global_program-is scenario tx steps is_program).1 site (ap (visits site) (global_program-is scenario tx steps is_program).0 ∙ v)

    event : CoordEvent
    event = Ev.Go g steps

    first : CoordPast
    first = quiet event (Say.Begun g) ∷ past

    dues : List Due
    dues = all_outstanding (protocols scenario) first g

    y : CoordHappening
    y = record { event = event; answer = Say.Begun g; sends = map (send_due g) dues; calls = []; lines = [] }

    uncommitted : committed_of (Coordinator.records past) tx ≡ None
    uncommitted = none_of (committed_of (Coordinator.records past) tx) (sym (ap (λ h. is_done_at h story tx) global) ∙ undone)
      where
        none_of : (o : Option Tid) → is_some o ≡ false → o ≡ None
        none_of None e = refl
        none_of (Some t) e = cc

    none_undecided : undecided_of past tx ≡ None
    none_undecided = first_none (λ tid. same_tx tid.tx tx && is_open past tid) (begun_tids past)
        (λ tid. and_fails (same_tx tid.tx tx) (is_open past tid) (gone_closed (is_open past tid) (known_decision (protocols scenario) past tid) (q.gone tid)))

    told : happens scenario story (Cmd.Go tx) ≡ AtCoordinator y
    told =
        ap (coord_requested scenario story) (given_some (global_program scenario tx) _ _ steps is_program
        ∙ when-false _ _ _ (lt-leb most_attempts (Coordinator.attempts_of past tx) few))
        ∙ (ap (λ z. AtCoordinator z) (go_here (protocols scenario) (policy scenario) past g steps q.calm.coordinator ∙ (given_none _ _ _ uncommitted ∙ given_none _ _ _ none_undecided)))

    now_is : coord_past (story_of scenario begun) ≡ y ∷ past
    now_is = ap (λ h. with_coordinator h past) told

    past_is : (site : SiteId) → past_of site (story_of scenario begun) ≡ past_of site story
    past_is site = ap (λ h. with_site site h (past_of site story)) told

    places : last_sends (fresh scenario) begun ≡ map place_of (map (entry_for story) dues)
    places = ap (places_of story) told ∙ places_for g story y dues refl

    program_first : program first g ≡ steps
    program_first = cond-true _ _ _ (same_tid-refl g) ∙ ap (λ b. or_steps (cond b (Some steps) None) []) (same_tid-refl g)

    counted_first : counted first g ≡ []
    counted_first = cond-true _ _ _ (same_tid-refl g)

    vote_first : (site : SiteId) → vote_at first g site ≡ None
    vote_first site = cond-true _ _ _ (same_tid-refl g)

    own_site : (m : Participant) (due : Due) → outstanding first g m.site ≡ Some due → due_site due ≡ m.site
    own_site m due e =
        let f = sym (due_is first g m.site) ∙ e in
        due_there (program first g) (counted first g) (vote_at first g m.site) m.site due (due_kind (program first g) (counted first g) (vote_at first g) m.site due f)

    dues_apart : Apart due_site dues
    dues_apart = found_apart (λ (m : Participant). outstanding first g m.site) (participants (protocols scenario) first g) own_site
        (apart_those (λ (m : Participant). m.site) (λ (m : Participant). visits m.site (program first g)) (protocols scenario) (protocols_apart scenario whole))

    out_now : (site : SiteId) → outstanding (coord_past (story_of scenario begun)) g site ≡ outstanding first g site
    out_now site = ap (λ p. outstanding p g site) now_is

    queued_one : (due : Due) → In due dues → IsQueued g (story_of scenario begun) (entry_for story due)
    queued_one due i =
        let (m, j, e) = found_where (λ (m : Participant). outstanding first g m.site) (participants (protocols scenario) first g) due i in
        let f = first_due g dues due i dues_apart in
        record {
          is_due = out_now (due_site due) ∙ (ap (outstanding first g) (own_site m due e) ∙ e);
          there = ap (λ h. item_at (sent_to (due_site due) story ++ sends_to (due_site due) h) (length (sent_to (due_site due) story))) told
              ∙ (ap (λ ms. item_at (sent_to (due_site due) story ++ ms) (length (sent_to (due_site due) story))) f.1
              ∙ item_behind (sent_to (due_site due) story) f.0 (message_of g due));
        }

    whole_queue : (site : SiteId) (due : Due) → outstanding (coord_past (story_of scenario begun)) g site ≡ Some due → Among (λ entry. site_of entry ≡ site) (map (entry_for story) dues)
    whole_queue site due e =
        let out = sym (out_now site) ∙ e in
        let k = due_kind (program first g) (counted first g) (vote_at first g) site due (sym (due_is first g site) ∙ out) in
        let v = visited k in
        let (m, i, at) = member_there scenario (program first g) site (all_declared site (ap (visits site) (sym program_first) ∙ v)) v in
        entry_among story dues due site
        (found_in (λ (p : Participant). outstanding first g p.site) (participants (protocols scenario) first g) m due i (ap (outstanding first g) at ∙ out))
        (due_there (program first g) (counted first g) (vote_at first g site) site due k)
      where
        visited : IsDue (program first g) (counted first g) (vote_at first g site) site due → visits site (program first g) ≡ true
        visited (AtWork step v l i r f) = v
        visited (AtTake v l t f) = v
        visited (AtPrepare v l t n f) = v

    over_none : (home : Home) → home_of scenario home.site ≡ Some home → is_over home (past_of home.site story) g ≡ false
    over_none home d = ap₂ (λ (a b : Bool). a || b) (unbegun scenario commands home g whole d (global_program-is scenario tx steps is_program).1 (omega arith)) (ap is_some (q.settled home g d))

    some_member : Among (λ (m : Participant). vote_at (coord_past (story_of scenario begun)) g m.site ≡ None) (members_of scenario steps)
    some_member = by_steps steps refl
      where
        by_steps : (ss : List Step) → steps ≡ ss → Among (λ (m : Participant). vote_at (coord_past (story_of scenario begun)) g m.site ≡ None) (members_of scenario steps)
        by_steps [] e = (let some = fits_it.some in let none = ap length e in absurd (omega (arith, some, none)))
        by_steps (step ∷ ss) e =
            let v : visits step.site steps ≡ true = ap (visits step.site) e ∙ ap (λ b. b || visits step.site ss) (same_site-refl step.site) in
            let (m, i, at) = member_there scenario steps step.site (all_declared step.site v) v in
            is_among (λ (k : Participant). vote_at (coord_past (story_of scenario begun)) g k.site ≡ None) m (members_of scenario steps) i (ap (λ p. vote_at p g m.site) now_is ∙ vote_first m.site)

    counted_now : counted (coord_past (story_of scenario begun)) g ≡ []
    counted_now = ap (λ p. counted p g) now_is ∙ counted_first

    vote_now : (site : SiteId) → vote_at (coord_past (story_of scenario begun)) g site ≡ None
    vote_now site = ap (λ p. vote_at p g site) now_is ∙ vote_first site

    flow : Flow scenario g steps (story_of scenario begun) (map (entry_for story) dues)
    flow = record {
      calm = record {
        coordinator = subst (IsReady Coordinator.trip_of) (sym now_is) (ready_next Coordinator.trip_of past y refl refl q.calm.coordinator);
        sites = λ site. subst (IsReady Site_past.trip_of) (sym (past_is site)) (q.calm.sites site);
      };
      undecided = ap (λ p. is_open p g) now_is ∙ cond-true _ _ _ (same_tid-refl g);
      program_is = ap (λ p. program p g) now_is ∙ program_first;
      others = λ tid r.
          ap (λ p. standing (protocols scenario) p tid) now_is
          ∙ (ap (λ b. standing_of (cond b true (is_open past tid)) (cond b None (known_decision (protocols scenario) past tid))) r ∙ q.gone tid);
      stages = λ home d v.
          subst (λ rs. Stage home (past_of home.site (story_of scenario begun)) g (count_of rs home.site) (epoch_of rs home.site) (ticket_of rs home.site) (vote_at (coord_past (story_of scenario begun)) g home.site)) (sym counted_now)
          (subst (λ p. Stage home p g 0 0 false (vote_at (coord_past (story_of scenario begun)) g home.site)) (sym (past_is home.site))
          (NotYet (idle_site rights epochs scenario commands home d q) (over_none home d) refl refl refl (vote_now home.site)));
      doubts = λ home tid d r. ap (λ p. doubt_of (records home p) tid) (past_is home.site) ∙ q.settled home tid d;
      away = λ home tid d v. (ap (λ p. live home p tid) (past_is home.site) ∙ q.clear home tid d, ap (λ p. doubt_of (records home p) tid) (past_is home.site) ∙ q.settled home tid d);
      above = λ site n commit k v i j f. (let none = vote_now site in let clash = sym none ∙ v in cc);
      finished = λ site n v. (let none = vote_now site in let clash = sym none ∙ v in cc);
      tickets_last = λ site t. (let none = ap (λ rs. ticket_of rs site) counted_now in let clash = sym none ∙ t in cc);
      worked = λ site v l. (let at_first = sym (ap (λ rs. visits site (drop (steps_of rs) steps)) counted_now) ∙ l in let clash = sym v ∙ at_first in cc);
      queued = each_from (IsQueued g (story_of scenario begun)) (map (entry_for story) dues) (λ en i. (let (due, j, same) = in_entries story dues en i in subst (IsQueued g (story_of scenario begun)) same (queued_one due j)));
      apart = apart_entries story dues dues_apart;
      whole = whole_queue;
      unvoted = some_member;
      few = subst (λ rs. steps_of rs ≤ length steps) (sym counted_now) (omega arith);
    }
