-- A local transaction that is finished alone: it begins, each of its steps is granted, and it commits.
use Rattle.std.proofs.Common.{◌≡◌, ℕ, ◌+◌, ◌<◌, Bool, true, false, cond, ◌||◌, is_some, Option, Some, None, List, [], ◌∷◌, ◌++◌, length, refl, sym, ap, ap₂, subst, ◌∙◌, arith, append_assoc, length-append}
use Rattle.std.proofs.lemmas.Bool.{le-ltb, lt-leb}
use Rattle.std.proofs.lemmas.List.{append-nil}
use Rattle.mdb_base.specs.declared.acts.PlainAct.{PlainAct}
use Rattle.mdb_base.specs.declared.acts.PlainAct.TheVariants.{Read, Write}
use Rattle.mdb_base.specs.declared.acts.Step.{Step}
use Rattle.mdb_base.specs.declared.names.SiteId.{SiteId}
use Rattle.mdb_base.specs.declared.names.Tid.{Tid}
use Rattle.mdb_base.specs.declared.names.Tx.{Tx}
use Rattle.mdb_base.specs.Names.{same_site, same_tx}
use Rattle.mdb_base.specs.Programs.{plain_act}
use Rattle.mdb_base.specs.Words.{Each, item_at}
use Rattle.mdb_base.proofs.ForCallers.{cond-false, each_map, given_none, given_some, same_site-equal, same_site-refl, same_tx-refl, when-false}
use Rattle.fed_rules.specs.declared.answers.Answer.TheVariants as Say
use Rattle.fed_rules.specs.declared.commands.Command.{Command}
use Rattle.fed_rules.specs.declared.commands.Command.TheVariants as Cmd
use Rattle.fed_rules.specs.declared.events.SiteEvent.TheVariants as Ev
use Rattle.fed_rules.specs.declared.scenario.Scenario.{Scenario}
use Rattle.fed_rules.specs.Closing.{steps_alone, is_done_at}
use Rattle.fed_rules.specs.CoordPast as Coordinator
use Rattle.fed_rules.specs.CoordPast.{Gone, standing}
use Rattle.fed_rules.specs.EngineLines.{IsRight}
use Rattle.fed_rules.specs.Happenings.{stops, comes_up, tripped}
use Rattle.fed_rules.specs.Plans.{IsScenario}
use Rattle.fed_rules.specs.Replies.{granted}
use Rattle.fed_rules.specs.Runs.{Start, EngineLine, Begins, Acts, Run, run_at, begun, committed, aborted, has_ticket}
use Rattle.fed_rules.specs.Scenarios.{home_of, local_home, program_of, protocols}
use Rattle.fed_rules.specs.Site.{site_line, answered, with_lines, next_number, of_begin, act_answer, of_act, number_of, seals_local, of_commit, done}
use Rattle.fed_rules.specs.SitePast.{SiteHappening, SitePast, disk, records, trip_of, epoch_start, engine_lines, live_one, live, live_of_tx, attempts_of}
use Rattle.fed_rules.specs.SiteRecords.{Home, site_frame, start_of, local_of, doubt_of}
use Rattle.fed_rules.specs.Story.{Story, AtSite, past_of, coord_past, with_site, most_attempts, attempt, run_reads, happens, story_of, on_local, requested}
use Rattle.engine_laws.proofs.ForCallers.{AllDrew, IsAlone, IsDrawer, access_granted, access_of, acts_alone, all_drew, begins_alone, commits_alone, seal_free}
use Rattle.site_history.specs.Lines.{Agrees}
use Rattle.site_history.specs.SiteOrders.{HasEpochs}
use Rattle.site_history.specs.Stories.{StoriesHaveRightLines, OfSites}
use Rattle.federation_laws.proofs.ForCallers.{local_home-declared}
use Rattle.closing_laws.specs.Alone.{IsFinished, LocalsCommitAlone}
use Rattle.closing_laws.proofs.Calm.{IsReady, ready_next}
use Rattle.closing_laws.proofs.Delivered.{item_behind}
use Rattle.closing_laws.proofs.Locals.{found_live, live_is_found}
use Rattle.closing_laws.proofs.Onward.{IsCalm, one_home}
use Rattle.closing_laws.proofs.Quiet.{IsQuiet, quiet_rests, rests_quiet}
use Rattle.fed_rules.specs.SiteCommands.{request, begin_next, with_live, next_step, when_done}

-- what a ready site makes of the events of a local attempt
begin_here : (home : Home) (past : SitePast) (tid : Tid) → IsReady trip_of past → site_line home past (Ev.Begin tid) ≡ of_begin home past tid
unfolding site_line answered tripped
begin_here home past tid r = when-false _ _ _ r.up ∙ ap (λ t. tripped site_frame (disk home past) t (of_begin home past tid)) r.untripped

act_here : (home : Home) (past : SitePast) (tid : Tid) (act : PlainAct) → IsReady trip_of past → site_line home past (Ev.Act tid act) ≡ of_act home past tid act
unfolding site_line answered tripped
act_here home past tid act r = when-false _ _ _ r.up ∙ ap (λ t. tripped site_frame (disk home past) t (of_act home past tid act)) r.untripped

commit_here : (home : Home) (past : SitePast) (tid : Tid) → IsReady trip_of past → site_line home past (Ev.Commit tid) ≡ of_commit home past tid
unfolding site_line answered tripped
commit_here home past tid r = when-false _ _ _ r.up ∙ ap (λ t. tripped site_frame (disk home past) t (of_commit home past tid)) r.untripped

-- a line at one site: the others and the coordinator are as they were
record IsElsewhere (site : SiteId) (before now : Story) : Type 0 where
  coordinator : coord_past now ≡ coord_past before
  others : (other : SiteId) → same_site site other ≡ false → past_of other now ≡ past_of other before

elsewhere_on : (site : SiteId) (a b c : Story) → IsElsewhere site a b → IsElsewhere site b c → IsElsewhere site a c
elsewhere_on site a b c p q = record { coordinator = q.coordinator ∙ p.coordinator; others = λ other e. q.others other e ∙ p.others other e }

-- the line of a command
record IsLine (scenario : Scenario) (commands : List Command) (command : Command) (home : Home) (x : SiteHappening) : Type 0 where
  told : happens scenario (story_of scenario commands) command ≡ AtSite home.site x

module _ (scenario : Scenario) (commands : List Command) (command : Command) (home : Home) (x : SiteHappening) (line : IsLine scenario commands command home x) where
  past_now : past_of home.site (story_of scenario (command ∷ commands)) ≡ x ∷ past_of home.site (story_of scenario commands)
  past_now =
      ap (λ h. with_site home.site h (past_of home.site (story_of scenario commands))) line.told
      ∙ ap (λ b. cond b (x ∷ past_of home.site (story_of scenario commands)) (past_of home.site (story_of scenario commands))) (same_site-refl home.site)

  line_elsewhere : IsElsewhere home.site (story_of scenario commands) (story_of scenario (command ∷ commands))
  line_elsewhere = subst (λ h. IsElsewhere home.site (story_of scenario commands) (record { command = command; happened = h } ∷ story_of scenario commands)) (sym line.told)
      (record { coordinator = refl; others = λ other e. cond-false _ _ _ e })

  line_calm : IsCalm (story_of scenario commands) → IsReady trip_of (x ∷ past_of home.site (story_of scenario commands)) → IsCalm (story_of scenario (command ∷ commands))
  line_calm c r = record {
    coordinator = subst (λ past. IsReady Coordinator.trip_of past) (sym line_elsewhere.coordinator) c.coordinator;
    sites = λ site. by_test site (same_site home.site site) refl;
  }
    where
      by_test : (site : SiteId) (b : Bool) → same_site home.site site ≡ b → IsReady trip_of (past_of site (story_of scenario (command ∷ commands)))
      by_test site true q = subst (λ s. IsReady trip_of (past_of s (story_of scenario (command ∷ commands)))) (same_site-equal home.site site q) (subst (IsReady trip_of) (sym past_now) r)
      by_test site false q = subst (IsReady trip_of) (sym (line_elsewhere.others site q)) (c.sites site)

-- the attempt of a transaction is alone at its home, and so many of its steps are done
record IsUnderWay (scenario : Scenario) (home : Home) (tid : Tid) (first : Story) (commands : List Command) (k : ℕ) : Type 0 where
  calm : IsCalm (story_of scenario commands)
  me : Run
  named : me.tid ≡ tid
  alone : IsAlone (epoch_start home (past_of home.site (story_of scenario commands))) (engine_lines (past_of home.site (story_of scenario commands))) me
  ticketless : has_ticket me ≡ false
  count : length me.acts ≡ k
  kept : records home (past_of home.site (story_of scenario commands)) ≡ records home (past_of home.site first)
  elsewhere : IsElsewhere home.site first (story_of scenario commands)

-- a run that is alone is live
pub alone_live : (home : Home) (past : SitePast) (me : Run) → IsAlone (epoch_start home past) (engine_lines past) me → live home past me.tid ≡ Some me
alone_live home past me h = ap live_one h.own ∙ ap (λ o. cond (is_some o) None (Some me)) h.unsealed

module _ (rights : StoriesHaveRightLines) (epochs : OfSites HasEpochs) (scenario : Scenario) where
  -- it begins
  begins_it : (commands : List Command) (tx : Tx) (home : Home) → local_home scenario tx ≡ Some home → IsQuiet scenario (story_of scenario commands)
      → local_of (records home (past_of home.site (story_of scenario commands))) tx ≡ None → attempts_of (past_of home.site (story_of scenario commands)) tx < most_attempts
      → IsUnderWay scenario home (attempt tx (attempts_of (past_of home.site (story_of scenario commands)) tx)) (story_of scenario commands) (Cmd.Begin tx ∷ commands) 0
  unfolding happens on_local request begin_next of_begin
  begins_it commands tx home here q none few = record {
    calm = line_calm scenario commands (Cmd.Begin tx) home x line q.calm (ready_next trip_of past x refl refl (q.calm.sites home.site));
    me = begun tid number;
    named = refl;
    alone = subst (λ p. IsAlone (epoch_start home p) (engine_lines p) (begun tid number)) (sym (past_now scenario commands (Cmd.Begin tx) home x line)) (begins_alone start lines tid number none_unended (older (committed start lines) drew.committed) (older (aborted start lines) drew.aborted));
    ticketless = refl;
    count = refl;
    kept = ap (records home) (past_now scenario commands (Cmd.Begin tx) home x line);
    elsewhere = line_elsewhere scenario commands (Cmd.Begin tx) home x line;
  }
    where
      story : Story
      story = story_of scenario commands

      past : SitePast
      past = past_of home.site story

      start : Start
      start = epoch_start home past

      lines : List EngineLine
      lines = engine_lines past

      n : ℕ
      n = attempts_of past tx

      tid : Tid
      tid = attempt tx n

      number : ℕ
      number = next_number home past

      x : SiteHappening
      x = with_lines (Ev.Begin tid) (Say.Begun tid) (Begins tid number ∷ [])

      declared : home_of scenario home.site ≡ Some home
      declared = local_home-declared scenario tx home here

      right : IsRight start lines
      right = (rights scenario commands home.site home declared).right

      drew : AllDrew start lines
      drew = all_drew start lines (epochs scenario commands home.site home declared).start right

      older : (runs : List Run) → Each (IsDrawer start lines) runs → Each (λ run. run.age < number) runs
      older runs h = each_map (IsDrawer start lines) (λ run. run.age < number) (λ run d. (let kept = d.age_kept in omega arith)) runs h

      -- no run is unended, since the sealed ones are those in doubt
      none_unended : (t : Tid) → run_at start lines t ≡ None
      none_unended t = by_run (run_at start lines t) refl (subst (λ d. Agrees d (run_at start lines t)) (q.settled home t declared) ((rights scenario commands home.site home declared).sealed t))
        where
          by_run : (o : Option Run) → run_at start lines t ≡ o → Agrees None o → run_at start lines t ≡ None
          by_run None e a = e
          by_run (Some run) e a =
              let is_live : live home past t ≡ Some run = ap live_one e ∙ ap (λ s. cond (is_some s) None (Some run)) a in
              let clash = sym is_live ∙ q.clear home t declared in cc

      none_live : live_of_tx home past tx ≡ None
      none_live = by_found (live_of_tx home past tx) refl
        where
          by_found : (o : Option Tid) → live_of_tx home past tx ≡ o → live_of_tx home past tx ≡ None
          by_found None e = e
          by_found (Some other) e = (let l = found_live home past tx other right e in let clash = sym l.is_live ∙ q.clear home other declared in cc)

      line : IsLine scenario commands (Cmd.Begin tx) home x
      line = record {
        told = given_some (local_home scenario tx) _ _ home here
            ∙ (ap (requested home story) (when-false _ _ _ (lt-leb most_attempts n few))
            ∙ ap (λ y. AtSite home.site y) (begin_here home past tid (q.calm.sites home.site) ∙ (given_none _ _ _ none ∙ given_none _ _ _ none_live)));
      }

  -- a granted answer neither stops nor starts the site
  granted_stays : (start : Start) (lines : List EngineLine) (me : Run) (tid : Tid) (act : PlainAct) → stops (act_answer tid (granted start lines me act) act) ≡ false
  granted_stays start lines me tid (Read key) = refl
  granted_stays start lines me tid (Write key value) = refl

  granted_up : (start : Start) (lines : List EngineLine) (me : Run) (tid : Tid) (act : PlainAct) → comes_up (act_answer tid (granted start lines me act) act) ≡ false
  granted_up start lines me tid (Read key) = refl
  granted_up start lines me tid (Write key value) = refl

  -- one of its steps is done
  steps_on : (first : Story) (commands : List Command) (home : Home) (tid : Tid) (k : ℕ) (step : Step) → IsScenario scenario → local_home scenario tid.tx ≡ Some home
      → IsUnderWay scenario home tid first commands k → item_at (program_of scenario tid.tx) k ≡ Some step → IsUnderWay scenario home tid first (Cmd.Step tid.tx ∷ commands) (k + 1)
  unfolding happens on_local request with_live next_step of_act
  steps_on first commands home tid k step whole here u e = record {
    calm = line_calm scenario commands (Cmd.Step tid.tx) home x line u.calm (ready_next trip_of past x (granted_stays start lines me me.tid act) refl (u.calm.sites home.site));
    me = now;
    named = u.named;
    alone = subst (λ p. IsAlone (epoch_start home p) (engine_lines p) now) (sym (past_now scenario commands (Cmd.Step tid.tx) home x line))
        (subst (λ b. IsAlone (cond b (start_of home (records home (x ∷ past))) start) (cond b [] (x.lines ++ lines)) now) (sym plain) (acts_alone start lines me act u.alone));
    ticketless = u.ticketless;
    count = (let c = u.count in omega (arith, c));
    kept = ap (records home) (past_now scenario commands (Cmd.Step tid.tx) home x line) ∙ u.kept;
    elsewhere = elsewhere_on home.site first story (story_of scenario (Cmd.Step tid.tx ∷ commands)) u.elsewhere (line_elsewhere scenario commands (Cmd.Step tid.tx) home x line);
  }
    where
      story : Story
      story = story_of scenario commands

      past : SitePast
      past = past_of home.site story

      start : Start
      start = epoch_start home past

      lines : List EngineLine
      lines = engine_lines past

      me : Run
      me = u.me

      act : PlainAct
      act = plain_act (run_reads me) step.act

      now : Run
      now = record me { acts = access_of start lines me act ∷ me.acts }

      x : SiteHappening
      x = with_lines (Ev.Act me.tid act) (act_answer me.tid (granted start lines me act) act) (Acts me.tid act (granted start lines me act) ∷ [])

      plain : (stops x.answer || comes_up x.answer) ≡ false
      plain = ap₂ (λ (a b : Bool). a || b) (granted_stays start lines me me.tid act) (granted_up start lines me me.tid act)

      is_live : live home past me.tid ≡ Some me
      is_live = alone_live home past me u.alone

      found_one : live_of_tx home past tid.tx ≡ Some me.tid
      found_one = subst (λ t. live_of_tx home past tid.tx ≡ Some t) (sym u.named)
          (live_is_found rights scenario commands home tid me whole here (subst (λ t. live home past t ≡ Some me) u.named is_live))

      all_done : done me ≡ k
      all_done = ap (λ b. length me.acts + cond b 1 0) u.ticketless ∙ (let c = u.count in omega (arith, c))

      line : IsLine scenario commands (Cmd.Step tid.tx) home x
      line = record {
        told = given_some (local_home scenario tid.tx) _ _ home here
            ∙ (ap (requested home story) (when-false _ _ _ (u.calm.sites home.site).up
            ∙ (given_some (live_of_tx home past tid.tx) _ _ me.tid found_one
            ∙ (given_some (live home past me.tid) _ _ me is_live
            ∙ given_some (item_at (program_of scenario tid.tx) (done me)) _ _ step (ap (item_at (program_of scenario tid.tx)) all_done ∙ e))))
            ∙ ap (λ y. AtSite home.site y) (act_here home past me.tid act (u.calm.sites home.site) ∙ (given_some (live home past me.tid) _ _ me is_live
            ∙ ap (λ r. with_lines (Ev.Act me.tid act) (act_answer me.tid r act) (Acts me.tid act r ∷ [])) (access_granted start lines me u.alone act))));
      }

  -- all of its steps are done
  all_steps : (first : Story) (front steps : List Step) (commands : List Command) (home : Home) (tid : Tid) → IsScenario scenario → local_home scenario tid.tx ≡ Some home → program_of scenario tid.tx ≡ front ++ steps
      → IsUnderWay scenario home tid first commands (length front) → IsUnderWay scenario home tid first (steps_alone tid.tx steps commands) (length (program_of scenario tid.tx))
  all_steps first front [] commands home tid whole here p u = subst (IsUnderWay scenario home tid first commands) (ap length (sym (append-nil front) ∙ sym p)) u
  all_steps first front (step ∷ steps) commands home tid whole here p u =
      all_steps first (front ++ step ∷ []) steps (Cmd.Step tid.tx ∷ commands) home tid whole here (p ∙ sym (append_assoc front (step ∷ []) steps))
      (subst (IsUnderWay scenario home tid first (Cmd.Step tid.tx ∷ commands)) (sym (length-append front (step ∷ [])))
      (steps_on first commands home tid (length front) step whole here u (ap (λ xs. item_at xs (length front)) p ∙ item_behind front steps step)))

  -- and it commits
  commits_it : (first commands : List Command) (home : Home) (tid : Tid) → IsScenario scenario → local_home scenario tid.tx ≡ Some home → IsQuiet scenario (story_of scenario first)
      → IsUnderWay scenario home tid (story_of scenario first) commands (length (program_of scenario tid.tx)) → IsFinished scenario tid.tx (story_of scenario (Cmd.Commit tid.tx ∷ commands))
  unfolding happens on_local request with_live when_done of_commit seals_local
  commits_it first commands home tid whole here q u = record {
    done = ap (λ h. is_done_at h (story_of scenario (Cmd.Commit tid.tx ∷ commands)) tid.tx) here ∙ (ap (λ p. is_some (local_of (records home p) tid.tx)) now ∙ ap (λ b. is_some (cond b (Some me.tid) (local_of (records home past) tid.tx))) same_one);
    rest = quiet_rests scenario (story_of scenario (Cmd.Commit tid.tx ∷ commands)) (record {
      calm = line_calm scenario commands (Cmd.Commit tid.tx) home x line u.calm (ready_next trip_of past x refl refl (u.calm.sites home.site));
      clear = λ other t d. clear_at other t d (same_site home.site other.site) refl;
      settled = λ other t d. settled_at other t d (same_site home.site other.site) refl;
      gone = λ t. ap (λ p. standing (protocols scenario) p t) away.coordinator ∙ q.gone t;
    });
  }
    where
      story : Story
      story = story_of scenario commands

      after : Story
      after = story_of scenario (Cmd.Commit tid.tx ∷ commands)

      past : SitePast
      past = past_of home.site story

      start : Start
      start = epoch_start home past

      lines : List EngineLine
      lines = engine_lines past

      me : Run
      me = u.me

      x : SiteHappening
      x = seals_local home past me.tid me

      is_live : live home past me.tid ≡ Some me
      is_live = alone_live home past me u.alone

      found_one : live_of_tx home past tid.tx ≡ Some me.tid
      found_one = subst (λ t. live_of_tx home past tid.tx ≡ Some t) (sym u.named)
          (live_is_found rights scenario commands home tid me whole here (subst (λ t. live home past t ≡ Some me) u.named is_live))

      all_done : done me ≡ length (program_of scenario tid.tx)
      all_done = ap (λ b. length me.acts + cond b 1 0) u.ticketless ∙ (let c = u.count in omega (arith, c))

      line : IsLine scenario commands (Cmd.Commit tid.tx) home x
      line = record {
        told = given_some (local_home scenario tid.tx) _ _ home here
            ∙ (ap (requested home story) (when-false _ _ _ (u.calm.sites home.site).up
            ∙ (given_some (live_of_tx home past tid.tx) _ _ me.tid found_one
            ∙ (given_some (live home past me.tid) _ _ me is_live
            ∙ when-false _ _ _ (le-ltb (done me) (length (program_of scenario tid.tx)) (let c = all_done in omega (arith, c))))))
            ∙ ap (λ y. AtSite home.site y) (commit_here home past me.tid (u.calm.sites home.site) ∙ (given_some (live home past me.tid) _ _ me is_live
            ∙ given_none _ _ _ (seal_free start lines me u.alone home.engine))));
      }

      now : past_of home.site after ≡ x ∷ past
      now = past_now scenario commands (Cmd.Commit tid.tx) home x line

      away : IsElsewhere home.site (story_of scenario first) after
      away = elsewhere_on home.site (story_of scenario first) story after u.elsewhere (line_elsewhere scenario commands (Cmd.Commit tid.tx) home x line)

      same_one : same_tx me.tid.tx tid.tx ≡ true
      same_one = ap (λ (t : Tid). same_tx t.tx tid.tx) u.named ∙ same_tx-refl tid.tx

      one : (other : Home) → home_of scenario other.site ≡ Some other → same_site home.site other.site ≡ true → home ≡ other
      one other d e = one_home scenario home other (local_home-declared scenario tid.tx home here) d (same_site-equal home.site other.site e)

      clear_at : (other : Home) (t : Tid) → home_of scenario other.site ≡ Some other → (b : Bool) → same_site home.site other.site ≡ b → live other (past_of other.site after) t ≡ None
      clear_at other t d false e = ap (λ p. live other p t) (away.others other.site e) ∙ q.clear other t d
      clear_at other t d true e =
          subst (λ h. live h (past_of h.site after) t ≡ None) (one other d e)
          (ap (λ p. live home p t) now ∙ ap live_one (commits_alone start lines me (number_of home past me) t u.alone))

      settled_at : (other : Home) (t : Tid) → home_of scenario other.site ≡ Some other → (b : Bool) → same_site home.site other.site ≡ b → doubt_of (records other (past_of other.site after)) t ≡ None
      settled_at other t d false e = ap (λ p. doubt_of (records other p) t) (away.others other.site e) ∙ q.settled other t d
      settled_at other t d true e =
          subst (λ h. doubt_of (records h (past_of h.site after)) t ≡ None) (one other d e)
          (ap (λ p. doubt_of (records home p) t) now ∙ (ap (λ rs. doubt_of rs t) u.kept ∙ q.settled home t (local_home-declared scenario tid.tx home here)))

pub local_commits : StoriesHaveRightLines → OfSites HasEpochs → LocalsCommitAlone
local_commits rights epochs scenario commands tx home whole rest here undone few =
    let q = rests_quiet rights scenario commands rest in
    let tid = attempt tx (attempts_of (past_of home.site (story_of scenario commands)) tx) in
    let none = uncommitted (local_of (records home (past_of home.site (story_of scenario commands))) tx) (sym (ap (λ h. is_done_at h (story_of scenario commands) tx) here) ∙ undone) in
    let begun_so = begins_it rights epochs scenario commands tx home here q none few in
    let stepped = all_steps rights epochs scenario (story_of scenario commands) [] (program_of scenario tx) (Cmd.Begin tx ∷ commands) home tid whole here refl begun_so in
    commits_it rights epochs scenario commands (steps_alone tx (program_of scenario tx) (Cmd.Begin tx ∷ commands)) home tid whole here q stepped
  where
    uncommitted : (o : Option Tid) → is_some o ≡ false → o ≡ None
    uncommitted None e = refl
    uncommitted (Some t) e = cc
