-- What the rules make of a command of a local transaction, in each case; and what its event asks of the past.
use Rattle.std.proofs.Common.{◌≡◌, ℕ, ◌≤◌, ◌<◌, leb, ltb, true, false, is_some, Option, Some, None, List, length, slice_get, refl, sym, ap, ◌∙◌, subst}
use Rattle.std.proofs.lemmas.Bool.{le-leb, le-ltb, lt-leb, lt-ltb}
use Rattle.mdb_base.specs.declared.acts.Step.{Step}
use Rattle.mdb_base.specs.declared.names.Tid.{Tid}
use Rattle.mdb_base.specs.declared.names.Tx.{Tx}
use Rattle.mdb_base.specs.Programs.{plain_act}
use Rattle.mdb_base.specs.Words.{given, item_at, map_some, when}
use Rattle.mdb_base.proofs.ForCallers.{item_at-past, item_at-slice_get}
use Rattle.fed_rules.specs.declared.answers.Answer.TheVariants as Say
use Rattle.fed_rules.specs.declared.events.SiteEvent.{SiteEvent}
use Rattle.fed_rules.specs.declared.events.SiteEvent.TheVariants as Ev
use Rattle.fed_rules.specs.Happenings.{is_down, quiet}
use Rattle.fed_rules.specs.Requests.{Request, Submits, Declines, attempt, unless_begun}
use Rattle.fed_rules.specs.Runs.{Start, EngineLine, Run}
use Rattle.fed_rules.specs.Site.{done, of_begin, site_line}
use Rattle.fed_rules.specs.SiteCommands as Verb
use Rattle.fed_rules.specs.SiteCommands.{begin_next, next_step, own_request, request, run_reads, when_done, with_live}
use Rattle.fed_rules.specs.SitePast.{SiteHappening, SitePast, attempts_of, live, live_of_tx, records, trip}
use Rattle.fed_rules.specs.SiteRecords.{Home, local_of}
use Rattle.actor_store.specs.Store.{Passes}
use Rattle.site_book.specs.Noted.{Noted, noted_of}
use Rattle.site_core.specs.declared.site.SiteCore.{SiteCore}
use Rattle.site_core.specs.Stands.{Holds}
use Rattle.site_core.proofs.ForCallers.{begin_begun, begin_committed, begin_quiet, begin_running, begin_up, passes_is, trip_left}

-- one that is no transaction of the site's own
pub none_request : (verb : Verb.Verb) (home : Home) (program : Option (List Step)) (past : SitePast) (tx : Tx) → program ≡ None → own_request verb home program past tx ≡ Declines Say.None
unfolding own_request given
none_request verb home program past tx e = rw e refl

own_is : (verb : Verb.Verb) (home : Home) (program : Option (List Step)) (past : SitePast) (tx : Tx) (steps : List Step) → program ≡ Some steps → own_request verb home program past tx ≡ request verb home steps past tx
unfolding own_request given
own_is verb home program past tx steps e = rw e refl

module _ (home : Home) (program : Option (List Step)) (past : SitePast) (tx : Tx) (steps : List Step) (own : program ≡ Some steps) where
  -- `begin`
  begin_spent' : 32 ≤ attempts_of past tx → request Verb.Begin home steps past tx ≡ Declines (unless_begun (site_line home past (Ev.Begin (attempt tx (attempts_of past tx)))).answer)
  unfolding request begin_next when
  begin_spent' all = let e : leb 32 (attempts_of past tx) ≡ true = le-leb _ _ all in rw e refl

  begin_submits' : attempts_of past tx < 32 → request Verb.Begin home steps past tx ≡ Submits (Ev.Begin (attempt tx (attempts_of past tx)))
  unfolding request begin_next when
  begin_submits' few = let e : leb 32 (attempts_of past tx) ≡ false = lt-leb _ _ few in rw e refl

  pub begin_spent : 32 ≤ attempts_of past tx → own_request Verb.Begin home program past tx ≡ Declines (unless_begun (site_line home past (Ev.Begin (attempt tx (attempts_of past tx)))).answer)
  begin_spent all = own_is Verb.Begin home program past tx steps own ∙ begin_spent' all

  pub begin_submits : attempts_of past tx < 32 → own_request Verb.Begin home program past tx ≡ Submits (Ev.Begin (attempt tx (attempts_of past tx)))
  begin_submits few = own_is Verb.Begin home program past tx steps own ∙ begin_submits' few

  -- where a live attempt is asked for
  live_down : (next : Tid → Run → Request SiteEvent) → is_down past ≡ true → with_live home past tx next ≡ Declines Say.Down
  unfolding with_live when
  live_down next e = rw e refl

  live_idle : (next : Tid → Run → Request SiteEvent) → is_down past ≡ false → live_of_tx home past tx ≡ None → with_live home past tx next ≡ Declines Say.Idle
  unfolding with_live when given
  live_idle next e f = rw (e, f) refl

  live_gone : (next : Tid → Run → Request SiteEvent) (tid : Tid) → is_down past ≡ false → live_of_tx home past tx ≡ Some tid → live home past tid ≡ None → with_live home past tx next ≡ Declines Say.Idle
  unfolding with_live when given
  live_gone next tid e f h = rw (e, f, h) refl

  live_there : (next : Tid → Run → Request SiteEvent) (tid : Tid) (run : Run) → is_down past ≡ false → live_of_tx home past tx ≡ Some tid → live home past tid ≡ Some run → with_live home past tx next ≡ next tid run
  unfolding with_live when given
  live_there next tid run e f h = rw (e, f, h) refl

  step_is : request Verb.Step_on home steps past tx ≡ with_live home past tx (next_step steps)
  unfolding request
  step_is = refl

  commit_is : request Verb.Commit home steps past tx ≡ with_live home past tx (when_done steps)
  unfolding request
  commit_is = refl

  abort_is : request Verb.Abort home steps past tx ≡ with_live home past tx (λ tid run. Submits (Ev.Abort tid))
  unfolding request
  abort_is = refl

  fate_is : request Verb.Fate home steps past tx ≡ Submits (Ev.Fate tx)
  unfolding request
  fate_is = refl

  pub fate_submits : own_request Verb.Fate home program past tx ≡ Submits (Ev.Fate tx)
  fate_submits = own_is Verb.Fate home program past tx steps own ∙ fate_is

  -- the verbs of a live attempt, where there is none
  abbrev IsLiveVerb : Verb.Verb → Type 0
  IsLiveVerb verb = (next : Tid → Run → Request SiteEvent) × (request verb home steps past tx ≡ with_live home past tx next)

  pub step_live : IsLiveVerb Verb.Step_on
  step_live = (next_step steps, step_is)

  pub commit_live : IsLiveVerb Verb.Commit
  commit_live = (when_done steps, commit_is)

  pub abort_live : IsLiveVerb Verb.Abort
  abort_live = ((λ tid run. Submits (Ev.Abort tid)), abort_is)

  pub verb_down : (verb : Verb.Verb) → IsLiveVerb verb → is_down past ≡ true → own_request verb home program past tx ≡ Declines Say.Down
  verb_down verb v e = own_is verb home program past tx steps own ∙ v.1 ∙ live_down v.0 e

  pub verb_idle : (verb : Verb.Verb) → IsLiveVerb verb → is_down past ≡ false → live_of_tx home past tx ≡ None → own_request verb home program past tx ≡ Declines Say.Idle
  verb_idle verb v e f = own_is verb home program past tx steps own ∙ v.1 ∙ live_idle v.0 e f

  pub verb_gone : (verb : Verb.Verb) (tid : Tid) → IsLiveVerb verb → is_down past ≡ false → live_of_tx home past tx ≡ Some tid → live home past tid ≡ None → own_request verb home program past tx ≡ Declines Say.Idle
  verb_gone verb tid v e f h = own_is verb home program past tx steps own ∙ v.1 ∙ live_gone v.0 tid e f h

  -- where there is one
  module _ (tid : Tid) (run : Run) (up : is_down past ≡ false) (runs : live_of_tx home past tx ≡ Some tid) (lives : live home past tid ≡ Some run) where
    step_none : item_at steps (done run) ≡ None → next_step steps tid run ≡ Declines Say.End
    unfolding next_step given
    step_none e = rw e refl

    step_some : (step : Step) → item_at steps (done run) ≡ Some step → next_step steps tid run ≡ Submits (Ev.Act tid (plain_act (run_reads run) step.act))
    unfolding next_step given
    step_some step e = rw e refl

    pub step_end : length steps ≤ done run → own_request Verb.Step_on home program past tx ≡ Declines Say.End
    step_end all = own_is Verb.Step_on home program past tx steps own ∙ step_is ∙ live_there (next_step steps) tid run up runs lives ∙ step_none (item_at-past steps (done run) all)

    pub step_submits : (step : Step) → slice_get steps (done run) ≡ Some step → own_request Verb.Step_on home program past tx ≡ Submits (Ev.Act tid (plain_act (run_reads run) step.act))
    step_submits step e =
        own_is Verb.Step_on home program past tx steps own ∙ step_is ∙ live_there (next_step steps) tid run up runs lives ∙ step_some step (item_at-slice_get steps (done run) ∙ e)

    left : done run < length steps → when_done steps tid run ≡ Declines Say.Unfinished
    unfolding when_done when
    left less = let e : ltb (done run) (length steps) ≡ true = lt-ltb _ _ less in rw e refl

    all_done : length steps ≤ done run → when_done steps tid run ≡ Submits (Ev.Commit tid)
    unfolding when_done when
    all_done all = let e : ltb (done run) (length steps) ≡ false = le-ltb _ _ all in rw e refl

    pub commit_left : done run < length steps → own_request Verb.Commit home program past tx ≡ Declines Say.Unfinished
    commit_left less = own_is Verb.Commit home program past tx steps own ∙ commit_is ∙ live_there (when_done steps) tid run up runs lives ∙ left less

    pub commit_submits : length steps ≤ done run → own_request Verb.Commit home program past tx ≡ Submits (Ev.Commit tid)
    commit_submits all = own_is Verb.Commit home program past tx steps own ∙ commit_is ∙ live_there (when_done steps) tid run up runs lives ∙ all_done all

    pub abort_submits : own_request Verb.Abort home program past tx ≡ Submits (Ev.Abort tid)
    abort_submits = own_is Verb.Abort home program past tx steps own ∙ abort_is ∙ live_there (λ tid run. Submits (Ev.Abort tid)) tid run up runs lives

-- what is found is noted of a live run
pub record IsNotedRun (home : Home) (past : SitePast) (tid : Tid) (noted : Noted) : Type 0 where
  pub run : Run
  pub lives : live home past tid ≡ Some run
  pub is : noted ≡ noted_of run

pub noted_run : (home : Home) (past : SitePast) (tid : Tid) (noted : Noted) → Some noted ≡ map_some noted_of (live home past tid) → IsNotedRun home past tid noted
noted_run home past tid noted e = from (live home past tid) refl e where
  from : (o : Option Run) → live home past tid ≡ o → Some noted ≡ map_some noted_of o → IsNotedRun home past tid noted
  from None is e = cc
  from (Some run) is e = record { run = run; lives = is; is = cc }

pub none_lives : (o : Option Run) → None ≡ map_some noted_of o → o ≡ None
none_lives None e = refl
none_lives (Some run) e = cc

-- what a begin is answered behind the last attempt
begin_down : (home : Home) (past : SitePast) (tid : Tid) → is_down past ≡ true → site_line home past (Ev.Begin tid) ≡ quiet (Ev.Begin tid) Say.Down
unfolding site_line when
begin_down home past tid e = rw e refl

module _ {E : Type 0} (stands : E → Start → List EngineLine → Type 0) (core : SiteCore E) (home : Home) (past : SitePast) (h : Holds stands core home past) where
  -- a begin makes no disk call
  begin_answered : (tid : Tid) → is_down past ≡ false → site_line home past (Ev.Begin tid) ≡ of_begin home past tid
  begin_answered tid up =
      let P : ℕ → Type 0 = λ n. Passes (trip past) n in
      let passes : Passes (trip past) (length (of_begin home past tid).calls) = subst P (sym (ap length (begin_quiet home past tid).0)) (trip_left stands true core home past h.memory) in
      begin_up home past tid up ∙ passes_is home past (of_begin home past tid) passes

  pub spent_down : (tid : Tid) → is_down past ≡ true → Say.Down ≡ unless_begun (site_line home past (Ev.Begin tid)).answer
  spent_down tid down = sym (ap (λ (x : SiteHappening). unless_begun x.answer) (begin_down home past tid down))

  pub spent_committed : (tid committed : Tid) → is_down past ≡ false → local_of (records home past) tid.tx ≡ Some committed → Say.Committed committed ≡ unless_begun (site_line home past (Ev.Begin tid)).answer
  spent_committed tid committed up e = sym (ap (λ (x : SiteHappening). unless_begun x.answer) (begin_answered tid up ∙ begin_committed home past tid committed e))

  pub spent_running : (tid running : Tid) → is_down past ≡ false → local_of (records home past) tid.tx ≡ None → live_of_tx home past tid.tx ≡ Some running
      → Say.Running running ≡ unless_begun (site_line home past (Ev.Begin tid)).answer
  spent_running tid running up e f = sym (ap (λ (x : SiteHappening). unless_begun x.answer) (begin_answered tid up ∙ begin_running home past tid running e f))

  pub spent_all : (tid : Tid) → is_down past ≡ false → local_of (records home past) tid.tx ≡ None → live_of_tx home past tid.tx ≡ None → Say.Spent ≡ unless_begun (site_line home past (Ev.Begin tid)).answer
  spent_all tid up e f = sym (ap (λ (x : SiteHappening). unless_begun x.answer) (begin_answered tid up ∙ begin_begun home past tid e f))

-- a program that is found under a transaction
pub found_own : (program found : Option (List Step)) → found ≡ program → is_some found ≡ true → (steps : List Step) × (program ≡ Some steps)
found_own None None e f = cc
found_own None (Some steps) e f = cc
found_own (Some steps) found e f = (steps, refl)

-- a run that is noted is live
pub found_run : (o : Option Run) → is_some (map_some noted_of o) ≡ true → (run : Run) × (o ≡ Some run)
found_run None e = cc
found_run (Some run) e = (run, refl)
