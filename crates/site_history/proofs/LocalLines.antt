-- The lines of local transactions, and those that ask, drop or only answer, are good ones.
use Rattle.std.proofs.Common.{◌≡◌, ℕ, Bool, true, false, cond, not, ◌&&◌, ◌||◌, Option, Some, None, List, [], ◌∷◌, refl, sym, ap, ◌∙◌, subst}
use Rattle.std.specs.Prelude.{◌==◌, is_some}
use Rattle.mdb_base.specs.declared.acts.PlainAct.{PlainAct}
use Rattle.mdb_base.specs.declared.acts.PlainAct.TheVariants.{Read, Write}
use Rattle.mdb_base.specs.declared.names.Tid.{Tid}
use Rattle.mdb_base.specs.declared.names.Tx.{Tx}
use Rattle.mdb_base.specs.declared.replies.Reply.{Reply}
use Rattle.mdb_base.specs.declared.replies.Reply.TheVariants as Reply_is
use Rattle.mdb_base.specs.declared.replies.Why.{Why}
use Rattle.mdb_base.specs.declared.replies.Why.TheVariants as Because
use Rattle.mdb_base.specs.Names.{same_tid, same_tx}
use Rattle.mdb_base.specs.Words.{Each, first_where}
use Rattle.mdb_base.proofs.ForCallers.{each_found, none_from, same_tid-equal, same_tid-refl, same_tx-refl}
use Rattle.fed_rules.specs.declared.answers.Answer.TheVariants as Say
use Rattle.fed_rules.specs.declared.events.SiteEvent.TheVariants as Ev
use Rattle.fed_rules.specs.declared.messages.FromSite.TheVariants as From
use Rattle.fed_rules.specs.Happenings.{stops, comes_up}
use Rattle.fed_rules.specs.Replies.{seal_stop, seal_number}
use Rattle.fed_rules.specs.Runs.{Start, EngineLine, Begins, Acts, Seals, Refuses, Aborts, Run, attempts, changed, is_sealed, run_at, unended}
use Rattle.fed_rules.specs.Site.{act_answer, next_number, number_of, of_abort, of_act, of_ask, of_begin, of_commit, of_drop, of_fate, refusal_answer, reply_to, seals_local, stop_of}
use Rattle.fed_rules.specs.SitePast.{SitePast, attempts_of, epoch_start, engine_lines, is_local, live, live_of_tx, records, run_of}
use Rattle.fed_rules.specs.SiteRecords.{Home, doubt_of, local_of}
use Rattle.engine_laws.proofs.ForCallers.{attempts_have, tid_is}
use Rattle.site_history.specs.Lines.{Agrees}
use Rattle.site_history.proofs.Agreement.{IsKept, IsGoodLine, IsLiveHere, acted_open, good_given, good_when, live_here, one, one_live, still}

-- where no item is the first that passes, each fails
none_first : {A : Type 0} (test : A → Bool) (xs : List A) → first_where test xs ≡ None → Each (λ x. test x ≡ false) xs
none_first test [] e = tt
none_first test (x ∷ xs) e = by_test (test x) refl e (none_first test xs)
  where
    by_test : (b : Bool) → test x ≡ b → cond b (Some x) (first_where test xs) ≡ None
        → (first_where test xs ≡ None → Each (λ y. test y ≡ false) xs) → Each (λ y. test y ≡ false) (x ∷ xs)
    by_test true is e rest = cc
    by_test false is e rest = (is, rest e)

-- an attempt of a transaction with no live attempt, and of which the site isn't in doubt, has no run
pub begin_free : (home : Home) (past : SitePast) (tid : Tid) → IsKept home past → live_of_tx home past tid.tx ≡ None
    → doubt_of (records home past) tid ≡ None → run_of home past tid ≡ None
begin_free home past tid k none fresh = by_run (run_of home past tid) refl
  where
    failed : Each (λ run. (same_tx run.tid.tx tid.tx && not (is_sealed run)) ≡ false) (unended (epoch_start home past) (engine_lines past))
    failed = none_first (λ run. same_tx run.tid.tx tid.tx && not (is_sealed run)) (unended (epoch_start home past) (engine_lines past))
        (none_from (λ run. run.tid) (first_where (λ run. same_tx run.tid.tx tid.tx && not (is_sealed run))
        (unended (epoch_start home past) (engine_lines past))) none)

    by_run : (o : Option Run) → run_of home past tid ≡ o → o ≡ None
    by_run None is = refl
    by_run (Some run) is =
        let opened : run.sealed ≡ None =
        subst (λ o. Agrees o (Some run)) fresh (subst (Agrees (doubt_of (records home past) tid)) is (k.agrees tid)) in
        let of_tid : run.tid ≡ tid = tid_is (epoch_start home past) (engine_lines past) k.right tid run is in
        let fails = each_found (λ r. (same_tx r.tid.tx tid.tx && not (is_sealed r)) ≡ false) (run_at (epoch_start home past) (engine_lines past))
        tid run (attempts (epoch_start home past) (engine_lines past)) failed
        (attempts_have (epoch_start home past) (engine_lines past) k.right tid run is) is in
        let passes : (same_tx run.tid.tx tid.tx && not (is_sealed run)) ≡ true =
        ap (λ b. b && not (is_sealed run)) (ap (λ t. same_tx t.tx tid.tx) of_tid ∙ same_tx-refl tid.tx)
        ∙ ap (λ s. not (is_some s)) opened in
        let clash = sym fails ∙ passes in cc

pub good_begin : (home : Home) (past : SitePast) (tid : Tid) → IsKept home past → doubt_of (records home past) tid ≡ None
    → IsGoodLine home past (of_begin home past tid)
unfolding of_begin
good_begin home past tid k fresh =
    good_given home past (local_of (records home past) tid.tx) _ _
    (λ e. good_given home past (live_of_tx home past tid.tx) _ _
    (λ none. one home past (Ev.Begin tid) (Say.Begun tid) [] (Begins tid (next_number home past)) k refl
    (begin_free home past tid k none fresh, refl)
    (subst (λ o. Agrees o (Some (record { tid = tid; age = next_number home past; sealed = None; ticket = None; acts = [] }))) (sym fresh) refl))
    (λ running e. still home past (Ev.Begin tid) (Say.Running running) [] k refl))
    (λ committed e. still home past (Ev.Begin tid) (Say.Committed committed) [] k refl)

pub act_plain : (tid : Tid) (reply : Reply) (act : PlainAct) → (stops (act_answer tid reply act) || comes_up (act_answer tid reply act)) ≡ false
act_plain tid (Reply_is.Wait by) act = refl
act_plain tid (Reply_is.Refused (Because.Die by)) act = refl
act_plain tid (Reply_is.Refused (Because.Late by)) act = refl
act_plain tid (Reply_is.Refused (Because.Invalid by key)) act = refl
act_plain tid (Reply_is.Refused (Because.TicketMoved by)) act = refl
act_plain tid (Reply_is.Value value) (Read key) = refl
act_plain tid (Reply_is.Value value) (Write key v) = refl
act_plain tid Reply_is.Done (Read key) = refl
act_plain tid Reply_is.Done (Write key value) = refl
act_plain tid (Reply_is.Ticket n) act = refl
act_plain tid Reply_is.Unknown act = refl

pub good_act : (home : Home) (past : SitePast) (tid : Tid) (act : PlainAct) → IsKept home past → IsGoodLine home past (of_act home past tid act)
unfolding of_act
good_act home past tid act k =
    good_given home past (live home past tid) _ _ (λ e. still home past (Ev.Act tid act) Say.Idle [] k refl)
    (λ run e.
    let here = live_here home past tid run k e in
    let reply = reply_to home past run act in
    one_live home past (Ev.Act tid act) (act_answer tid reply act) [] (Acts tid act reply) run k (act_plain tid reply act) here
    (run, (here.live, refl)) (acted_open reply act run here.live.1))

pub refusal_plain : (why : Why) → (stops (refusal_answer why) || comes_up (refusal_answer why)) ≡ false
refusal_plain (Because.Invalid by key) = refl
refusal_plain (Because.Die by) = refl
refusal_plain (Because.Late by) = refl
refusal_plain (Because.TicketMoved by) = refl

-- a local commit seals its run and commits it
good_local : (home : Home) (past : SitePast) (tid : Tid) (run : Run) → IsKept home past → IsLiveHere home past tid run
    → stop_of home past run ≡ None → IsGoodLine home past (seals_local home past tid run)
unfolding seals_local
good_local home past tid run k here free = record {
  plain = refl;
  right = (
    (record run { sealed = Some n }, n, (at_seals, refl)),
    (
      (
        run,
        (
          here.live,
          ap (λ kind. seal_stop kind start lines run) k.kind ∙ free,
          ap (λ kind. seal_number kind start lines run) (sym k.kind),
        ),
      ),
      k.right,
    ),
  );
  agrees = λ t. by_test t (same_tid tid t) refl;
  appends = (tt, tt);
}
  where
    start : Start
    start = epoch_start home past

    lines : List EngineLine
    lines = engine_lines past

    n : ℕ
    n = number_of home past run

    at_seals : cond (same_tid tid tid) (changed (Seals tid n) (run_at start lines tid)) (run_at start lines tid)
        ≡ Some (record run { sealed = Some n })
    at_seals = ap (λ b. cond b (changed (Seals tid n) (run_at start lines tid)) (run_at start lines tid)) (same_tid-refl tid)
        ∙ ap (changed (Seals tid n)) here.live.0

    by_test : (t : Tid) (b : Bool) → same_tid tid t ≡ b
        → Agrees (doubt_of (records home past) t) (cond b None (cond b (changed (Seals tid n) (run_at start lines t)) (run_at start lines t)))
    by_test t true is =
        subst (λ o. Agrees o None) (sym (ap (doubt_of (records home past)) (sym (same_tid-equal tid t is)) ∙ here.doubt)) tt
    by_test t false is = k.agrees t

pub good_commit : (home : Home) (past : SitePast) (tid : Tid) → IsKept home past → IsGoodLine home past (of_commit home past tid)
unfolding of_commit
good_commit home past tid k =
    good_given home past (live home past tid) _ _ (λ e. still home past (Ev.Commit tid) Say.Idle [] k refl)
    (λ run e.
    let here = live_here home past tid run k e in
    good_given home past (stop_of home past run) _ _ (λ free. good_local home past tid run k here free)
    (λ why stop. one_live home past (Ev.Commit tid) (refusal_answer why) [] (Refuses tid why) run k (refusal_plain why) here
    (run, (here.live, ap (λ kind. seal_stop kind (epoch_start home past) (engine_lines past) run) k.kind ∙ stop)) tt))

pub good_abort : (home : Home) (past : SitePast) (tid : Tid) → IsKept home past → IsGoodLine home past (of_abort home past tid)
unfolding of_abort
good_abort home past tid k =
    good_given home past (live home past tid) _ _ (λ e. still home past (Ev.Abort tid) Say.Idle [] k refl)
    (λ run e.
    let here = live_here home past tid run k e in
    one_live home past (Ev.Abort tid) (Say.Aborted tid) [] (Aborts tid) run k refl here (run, here.live.0) tt)

fate_plain : (b : Bool) → (stops (cond b Say.Unbegun Say.Ended) || comes_up (cond b Say.Unbegun Say.Ended)) ≡ false
fate_plain true = refl
fate_plain false = refl

pub good_fate : (home : Home) (past : SitePast) (tx : Tx) → IsKept home past → IsGoodLine home past (of_fate home past tx)
unfolding of_fate
good_fate home past tx k =
    good_given home past (local_of (records home past) tx) _ _
    (λ e. good_given home past (live_of_tx home past tx) _ _
    (λ f. still home past (Ev.Fate tx) (cond (attempts_of past tx == 0) Say.Unbegun Say.Ended) [] k (fate_plain (attempts_of past tx == 0)))
    (λ running f. still home past (Ev.Fate tx) (Say.Running running) [] k refl))
    (λ committed e. still home past (Ev.Fate tx) (Say.Committed committed) [] k refl)

pub good_ask : (home : Home) (past : SitePast) (tid : Tid) → IsKept home past → IsGoodLine home past (of_ask home past tid)
unfolding of_ask
good_ask home past tid k =
    good_given home past (doubt_of (records home past) tid) _ _ (λ e. still home past (Ev.Ask tid) Say.Idle [] k refl)
    (λ held e. still home past (Ev.Ask tid) (Say.Asks tid) (From.Inquiry tid ∷ []) k refl)

pub good_drop : (home : Home) (past : SitePast) (tid : Tid) → IsKept home past → IsGoodLine home past (of_drop home past tid)
unfolding of_drop
good_drop home past tid k =
    good_when home past (is_local past tid) _ _ (λ e. still home past (Ev.Drop tid) Say.Idle [] k refl)
    (λ e. good_given home past (live home past tid) _ _ (λ f. still home past (Ev.Drop tid) Say.Idle [] k refl)
    (λ run f.
    let here = live_here home past tid run k f in
    one_live home past (Ev.Drop tid) (Say.Dropped tid) [] (Aborts tid) run k refl here (run, here.live.0) tt))
