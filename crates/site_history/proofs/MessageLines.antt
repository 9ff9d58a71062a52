-- The lines that messages of the coordinator make are good ones.
use Rattle.std.proofs.Common.{◌≡◌, ℕ, ◌+◌, Bool, true, false, cond, not, ◌&&◌, ◌||◌, Option, Some, None, List, [], ◌∷◌, refl, sym, ap, ◌∙◌, subst}
use Rattle.std.specs.Prelude.{◌==◌, is_some, nat_lt}
use Rattle.mdb_base.specs.declared.acts.PlainAct.{PlainAct}
use Rattle.mdb_base.specs.declared.names.Tid.{Tid}
use Rattle.mdb_base.specs.declared.replies.Reply.{Reply}
use Rattle.mdb_base.specs.declared.replies.Reply.TheVariants as Reply_is
use Rattle.mdb_base.specs.Names.{same_tid}
use Rattle.mdb_base.proofs.ForCallers.{same_tid-refl}
use Rattle.presumptions.specs.declared.Decision.{Decision}
use Rattle.presumptions.specs.declared.Decision.TheVariants as Decided
use Rattle.presumptions.specs.Table.{forces}
use Rattle.fed_rules.specs.declared.answers.Answer.TheVariants as Say
use Rattle.fed_rules.specs.declared.events.SiteEvent.TheVariants as Ev
use Rattle.fed_rules.specs.declared.messages.FromSite.TheVariants as From
use Rattle.fed_rules.specs.declared.messages.ToSite.{ToSite}
use Rattle.fed_rules.specs.declared.messages.ToSite.TheVariants as To
use Rattle.fed_rules.specs.declared.records.SiteRecord.TheVariants as Rec
use Rattle.fed_rules.specs.declared.records.SiteRecord.{SiteRecord}
use Rattle.fed_rules.specs.Disk.{Disk, Append, Sync, after_call, after_calls}
use Rattle.fed_rules.specs.Replies.{access_reply, seal_stop, seal_number}
use Rattle.fed_rules.specs.Runs.{Start, EngineLine, Begins, Acts, Takes, Seals, Refuses, Commits, Aborts, Run, begun, changed, has_ticket, puts_of, run_at, tid_of}
use Rattle.fed_rules.specs.Site.{ack_of, did, done, first_work, is_of_epoch, is_over, kept_reply, next_number, next_take, next_work, number_of, of_decide, of_give, of_prepare, of_take, of_work, prepare_live, repeated, reply_to, seals_global, settles, stop_of, take_live, ticket_reply_to, unheld, unknown, votes_again, votes_no, votes_yes, work_live}
use Rattle.fed_rules.specs.SitePast.{SitePast, disk, epoch, epoch_start, engine_lines, is_closed, live, records, run_of}
use Rattle.fed_rules.specs.SiteRecords.{Home, Held, doubt_of, site_frame}
use Rattle.engine_laws.proofs.ForCallers.{rising_puts}
use Rattle.site_history.specs.Lines.{Agrees}
use Rattle.site_history.proofs.Starts.{HasRisingWrites, EachAppend}
use Rattle.site_history.proofs.Agreement.{IsKept, IsGoodLine, IsLiveHere, acted_open, agrees_line, free_here, good_given, good_when, live_here, one_live, still, took_open}

good_unknown : (home : Home) (past : SitePast) (message : ToSite) (tid : Tid) (n : ℕ) → IsKept home past
    → IsGoodLine home past (unknown home past message tid n)
unfolding unknown did
good_unknown home past message tid n k =
    still home past (Ev.Give message) (Say.Did tid Reply_is.Unknown) (From.Did tid (epoch home past) n Reply_is.Unknown ∷ []) k refl

good_repeated : (home : Home) (past : SitePast) (message : ToSite) (tid : Tid) (n : ℕ) (run : Run) → IsKept home past
    → IsGoodLine home past (repeated home past message tid n run)
unfolding repeated did
good_repeated home past message tid n run k =
    good_when home past (n + 1 == done run) _ _
    (λ e. still home past (Ev.Give message) (Say.Did tid (kept_reply run)) (From.Did tid (epoch home past) n (kept_reply run) ∷ []) k refl)
    (λ e. good_unknown home past message tid n k)

good_next_work : (home : Home) (past : SitePast) (message : ToSite) (tid : Tid) (n : ℕ) (act : PlainAct) (run : Run) → IsKept home past
    → IsLiveHere home past tid run → IsGoodLine home past (next_work home past message tid n act run)
unfolding next_work did
good_next_work home past message tid n act run k here =
    let reply = reply_to home past run act in
    one_live home past (Ev.Give message) (Say.Did tid reply) (From.Did tid (epoch home past) n reply ∷ []) (Acts tid act reply) run k refl here
    (run, (here.live, refl)) (acted_open reply act run here.live.1)

-- the first act begins the subtransaction
good_first_work : (home : Home) (past : SitePast) (message : ToSite) (tid : Tid) (n : ℕ) (act : PlainAct) → IsKept home past
    → run_of home past tid ≡ None → doubt_of (records home past) tid ≡ None
    → IsGoodLine home past (first_work home past message tid n act)
unfolding first_work did
good_first_work home past message tid n act k free doubt = record {
  plain = refl;
  right = ((begun tid number, ((at_begin, refl), refl)), ((free, refl), k.right));
  agrees = agrees_line start begins (Acts tid act reply) (doubt_of (records home past)) (doubt_of (records home past)) (λ t apart. refl)
      (agrees_line start lines (Begins tid number) (doubt_of (records home past)) (doubt_of (records home past)) (λ t apart. refl) k.agrees
      (subst (λ o. Agrees o (Some (begun tid number))) (sym doubt) refl))
      (subst (λ o. Agrees o (changed (Acts tid act reply) (run_at start begins tid))) (sym doubt)
      (subst (λ o. Agrees None (changed (Acts tid act reply) o)) (sym at_begin) (acted_open reply act (begun tid number) refl)));
  appends = tt;
}
  where
    start : Start
    start = epoch_start home past

    lines : List EngineLine
    lines = engine_lines past

    number : ℕ
    number = next_number home past

    begins : List EngineLine
    begins = Begins tid number ∷ lines

    reply : Reply
    reply = access_reply start begins (begun tid number) act

    at_begin : run_at start begins tid ≡ Some (begun tid number)
    at_begin = ap (λ b. cond b (Some (begun tid number)) (run_at start lines tid)) (same_tid-refl tid)

good_work_live : (home : Home) (past : SitePast) (message : ToSite) (tid : Tid) (e n : ℕ) (act : PlainAct) (run : Run) → IsKept home past
    → IsLiveHere home past tid run → IsGoodLine home past (work_live home past message tid e n act run)
unfolding work_live
good_work_live home past message tid e n act run k here =
    good_when home past (not (is_of_epoch home past e n) || has_ticket run || nat_lt 31 n) _ _ (λ q. good_unknown home past message tid n k)
    (λ q. good_when home past (n == done run) _ _ (λ r. good_next_work home past message tid n act run k here)
    (λ r. good_repeated home past message tid n run k))

-- an attempt that is not over isn't in doubt
pub not_over : (home : Home) (past : SitePast) (tid : Tid) → is_over home past tid ≡ false → doubt_of (records home past) tid ≡ None
not_over home past tid e = by_doubt (is_closed past tid) (doubt_of (records home past) tid) e
  where
    by_doubt : (b : Bool) (o : Option Held) → (b || is_some o) ≡ false → o ≡ None
    by_doubt b None e = refl
    by_doubt true (Some held) e = cc
    by_doubt false (Some held) e = cc

good_work : (home : Home) (past : SitePast) (tid : Tid) (e n : ℕ) (act : PlainAct) → IsKept home past
    → IsGoodLine home past (of_work home past tid e n act)
unfolding of_work
good_work home past tid e n act k =
    let message = To.Work tid e n act in
    good_when home past (is_over home past tid) _ _ (λ q. good_unknown home past message tid n k)
    (λ fresh. good_given home past (live home past tid) _ _
    (λ none. good_when home past ((e == 0) && (n == 0)) _ _
    (λ q. good_first_work home past message tid n act k (free_here home past tid k none (not_over home past tid fresh))
    (not_over home past tid fresh))
    (λ q. good_unknown home past message tid n k))
    (λ run at. good_work_live home past message tid e n act run k (live_here home past tid run k at)))

good_next_take : (home : Home) (past : SitePast) (message : ToSite) (tid : Tid) (n : ℕ) (run : Run) → IsKept home past
    → IsLiveHere home past tid run → run.ticket ≡ None → IsGoodLine home past (next_take home past message tid n run)
unfolding next_take did
good_next_take home past message tid n run k here ticketless =
    let reply = ticket_reply_to home past run in
    one_live home past (Ev.Give message) (Say.Did tid reply) (From.Did tid (epoch home past) n reply ∷ []) (Takes tid reply) run k refl here
    (run, ((here.live.0, here.live.1, ticketless), refl)) (took_open reply run here.live.1)

ticketless_run : (run : Run) (a b : Bool) → b ≡ true → (a || (has_ticket run && b)) ≡ false → run.ticket ≡ None
ticketless_run run a b holds e = by_ticket a run.ticket (ap (λ c. a || (has_ticket run && c)) (sym holds) ∙ e)
  where
    by_ticket : (a : Bool) (o : Option ℕ) → (a || (is_some o && true)) ≡ false → o ≡ None
    by_ticket a None e = refl
    by_ticket true (Some t) e = cc
    by_ticket false (Some t) e = cc

good_take_live : (home : Home) (past : SitePast) (message : ToSite) (tid : Tid) (e n : ℕ) (run : Run) → IsKept home past
    → IsLiveHere home past tid run → IsGoodLine home past (take_live home past message tid e n run)
unfolding take_live
good_take_live home past message tid e n run k here =
    good_when home past (not (is_of_epoch home past e n) || (has_ticket run && (n == done run))) _ _
    (λ q. good_unknown home past message tid n k)
    (λ q. good_when home past (n == done run) _ _
    (λ r. good_next_take home past message tid n run k here
    (ticketless_run run (not (is_of_epoch home past e n)) (n == done run) r q))
    (λ r. good_repeated home past message tid n run k))

good_take : (home : Home) (past : SitePast) (tid : Tid) (e n : ℕ) → IsKept home past → IsGoodLine home past (of_take home past tid e n)
unfolding of_take
good_take home past tid e n k =
    let message = To.Take tid e n in
    good_when home past (is_over home past tid) _ _ (λ q. good_unknown home past message tid n k)
    (λ fresh. good_given home past (live home past tid) _ _ (λ none. good_unknown home past message tid n k)
    (λ run at. good_take_live home past message tid e n run k (live_here home past tid run k at)))

good_no : (home : Home) (past : SitePast) (tid : Tid) (e n : ℕ) → IsKept home past → IsGoodLine home past (votes_no tid e n None [])
unfolding votes_no
good_no home past tid e n k = still home past (Ev.Give (To.Prepare tid e n)) (Say.VotesNo tid None) (From.Vote tid None ∷ []) k refl

-- a sealing that succeeds
good_yes : (home : Home) (past : SitePast) (tid : Tid) (e n : ℕ) (run : Run) (ticket : ℕ) → IsKept home past → IsLiveHere home past tid run
    → run.ticket ≡ Some ticket → stop_of home past run ≡ None → IsGoodLine home past (votes_yes home past tid e n run ticket)
unfolding votes_yes
good_yes home past tid e n run ticket k here took free = record {
  plain = refl;
  right = (
    (
      run,
      (
        here.live,
        ap (λ kind. seal_stop kind start lines run) k.kind ∙ free,
        ap (λ kind. seal_number kind start lines run) (sym k.kind),
      ),
    ),
    k.right,
  );
  agrees = agrees_line start lines (Seals tid number) (doubt_of (records home past)) now
      (λ t apart. ap (λ b. cond b (Some held) (doubt_of (records home past) t)) apart) k.agrees
      (subst (λ o. Agrees o (changed (Seals tid number) (run_at start lines tid))) (sym now_held)
      (subst (λ o. Agrees (Some held) (changed (Seals tid number) o)) (sym here.live.0) (refl, took, refl)));
  appends = (rising_puts run.acts, tt);
}
  where
    start : Start
    start = epoch_start home past

    lines : List EngineLine
    lines = engine_lines past

    number : ℕ
    number = number_of home past run

    held : Held
    held = record { tid = tid; epoch = epoch home past; number = number_of home past run; ticket = ticket; writes = puts_of run.acts }

    now : Tid → Option Held
    now t = cond (same_tid tid t)
        (Some (record { tid = tid; epoch = epoch home past; number = number_of home past run; ticket = ticket; writes = puts_of run.acts }))
        (doubt_of (records home past) t)

    now_held : now tid ≡ Some held
    now_held = ap (λ b. cond b (Some held) (doubt_of (records home past) tid)) (same_tid-refl tid)

good_seals : (home : Home) (past : SitePast) (tid : Tid) (e n : ℕ) (run : Run) (ticket : ℕ) → IsKept home past → IsLiveHere home past tid run
    → run.ticket ≡ Some ticket → IsGoodLine home past (seals_global home past tid e n run ticket)
unfolding seals_global votes_no
good_seals home past tid e n run ticket k here took =
    good_given home past (stop_of home past run) _ _ (λ free. good_yes home past tid e n run ticket k here took free)
    (λ why stop. one_live home past (Ev.Give (To.Prepare tid e n)) (Say.VotesNo tid (Some why)) (From.Vote tid None ∷ []) (Refuses tid why) run k refl
    here (run, (here.live, ap (λ kind. seal_stop kind (epoch_start home past) (engine_lines past) run) k.kind ∙ stop)) tt)

good_prepare_live : (home : Home) (past : SitePast) (tid : Tid) (e n : ℕ) (run : Run) → IsKept home past → IsLiveHere home past tid run
    → IsGoodLine home past (prepare_live home past tid e n run)
unfolding prepare_live
good_prepare_live home past tid e n run k here =
    good_when home past ((e == epoch home past) && (n == done run)) _ _
    (λ q. good_given home past run.ticket _ _ (λ none. good_no home past tid e n k)
    (λ ticket took. good_seals home past tid e n run ticket k here took))
    (λ q. good_no home past tid e n k)

good_prepare : (home : Home) (past : SitePast) (tid : Tid) (e n : ℕ) → IsKept home past → IsGoodLine home past (of_prepare home past tid e n)
unfolding of_prepare votes_again
good_prepare home past tid e n k =
    good_given home past (doubt_of (records home past) tid) _ _
    (λ none. good_given home past (live home past tid) _ _ (λ q. good_no home past tid e n k)
    (λ run at. good_prepare_live home past tid e n run k (live_here home past tid run k at)))
    (λ held at. good_when home past (held.epoch == e) _ _
    (λ q. still home past (Ev.Give (To.Prepare tid e n)) (Say.VotesYes tid held.ticket) (From.Vote tid (Some held.ticket) ∷ []) k refl)
    (λ q. good_no home past tid e n k))

good_unheld : (home : Home) (past : SitePast) (tid : Tid) (decision : Decision) → IsKept home past
    → IsGoodLine home past (unheld home tid decision [])
unfolding unheld
good_unheld home past tid decision k =
    still home past (Ev.Give (To.Decide tid decision)) (Say.Unheld tid) (ack_of home tid decision) k refl

-- which run a record in doubt is of
record IsSealedHere (home : Home) (past : SitePast) (tid : Tid) (held : Held) : Type 0 where
  run : Run
  at : run_of home past tid ≡ Some run
  sealed : run.sealed ≡ Some held.number

sealed_here : (home : Home) (past : SitePast) (tid : Tid) (held : Held) → IsKept home past → doubt_of (records home past) tid ≡ Some held
    → IsSealedHere home past tid held
sealed_here home past tid held k e =
    by_run (run_of home past tid) refl (subst (λ o. Agrees o (run_of home past tid)) e (k.agrees tid))
  where
    by_run : (o : Option Run) → run_of home past tid ≡ o → Agrees (Some held) o → IsSealedHere home past tid held
    by_run None is a = elim a [ ]
    by_run (Some run) is a = record { run = run; at = is; sealed = a.0 }

-- the Ended record, forced or not
ended_appends : (b : Bool) → EachAppend HasRisingWrites (cond b (Sync ∷ []) [])
ended_appends true = tt
ended_appends false = tt

pub ended_records : (disk : Disk SiteRecord) (b : Bool) → (after_calls site_frame disk (cond b (Sync ∷ []) [])).records ≡ disk.records
ended_records disk true = refl
ended_records disk false = refl

-- behind the Ended record of an attempt, and its end in the engine
settled_agrees : (home : Home) (past : SitePast) (tid : Tid) (decision : Decision) (line : EngineLine) → IsKept home past
    → tid_of line ≡ tid → changed line (run_of home past (tid_of line)) ≡ None → (t : Tid)
    → Agrees (cond (same_tid tid t) None (doubt_of (records home past) t)) (run_at (epoch_start home past) (line ∷ engine_lines past) t)
settled_agrees home past tid decision line k is ends =
    agrees_line (epoch_start home past) (engine_lines past) line (doubt_of (records home past))
    (λ t. cond (same_tid tid t) None (doubt_of (records home past) t))
    (λ t apart. ap (λ b. cond b None (doubt_of (records home past) t)) (ap (λ u. same_tid u t) (sym is) ∙ apart)) k.agrees
    (subst (λ o. Agrees o (changed line (run_of home past (tid_of line)))) (sym now_none)
    (subst (λ o. Agrees None o) (sym ends) tt))
  where
    now_none : cond (same_tid tid (tid_of line)) None (doubt_of (records home past) (tid_of line)) ≡ None
    now_none = ap (λ b. cond b None (doubt_of (records home past) (tid_of line))) (ap (same_tid tid) is ∙ same_tid-refl tid)

-- a sealed subtransaction settles
good_settles : (home : Home) (past : SitePast) (tid : Tid) (decision : Decision) (held : Held) → IsKept home past
    → doubt_of (records home past) tid ≡ Some held → IsGoodLine home past (settles home tid decision)
unfolding settles
good_settles home past tid Decided.Commit held k e =
    let here = sealed_here home past tid held k e in
    record {
      plain = refl;
      right = ((here.run, held.number, (here.at, here.sealed)), k.right);
      agrees = λ t. subst (λ rs. Agrees (doubt_of rs t) (run_at (epoch_start home past) (Commits tid ∷ engine_lines past) t))
          (sym (ended_records (after_call site_frame (disk home past) (Append (Rec.Ended tid Decided.Commit))) (forces home.protocol Decided.Commit)))
          (settled_agrees home past tid Decided.Commit (Commits tid) k refl refl t);
      appends = (tt, ended_appends (forces home.protocol Decided.Commit));
    }
good_settles home past tid Decided.Abort held k e =
    let here = sealed_here home past tid held k e in
    record {
      plain = refl;
      right = ((here.run, here.at), k.right);
      agrees = λ t. subst (λ rs. Agrees (doubt_of rs t) (run_at (epoch_start home past) (Aborts tid ∷ engine_lines past) t))
          (sym (ended_records (after_call site_frame (disk home past) (Append (Rec.Ended tid Decided.Abort))) (forces home.protocol Decided.Abort)))
          (settled_agrees home past tid Decided.Abort (Aborts tid) k refl refl t);
      appends = (tt, ended_appends (forces home.protocol Decided.Abort));
    }

good_decide : (home : Home) (past : SitePast) (tid : Tid) (decision : Decision) → IsKept home past
    → IsGoodLine home past (of_decide home past tid decision)
unfolding of_decide unheld
good_decide home past tid decision k =
    good_given home past (doubt_of (records home past) tid) _ _
    (λ none. good_given home past (live home past tid) _ _ (λ q. good_unheld home past tid decision k)
    (λ run at.
    let here = live_here home past tid run k at in
    one_live home past (Ev.Give (To.Decide tid decision)) (Say.Unheld tid) (ack_of home tid decision) (Aborts tid) run k refl here
    (run, here.live.0) tt))
    (λ held at. good_settles home past tid decision held k at)

pub good_give : (home : Home) (past : SitePast) (message : ToSite) → IsKept home past → IsGoodLine home past (of_give home past message)
unfolding of_give
good_give home past (To.Work tid e n act) k = good_work home past tid e n act k
good_give home past (To.Take tid e n) k = good_take home past tid e n k
good_give home past (To.Prepare tid e n) k = good_prepare home past tid e n k
good_give home past (To.Decide tid decision) k = good_decide home past tid decision k
