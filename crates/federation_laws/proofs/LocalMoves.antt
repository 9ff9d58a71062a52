-- What a line of a site makes of the run of a local attempt.
use Rattle.std.proofs.Common.{◌≡◌, ℕ, ◌+◌, eq-eqb, Bool, true, false, cond, ◌||◌, Option, Some, None, [], ◌∷◌, ◌++◌, refl, sym, ap, subst, ◌∙◌}
use Rattle.mdb_base.specs.declared.acts.PlainAct.{PlainAct}
use Rattle.mdb_base.specs.declared.acts.PlainAct.TheVariants.{Read, Write}
use Rattle.mdb_base.specs.declared.names.Tid.{Tid}
use Rattle.mdb_base.specs.declared.names.Tx.{Tx}
use Rattle.mdb_base.specs.declared.replies.Reply.{Reply}
use Rattle.mdb_base.specs.declared.replies.Reply.TheVariants as Reply_is
use Rattle.mdb_base.specs.declared.replies.Why.{Why}
use Rattle.mdb_base.specs.declared.replies.Why.TheVariants as Because
use Rattle.mdb_base.specs.Names.{same_tid, same_tx}
use Rattle.mdb_base.specs.Words.{some_of, when, given}
use Rattle.mdb_base.proofs.ForCallers.{same_tid-refl}
use Rattle.presumptions.specs.declared.Decision.{Decision}
use Rattle.presumptions.specs.Table.{forces}
use Rattle.fed_rules.specs.declared.answers.Answer.{Answer}
use Rattle.fed_rules.specs.declared.answers.Answer.TheVariants as Say
use Rattle.fed_rules.specs.declared.events.SiteEvent.{SiteEvent}
use Rattle.fed_rules.specs.declared.events.SiteEvent.TheVariants as Ev
use Rattle.fed_rules.specs.declared.messages.ToSite.TheVariants as To
use Rattle.fed_rules.specs.declared.records.SiteRecord.TheVariants as Rec
use Rattle.fed_rules.specs.Disk.{Append, Sync, CutBack, is_torn}
use Rattle.fed_rules.specs.Happenings.{quiet, stops, comes_up}
use Rattle.fed_rules.specs.Orders.{read_by}
use Rattle.fed_rules.specs.Runs.{EngineLine, Begins, Acts, Refuses, Commits, Aborts, Seals, Access, Got, Wrote, Run, begun, acted, changed, run_at, tid_of}
use Rattle.fed_rules.specs.Site.{with_lines, of_begin, act_answer, of_act, reply_to, seals_local, of_commit, of_abort, of_fate, number_of, settling_line, settles, unheld, of_decide, of_ask, of_drop, of_back}
use Rattle.fed_rules.specs.SitePast.{SiteHappening, SitePast, disk, epoch, epoch_start, engine_lines, run_of, live, live_one, begins_tx, records, live_of_tx}
use Rattle.fed_rules.specs.SiteRecords.{Home, site_frame, local_of}
use Rattle.fed_rules.specs.Story.{value_of}
use Rattle.commit_laws.proofs.ForCallers.{given-up, restored-sealed, settling-tid}
use Rattle.site_history.specs.Accesses.{seals}
use Rattle.federation_laws.specs.Accesses.{act_of}
use Rattle.federation_laws.proofs.SiteAbout.{IsAbout}
use Rattle.site_history.proofs.ForCallers.{act_plain, live_is, refusal_plain}
use Rattle.federation_laws.proofs.SiteMoves.{Fits, access-fits, others-run, live-next, unsealed-live}
use Rattle.federation_laws.proofs.SiteSteps.{no-seals, own-line, settled-none}

-- the line reads nothing for the attempt, and doesn't seal it
pub record Idle (t : Tid) (x : SiteHappening) : Type 0 where
  pub reads : read_by t x.event x.answer ≡ None
  pub unsealed : some_of (seals t) x.calls ≡ false

-- the attempt begins
pub record Opens (home : Home) (past : SitePast) (t : Tid) (event : SiteEvent) (x : SiteHappening) : Type 0 where
  pub idle : Idle t x
  pub taken : event ≡ Ev.Begin t
  pub begins : begins_tx t.tx x.answer ≡ true
  pub uncommitted : local_of (records home past) t.tx ≡ None
  pub alone : live_of_tx home past t.tx ≡ None
  pub number : ℕ
  pub now : live home (x ∷ past) t ≡ Some (begun t number)

-- its next access is granted
pub record Grants (home : Home) (past : SitePast) (t : Tid) (event : SiteEvent) (x : SiteHappening) : Type 0 where
  pub act : PlainAct
  pub access : Access
  pub run : Run
  pub taken : event ≡ Ev.Act t act
  pub was : live home past t ≡ Some run
  pub now : live home (x ∷ past) t ≡ Some (record run { acts = access ∷ run.acts })
  pub its : act ≡ act_of access
  pub reads : read_by t x.event x.answer ≡ value_of access
  pub unsealed : some_of (seals t) x.calls ≡ false

-- it commits, if the line isn't stopped before its record
pub record Closes (home : Home) (past : SitePast) (t : Tid) (event : SiteEvent) (x : SiteHappening) : Type 0 where
  pub taken : event ≡ Ev.Commit t
  pub run : Run
  pub was : live home past t ≡ Some run
  pub now : live home (x ∷ past) t ≡ None
  pub reads : read_by t x.event x.answer ≡ None

pub data LocalMove (home : Home) (past : SitePast) (t : Tid) (event : SiteEvent) (x : SiteHappening) : Type 0 where
  Rests : Idle t x → live home (x ∷ past) t ≡ live home past t → LocalMove home past t event x
  Gone : Idle t x → live home (x ∷ past) t ≡ None → LocalMove home past t event x
  Opening : Opens home past t event x → LocalMove home past t event x
  Granting : Grants home past t event x → LocalMove home past t event x
  Closing : Closes home past t event x → LocalMove home past t event x

-- a line with its event
pub record Made (home : Home) (past : SitePast) (t : Tid) (event : SiteEvent) (x : SiteHappening) : Type 0 where
  pub heard : x.event ≡ event
  pub move : LocalMove home past t event x

pub made_when : (home : Home) (past : SitePast) (t : Tid) (event : SiteEvent) (c : Bool) (a b : SiteHappening) → (c ≡ true → Made home past t event a) → (c ≡ false → Made home past t event b) → Made home past t event (when c a b)
unfolding when
made_when home past t event true a b p q = p refl
made_when home past t event false a b p q = q refl

made_given : {A : Type 0} (home : Home) (past : SitePast) (t : Tid) (event : SiteEvent) (o : Option A) (none : SiteHappening) (some : A → SiteHappening) → (o ≡ None → Made home past t event none) → ((x : A) → o ≡ Some x → Made home past t event (some x)) → Made home past t event (given o some none)
unfolding given
made_given home past t event None none some p q = p refl
made_given home past t event (Some x) none some p q = q x refl

-- the event is no access of the attempt
abbrev NoAccess : Tid → SiteEvent → Type 0
NoAccess t (Ev.Act tid act) = same_tid tid t ≡ false
NoAccess t event = Unit {0}

no-read : (t : Tid) (event : SiteEvent) (answer : Answer) → NoAccess t event → read_by t event answer ≡ None
no-read t (Ev.Act tid act) (Say.Read key value) n = ap (λ b. cond b (Some value) None) n
no-read t (Ev.Act tid act) answer n = refl
no-read t (Ev.Begin tid) answer n = refl
no-read t (Ev.Commit tid) answer n = refl
no-read t (Ev.Abort tid) answer n = refl
no-read t (Ev.Fate tx) answer n = refl
no-read t (Ev.Give message) answer n = refl
no-read t (Ev.Ask tid) answer n = refl
no-read t (Ev.Drop tid) answer n = refl
no-read t (Ev.Halt cut) answer n = refl
no-read t (Ev.Trip calls cut) answer n = refl
no-read t Ev.Back answer n = refl
no-read t Ev.Check answer n = refl

-- a line about another attempt
pub other-made : (home : Home) (past : SitePast) (t tid : Tid) (event : SiteEvent) (x : SiteHappening) → x.event ≡ event → NoAccess t event → IsAbout home past tid x → same_tid tid t ≡ false → Made home past t event x
other-made home past t tid event x h n a e =
    record {
      heard = h;
      move = Rests (record { reads = no-read t x.event x.answer (subst (NoAccess t) (sym h) n); unsealed = no-seals tid t x.calls e a.calls })
          (live-next home past x t a.plain ∙ ap live_one (others-run (epoch_start home past) (engine_lines past) x.lines t tid e a.lines));
    }

-- a line that changes nothing
pub plain-made : (home : Home) (past : SitePast) (t : Tid) (event : SiteEvent) (answer : Answer) → (stops answer || comes_up answer) ≡ false → read_by t event answer ≡ None → Made home past t event (quiet event answer)
plain-made home past t event answer e r =
    record { heard = refl; move = Rests (record { reads = r; unsealed = refl }) (live-next home past (quiet event answer) t e) }

pub begin-made : (home : Home) (past : SitePast) (t : Tid) → Made home past t (Ev.Begin t) (of_begin home past t)
unfolding of_begin
begin-made home past t =
    made_given home past t _ _ _ _
    (λ none. made_given home past t _ _ _ _
    (λ free. record {
      heard = refl;
      move = Opening (record {
        idle = record { reads = refl; unsealed = refl };
        taken = refl;
        begins = same_tx-self t.tx;
        uncommitted = none;
        alone = free;
        number = _;
        now = own-line t (Begins t _) (run_of home past t) refl;
      });
    })
    (λ running e. plain-made home past t _ _ refl refl))
    (λ committed e. plain-made home past t _ _ refl refl)
  where
    same_tx-self : (tx : Tx) → same_tx tx tx ≡ true
    same_tx-self tx = eq-eqb tx.0 tx.0 refl

act-line : (home : Home) (past : SitePast) (t : Tid) (act : PlainAct) (reply : Reply) (run : Run) → run_of home past t ≡ Some run → live home (with_lines (Ev.Act t act) (act_answer t reply act) (Acts t act reply ∷ []) ∷ past) t ≡ live_one (acted reply act run)
act-line home past t act reply run e =
    live-next home past (with_lines (Ev.Act t act) (act_answer t reply act) (Acts t act reply ∷ [])) t (act_plain t reply act)
    ∙ (own-line t (Acts t act reply) (run_of home past t) refl ∙ ap (λ o. live_one (changed (Acts t act reply) o)) e)

acts-made : (home : Home) (past : SitePast) (t : Tid) (act : PlainAct) (reply : Reply) (run : Run) → Fits act reply → live home past t ≡ Some run → Made home past t (Ev.Act t act) (with_lines (Ev.Act t act) (act_answer t reply act) (Acts t act reply ∷ []))
acts-made home past t act (Reply_is.Wait by) run f alive =
    let at = live_is (run_of home past t) run alive in
    record { heard = refl; move = Rests (record { reads = refl; unsealed = refl }) (act-line home past t act (Reply_is.Wait by) run at.0 ∙ (unsealed-live run at.1 ∙ sym alive)) }
acts-made home past t act (Reply_is.Refused why) run f alive =
    let at = live_is (run_of home past t) run alive in
    record { heard = refl; move = Gone (record { reads = refused-read why; unsealed = refl }) (act-line home past t act (Reply_is.Refused why) run at.0) }
  where
    refused-read : (why : Why) → read_by t (Ev.Act t act) (act_answer t (Reply_is.Refused why) act) ≡ None
    refused-read (Because.Die by) = refl
    refused-read (Because.Late by) = refl
    refused-read (Because.Invalid by key) = refl
    refused-read (Because.TicketMoved by) = refl
acts-made home past t (Read key) (Reply_is.Value value) run f alive =
    let at = live_is (run_of home past t) run alive in
    record {
      heard = refl;
      move = Granting (record {
        act = Read key;
        access = Got key value;
        run = run;
        taken = refl;
        was = alive;
        now = act-line home past t (Read key) (Reply_is.Value value) run at.0 ∙ unsealed-live (record run { acts = Got key value ∷ run.acts }) at.1;
        its = refl;
        reads = ap (λ b. cond b (Some value) None) (same_tid-refl t);
        unsealed = refl;
      });
    }
acts-made home past t (Write key v) Reply_is.Done run f alive =
    let at = live_is (run_of home past t) run alive in
    record {
      heard = refl;
      move = Granting (record {
        act = Write key v;
        access = Wrote key v;
        run = run;
        taken = refl;
        was = alive;
        now = act-line home past t (Write key v) Reply_is.Done run at.0 ∙ unsealed-live (record run { acts = Wrote key v ∷ run.acts }) at.1;
        its = refl;
        reads = refl;
        unsealed = refl;
      });
    }
acts-made home past t (Write key v) (Reply_is.Value value) run f alive = absurd f
acts-made home past t (Read key) Reply_is.Done run f alive = absurd f
acts-made home past t (Read key) (Reply_is.Ticket ticket) run f alive = absurd f
acts-made home past t (Write key v) (Reply_is.Ticket ticket) run f alive = absurd f
acts-made home past t (Read key) Reply_is.Unknown run f alive = absurd f
acts-made home past t (Write key v) Reply_is.Unknown run f alive = absurd f

idle-read : (t : Tid) (act : PlainAct) → read_by t (Ev.Act t act) Say.Idle ≡ None
idle-read t act = refl

pub act-made : (home : Home) (past : SitePast) (t : Tid) (act : PlainAct) → Made home past t (Ev.Act t act) (of_act home past t act)
unfolding of_act
act-made home past t act =
    made_given home past t _ _ _ _ (λ none. plain-made home past t _ _ refl refl)
    (λ run alive. acts-made home past t act (reply_to home past run act) run (access-fits (epoch_start home past) (engine_lines past) run act) alive)

-- a line of one engine line that ends the run
ends-made : (home : Home) (past : SitePast) (t : Tid) (event : SiteEvent) (answer : Answer) (line : EngineLine) → (stops answer || comes_up answer) ≡ false → read_by t event answer ≡ None → tid_of line ≡ t → live_one (changed line (run_of home past t)) ≡ None → Made home past t event (with_lines event answer (line ∷ []))
ends-made home past t event answer line p r own e =
    record {
      heard = refl;
      move = Gone (record { reads = r; unsealed = refl }) (live-next home past (with_lines event answer (line ∷ [])) t p ∙ (own-line t line (run_of home past t) own ∙ e));
    }

pub commit-made : (home : Home) (past : SitePast) (t : Tid) → Made home past t (Ev.Commit t) (of_commit home past t)
unfolding of_commit seals_local
commit-made home past t =
    made_given home past t _ _ _ _ (λ none. plain-made home past t _ _ refl refl)
    (λ run alive. made_given home past t _ _ _ _
    (λ free. record {
      heard = refl;
      move = Closing (record {
        taken = refl;
        run = run;
        was = alive;
        now = own-line t (Commits t) (run_at (epoch_start home past) (Seals t (number_of home past run) ∷ engine_lines past) t) refl
            ∙ committed-none (run_at (epoch_start home past) (Seals t (number_of home past run) ∷ engine_lines past) t);
        reads = refl;
      });
    })
    (λ why stop. ends-made home past t _ _ (Refuses t why) (refusal_plain why) refl refl (given-up (Refuses t why) (run_of home past t) refl)))
  where
    committed-none : (o : Option Run) → live_one (changed (Commits t) o) ≡ None
    committed-none None = refl
    committed-none (Some run) = refl

pub abort-made : (home : Home) (past : SitePast) (t : Tid) → Made home past t (Ev.Abort t) (of_abort home past t)
unfolding of_abort
abort-made home past t =
    made_given home past t _ _ _ _ (λ none. plain-made home past t _ _ refl refl)
    (λ run alive. ends-made home past t _ _ (Aborts t) refl refl refl (given-up (Aborts t) (run_of home past t) refl))

pub decide-made : (home : Home) (past : SitePast) (t : Tid) (decision : Decision) → Made home past t (Ev.Give (To.Decide t decision)) (of_decide home past t decision)
unfolding of_decide unheld settles
decide-made home past t decision =
    made_given home past t _ _ _ _
    (λ none. made_given home past t _ _ _ _
    (λ dead. record { heard = refl; move = Rests (record { reads = refl; unsealed = refl }) refl })
    (λ run alive. record { heard = refl; move = Gone (record { reads = refl; unsealed = refl }) (own-line t (Aborts t) (run_of home past t) refl ∙ given-up (Aborts t) (run_of home past t) refl) }))
    (λ held d. record {
      heard = refl;
      move = Gone (record { reads = refl; unsealed = by_test (forces home.protocol decision) })
          (own-line t (settling_line t decision) (run_of home past t) (settling-tid t decision) ∙ settled-none t decision (run_of home past t));
    })
  where
    by_test : (b : Bool) → some_of (seals t) (cond b (Sync ∷ []) []) ≡ false
    by_test true = refl
    by_test false = refl

pub ask-made : (home : Home) (past : SitePast) (t tid : Tid) → Made home past t (Ev.Ask tid) (of_ask home past tid)
unfolding of_ask
ask-made home past t tid =
    made_given home past t _ _ _ _ (λ none. plain-made home past t _ _ refl refl)
    (λ held d. record { heard = refl; move = Rests (record { reads = refl; unsealed = refl }) refl })

pub drop-made : (home : Home) (past : SitePast) (t : Tid) → Made home past t (Ev.Drop t) (of_drop home past t)
unfolding of_drop
drop-made home past t =
    made_when home past t _ _ _ _ (λ c. plain-made home past t _ _ refl refl) (λ c.
    made_given home past t _ _ _ _ (λ none. plain-made home past t _ _ refl refl)
    (λ run alive. ends-made home past t _ _ (Aborts t) refl refl refl (given-up (Aborts t) (run_of home past t) refl)))

pub fate-made : (home : Home) (past : SitePast) (t : Tid) (tx : Tx) → Made home past t (Ev.Fate tx) (of_fate home past tx)
unfolding of_fate
fate-made home past t tx =
    made_given home past t _ _ _ _
    (λ e. made_given home past t _ _ _ _ (λ f. plain-made home past t _ _ (by_test _) refl) (λ running f. plain-made home past t _ _ refl refl))
    (λ committed e. plain-made home past t _ _ refl refl)
  where
    by_test : (b : Bool) → (stops (cond b Say.Unbegun Say.Ended) || comes_up (cond b Say.Unbegun Say.Ended)) ≡ false
    by_test true = refl
    by_test false = refl

pub back-made : (home : Home) (past : SitePast) (t : Tid) → Made home past t Ev.Back (of_back home past)
unfolding of_back
back-made home past t =
    record { heard = refl; move = Gone (record { reads = refl; unsealed = by_test (is_torn site_frame (disk home past)) }) (restored-sealed _ t) }
  where
    by_test : (b : Bool) → some_of (seals t) (cond b (CutBack ∷ []) [] ++ Append (Rec.Start (epoch home past + 1)) ∷ Sync ∷ []) ≡ false
    by_test true = refl
    by_test false = refl
