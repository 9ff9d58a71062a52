-- What each line of a site does at most: it draws one number, its records have numbers and epochs of at most one more than those before it, and it
-- begins none but the attempt of its own event.
use Rattle.std.proofs.Common.{◌≡◌, ℕ, ◌+◌, ◌≤◌, ◌==◌, Bool, true, false, cond, Option, Some, None, List, [], ◌∷◌, ◌++◌, length, refl, arith}
use Rattle.std.specs.Prelude.{nat_le}
use Rattle.mdb_base.specs.declared.acts.PlainAct.{PlainAct}
use Rattle.mdb_base.specs.declared.names.Tid.{Tid}
use Rattle.mdb_base.specs.declared.names.Tx.{Tx}
use Rattle.mdb_base.specs.Words.{given, when}
use Rattle.mdb_base.proofs.ForCallers.{same_tx-refl}
use Rattle.presumptions.specs.declared.Decision.{Decision}
use Rattle.presumptions.specs.Table.{forces}
use Rattle.fed_rules.specs.declared.answers.Answer.{Answer}
use Rattle.fed_rules.specs.declared.answers.Answer.TheVariants as Say
use Rattle.fed_rules.specs.declared.events.SiteEvent.{SiteEvent}
use Rattle.fed_rules.specs.declared.events.SiteEvent.TheVariants as Ev
use Rattle.fed_rules.specs.declared.messages.FromSite.{FromSite}
use Rattle.fed_rules.specs.declared.messages.ToSite.TheVariants as To
use Rattle.fed_rules.specs.declared.records.SiteRecord.{SiteRecord}
use Rattle.fed_rules.specs.declared.records.SiteRecord.TheVariants as Rec
use Rattle.fed_rules.specs.Disk.{Append, Sync, CutBack, Stops, is_torn}
use Rattle.fed_rules.specs.Happenings.{Trip, is_down, quiet, stopped, tripped}
use Rattle.fed_rules.specs.Runs.{EngineLine, Run}
use Rattle.fed_rules.specs.Site as Site
use Rattle.fed_rules.specs.Site.{act_answer, answered, ended_calls, number_of, of_abort, of_act, of_ask, of_back, of_begin, of_check, of_commit, of_decide, of_drop, of_fate, of_give, of_prepare, of_take, of_work, refusal_answer, reply_to, site_line, unless_tripped}
use Rattle.fed_rules.specs.SitePast.{SiteHappening, SitePast, attempts_of, begins_tx, disk, epoch, live, trip}
use Rattle.fed_rules.specs.SiteRecords.{Home, site_frame}
use Rattle.site_history.proofs.ForCallers.{EachAppend, append_take}
use Rattle.site_core.proofs.ForCallers.{act_answers, by_given, by_when, refusal_plain}
use Rattle.engine_laws.proofs.ForCallers.{draws, settling}

-- the numbers of a record are at most the first of these, and an epoch is at most the second
abbrev pub IsBelow : ℕ → ℕ → SiteRecord → Type 0
IsBelow n m (Rec.Start epoch) = epoch ≤ m
IsBelow n m (Rec.Prepared tid epoch number ticket writes) = (number ≤ n) × (ticket ≤ n)
IsBelow n m (Rec.Local tid number writes) = number ≤ n
IsBelow n m kept = Unit {0}

-- an answer that begins an attempt is one to the begin of this attempt
abbrev pub IsBegunBy : SiteEvent → Answer → Type 0
IsBegunBy event (Say.Begun tid) = event ≡ Ev.Begin tid
IsBegunBy event answer = Unit {0}

pub record IsSmall (n m : ℕ) (x : SiteHappening) : Type 0 where
  pub drawn : draws x.lines ≤ 1
  pub kept : EachAppend (IsBelow n m) x.calls
  pub begun : IsBegunBy x.event x.answer

-- an answer that begins nothing
unbegun : (event : SiteEvent) (answer : Answer) → ((tx : Tx) → begins_tx tx answer ≡ false) → IsBegunBy event answer
unbegun event (Say.Begun tid) none = let is = same_tx-refl tid.tx in let not = none tid.tx in cc
unbegun event answer none = tt

by_found : {A : Type 0} (P : SiteHappening → Type 0) (o : Option A) (none : SiteHappening) (some : A → SiteHappening) → P none → ((x : A) → o ≡ Some x → P (some x)) → P (given o some none)
unfolding given
by_found P None none some n s = n
by_found P (Some x) none some n s = s x refl

ended_fate : (event : SiteEvent) (b : Bool) → IsBegunBy event (cond b Say.Unbegun Say.Ended)
ended_fate event true = tt
ended_fate event false = tt

ended_below : (n m : ℕ) (tid : Tid) (decision : Decision) (b : Bool) → EachAppend (IsBelow n m) (Append (Rec.Ended tid decision) ∷ cond b (Sync ∷ []) [])
ended_below n m tid decision true = (tt, tt)
ended_below n m tid decision false = (tt, tt)

back_below : (n m e : ℕ) (b : Bool) → e ≤ m → EachAppend (IsBelow n m) (cond b (CutBack ∷ []) [] ++ Append (Rec.Start e) ∷ Sync ∷ [])
back_below n m e true le = (le, tt)
back_below n m e false le = (le, tt)

-- a line with a right answer and no record
abbrev Leaf : ℕ → ℕ → SiteEvent → Type 0
Leaf n m event =
    (answer : Answer) (sends : List FromSite) (lines : List EngineLine) → IsBegunBy event answer → draws lines ≤ 1
    → IsSmall n m (record { event = event; answer = answer; sends = sends; calls = []; lines = lines })

leaf : (n m : ℕ) (event : SiteEvent) → Leaf n m event
leaf n m event answer sends lines begun drawn = record { drawn = drawn; kept = tt; begun = begun }

no_draw : 0 ≤ 1
no_draw = omega arith

one_draw : 1 ≤ 1
one_draw = omega arith

module _ (n m : ℕ) (home : Home) (past : SitePast) (epochs : epoch home past + 1 ≤ m) (numbers : (tid : Tid) (run : Run) → live home past tid ≡ Some run → number_of home past run ≤ n)
    (tickets : (tid : Tid) (run : Run) (t : ℕ) → live home past tid ≡ Some run → run.ticket ≡ Some t → t ≤ n) where
  small_begin : (t : Tid) → IsSmall n m (of_begin home past t)
  unfolding of_begin
  small_begin t = by_given (IsSmall n m) _ _ _ (by_given (IsSmall n m) _ _ _ (leaf n m _ _ _ _ refl one_draw) (λ r. leaf n m _ _ _ _ tt no_draw)) (λ c. leaf n m _ _ _ _ tt no_draw)

  small_act : (t : Tid) (act : PlainAct) → IsSmall n m (of_act home past t act)
  unfolding of_act
  small_act t act =
      by_given (IsSmall n m) _ _ _ (leaf n m _ _ _ _ tt no_draw)
      (λ run. leaf n m (Ev.Act t act) _ _ _ (unbegun (Ev.Act t act) (act_answer t (reply_to home past run act) act) (act_answers t act (reply_to home past run act)).2) no_draw)

  small_commit : (t : Tid) → IsSmall n m (of_commit home past t)
  unfolding of_commit Site.seals_local
  small_commit t =
      by_found (IsSmall n m) _ _ _ (leaf n m _ _ _ _ tt no_draw)
      (λ run e. by_given (IsSmall n m) _ _ _ (record { drawn = one_draw; kept = (numbers t run e, tt); begun = tt })
      (λ why. leaf n m (Ev.Commit t) _ _ _ (unbegun (Ev.Commit t) (refusal_answer why) (refusal_plain why).2) no_draw))

  small_abort : (t : Tid) → IsSmall n m (of_abort home past t)
  unfolding of_abort
  small_abort t = by_given (IsSmall n m) _ _ _ (leaf n m _ _ _ _ tt no_draw) (λ run. leaf n m _ _ _ _ tt no_draw)

  small_fate : (tx : Tx) → IsSmall n m (of_fate home past tx)
  unfolding of_fate
  small_fate tx =
      by_given (IsSmall n m) _ _ _
      (by_given (IsSmall n m) _ _ _ (leaf n m (Ev.Fate tx) _ _ _ (ended_fate (Ev.Fate tx) (attempts_of past tx == 0)) no_draw) (λ r. leaf n m _ _ _ _ tt no_draw)) (λ c. leaf n m _ _ _ _ tt no_draw)

  small_ask : (t : Tid) → IsSmall n m (of_ask home past t)
  unfolding of_ask
  small_ask t = by_given (IsSmall n m) _ _ _ (leaf n m _ _ _ _ tt no_draw) (λ held. leaf n m _ _ _ _ tt no_draw)

  small_drop : (t : Tid) → IsSmall n m (of_drop home past t)
  unfolding of_drop
  small_drop t = by_when (IsSmall n m) _ _ _ (leaf n m _ _ _ _ tt no_draw) (by_given (IsSmall n m) _ _ _ (leaf n m _ _ _ _ tt no_draw) (λ run. leaf n m _ _ _ _ tt no_draw))

  small_check : IsSmall n m (of_check home past)
  unfolding of_check
  small_check = by_when (IsSmall n m) _ _ _ (leaf n m _ _ _ _ tt no_draw) (record { drawn = no_draw; kept = (tt, tt); begun = tt })

  small_back : IsSmall n m (of_back home past)
  unfolding of_back
  small_back = record { drawn = no_draw; kept = back_below n m (epoch home past + 1) (is_torn site_frame (disk home past)) epochs; begun = tt }

  small_work : (t : Tid) (e k : ℕ) (act : PlainAct) → IsSmall n m (of_work home past t e k act)
  unfolding of_work Site.work_live Site.first_work Site.next_work Site.repeated Site.unknown Site.did
  small_work t e k act =
      by_when (IsSmall n m) _ _ _ (leaf n m _ _ _ _ tt no_draw)
      (by_given (IsSmall n m) _ _ _ (by_when (IsSmall n m) _ _ _ (leaf n m _ _ _ _ tt one_draw) (leaf n m _ _ _ _ tt no_draw))
      (λ run. by_when (IsSmall n m) _ _ _ (leaf n m _ _ _ _ tt no_draw)
      (by_when (IsSmall n m) _ _ _ (leaf n m _ _ _ _ tt no_draw) (by_when (IsSmall n m) _ _ _ (leaf n m _ _ _ _ tt no_draw) (leaf n m _ _ _ _ tt no_draw)))))

  small_take : (t : Tid) (e k : ℕ) → IsSmall n m (of_take home past t e k)
  unfolding of_take Site.take_live Site.next_take Site.repeated Site.unknown Site.did
  small_take t e k =
      by_when (IsSmall n m) _ _ _ (leaf n m _ _ _ _ tt no_draw)
      (by_given (IsSmall n m) _ _ _ (leaf n m _ _ _ _ tt no_draw)
      (λ run. by_when (IsSmall n m) _ _ _ (leaf n m _ _ _ _ tt no_draw)
      (by_when (IsSmall n m) _ _ _ (leaf n m _ _ _ _ tt no_draw) (by_when (IsSmall n m) _ _ _ (leaf n m _ _ _ _ tt no_draw) (leaf n m _ _ _ _ tt no_draw)))))

  small_prepare : (t : Tid) (e k : ℕ) → IsSmall n m (of_prepare home past t e k)
  unfolding of_prepare Site.prepare_live Site.seals_global Site.votes_again Site.votes_no Site.votes_yes
  small_prepare t e k =
      by_given (IsSmall n m) _ _ _
      (by_found (IsSmall n m) _ _ _ (leaf n m _ _ _ _ tt no_draw)
      (λ run lives. by_when (IsSmall n m) _ _ _
      (by_found (IsSmall n m) _ _ _ (leaf n m _ _ _ _ tt no_draw)
      (λ ticket has. by_given (IsSmall n m) _ _ _ (record { drawn = one_draw; kept = ((numbers t run lives, tickets t run ticket lives has), tt); begun = tt }) (λ why. leaf n m _ _ _ _ tt no_draw)))
      (leaf n m _ _ _ _ tt no_draw)))
      (λ held. by_when (IsSmall n m) _ _ _ (leaf n m _ _ _ _ tt no_draw) (leaf n m _ _ _ _ tt no_draw))

  small_decide : (t : Tid) (decision : Decision) → IsSmall n m (of_decide home past t decision)
  unfolding of_decide Site.unheld Site.settles
  small_decide t decision =
      by_given (IsSmall n m) _ _ _ (by_given (IsSmall n m) _ _ _ (leaf n m _ _ _ _ tt no_draw) (λ run. leaf n m _ _ _ _ tt no_draw))
      (λ held. record { drawn = settling t decision; kept = ended_below n m t decision (forces home.protocol decision); begun = tt })

  small_answered : (event : SiteEvent) → IsSmall n m (answered home past event)
  unfolding answered of_give
  small_answered (Ev.Begin t) = small_begin t
  small_answered (Ev.Act t act) = small_act t act
  small_answered (Ev.Commit t) = small_commit t
  small_answered (Ev.Abort t) = small_abort t
  small_answered (Ev.Fate tx) = small_fate tx
  small_answered (Ev.Give (To.Work t e k act)) = small_work t e k act
  small_answered (Ev.Give (To.Take t e k)) = small_take t e k
  small_answered (Ev.Give (To.Prepare t e k)) = small_prepare t e k
  small_answered (Ev.Give (To.Decide t decision)) = small_decide t decision
  small_answered (Ev.Ask t) = small_ask t
  small_answered (Ev.Drop t) = small_drop t
  small_answered (Ev.Halt cut) = leaf n m _ _ _ _ tt no_draw
  small_answered (Ev.Trip calls cut) = leaf n m _ _ _ _ tt no_draw
  small_answered Ev.Back = small_back
  small_answered Ev.Check = small_check

  small_tripped : (o : Option Trip) (x : SiteHappening) → IsSmall n m x → IsSmall n m (tripped site_frame (disk home past) o x)
  unfolding tripped stopped
  small_tripped None x s = s
  small_tripped (Some t) x s =
      by_when (IsSmall n m) (nat_le t.calls (length x.calls)) _ x (record { drawn = no_draw; kept = append_take (IsBelow n m) t.calls x.calls (Stops t.cut ∷ []) s.kept tt; begun = tt }) s

  small_up : (event : SiteEvent) → IsSmall n m (when (is_down past) (quiet event Say.Down) (unless_tripped home past (answered home past event)))
  small_up event = by_when (IsSmall n m) (is_down past) _ _ (leaf n m _ _ _ _ tt no_draw) (small_tripped (trip past) (answered home past event) (small_answered event))

  pub small_line : (event : SiteEvent) → IsSmall n m (site_line home past event)
  unfolding site_line stopped
  small_line (Ev.Trip calls cut) = leaf n m _ _ _ _ tt no_draw
  small_line (Ev.Halt cut) = by_when (IsSmall n m) (is_down past) _ _ (leaf n m _ _ _ _ tt no_draw) (record { drawn = no_draw; kept = tt; begun = tt })
  small_line Ev.Back = by_when (IsSmall n m) (is_down past) _ _ (small_tripped (trip past) (of_back home past) small_back) (leaf n m _ _ _ _ tt no_draw)
  small_line (Ev.Begin t) = small_up (Ev.Begin t)
  small_line (Ev.Act t act) = small_up (Ev.Act t act)
  small_line (Ev.Commit t) = small_up (Ev.Commit t)
  small_line (Ev.Abort t) = small_up (Ev.Abort t)
  small_line (Ev.Fate tx) = small_up (Ev.Fate tx)
  small_line (Ev.Give message) = small_up (Ev.Give message)
  small_line (Ev.Ask t) = small_up (Ev.Ask t)
  small_line (Ev.Drop t) = small_up (Ev.Drop t)
  small_line Ev.Check = small_up Ev.Check
