-- What a line of a site says: it is of its event, and only a `begin` begins an attempt, where none of its transaction is live.
use Rattle.std.proofs.Common.{◌≡◌, ℕ, Bool, true, false, cond, ◌==◌, Option, Some, None, refl}
use Rattle.mdb_base.specs.declared.acts.PlainAct.{PlainAct}
use Rattle.mdb_base.specs.declared.names.Tid.{Tid}
use Rattle.mdb_base.specs.declared.names.Tx.{Tx}
use Rattle.mdb_base.specs.declared.replies.Reply.{Reply}
use Rattle.mdb_base.specs.declared.replies.Why.{Why}
use Rattle.mdb_base.specs.Words.{when, given}
use Rattle.presumptions.specs.declared.Decision.{Decision}
use Rattle.fed_rules.specs.declared.answers.Answer.{Answer}
use Rattle.fed_rules.specs.declared.answers.Answer.TheVariants as Say
use Rattle.fed_rules.specs.declared.events.SiteEvent.{SiteEvent}
use Rattle.fed_rules.specs.declared.events.SiteEvent.TheVariants as Ev
use Rattle.fed_rules.specs.declared.messages.ToSite.{ToSite}
use Rattle.fed_rules.specs.declared.messages.ToSite.TheVariants as To
use Rattle.fed_rules.specs.Happenings.{Trip, is_down, quiet, stopped, tripped}
use Rattle.fed_rules.specs.Site.{act_answer, answered, refusal_answer, reply_to, site_line, of_begin, of_act, seals_local, of_commit, of_abort, of_fate, did, unknown, first_work, next_work, next_take, repeated, work_live, of_work, take_live, of_take, votes_again, votes_no, votes_yes, seals_global, prepare_live, of_prepare, settles, unheld, of_decide, of_give, of_ask, of_drop, of_back, of_check}
use Rattle.fed_rules.specs.SitePast.{SiteHappening, SitePast, attempts_of, disk, live_of_tx, trip}
use Rattle.site_history.proofs.ForCallers.{act_answer-is, refusal_answer-is}
use Rattle.fed_rules.specs.SiteRecords.{Home, site_frame}

-- the answer begins an attempt only by a `begin` of it, where none of its transaction is live
abbrev pub BeginsSo : Home → SitePast → SiteEvent → Answer → Type 0
BeginsSo home past event (Say.Begun tid) = (event ≡ Ev.Begin tid) × (live_of_tx home past tid.tx ≡ None)
BeginsSo home past event answer = Unit {0}

pub record Says (home : Home) (past : SitePast) (event : SiteEvent) (x : SiteHappening) : Type 0 where
  pub heard : x.event ≡ event
  pub begins : BeginsSo home past event x.answer

module _ (home : Home) (past : SitePast) (event : SiteEvent) where
  says_given : {A : Type 0} (o : Option A) (none : SiteHappening) (some : A → SiteHappening) → (o ≡ None → Says home past event none) → ((z : A) → Says home past event (some z)) → Says home past event (given o some none)
  unfolding given
  says_given None none some p q = p refl
  says_given (Some z) none some p q = q z

  says_when : (b : Bool) (x y : SiteHappening) → Says home past event x → Says home past event y → Says home past event (when b x y)
  unfolding when
  says_when true x y p q = p
  says_when false x y p q = q

  says_tripped : (o : Option Trip) (x : SiteHappening) → Says home past event x → Says home past event (tripped site_frame (disk home past) o x)
  unfolding tripped stopped
  says_tripped None x p = p
  says_tripped (Some t) x p = says_when _ _ _ (record { heard = p.heard; begins = tt }) p

act_says : (home : Home) (past : SitePast) (event : SiteEvent) (tid : Tid) (reply : Reply) (act : PlainAct) → BeginsSo home past event (act_answer tid reply act)
act_says home past event = act_answer-is (BeginsSo home past event) (λ by. tt) (λ by. tt) (λ by. tt) (λ k v. tt) (λ k v. tt) tt

refusal_says : (home : Home) (past : SitePast) (event : SiteEvent) (why : Why) → BeginsSo home past event (refusal_answer why)
refusal_says home past event = refusal_answer-is (BeginsSo home past event) (λ by k. tt) tt

module _ (home : Home) (past : SitePast) where
  -- a line that begins none
  abbrev plain : {event : SiteEvent} {x : SiteHappening} → x.event ≡ event → BeginsSo home past event x.answer → Says home past event x
  plain h b = record { heard = h; begins = b }

  says_begin : (t : Tid) → Says home past (Ev.Begin t) (of_begin home past t)
  unfolding of_begin
  says_begin t =
      says_given home past _ _ _ _ (λ e. says_given home past _ _ _ _ (λ none. plain refl (refl, none)) (λ r. plain refl tt)) (λ c. plain refl tt)

  says_work : (t : Tid) (e n : ℕ) (act : PlainAct) → Says home past (Ev.Give (To.Work t e n act)) (of_work home past t e n act)
  unfolding of_work work_live first_work next_work repeated unknown did
  says_work t e n act =
      says_when home past _ _ _ _ (plain refl tt)
      (says_given home past _ _ _ _ (λ none. says_when home past _ _ _ _ (plain refl tt) (plain refl tt))
      (λ run. says_when home past _ _ _ _ (plain refl tt) (says_when home past _ _ _ _ (plain refl tt) (says_when home past _ _ _ _ (plain refl tt) (plain refl tt)))))

  says_take : (t : Tid) (e n : ℕ) → Says home past (Ev.Give (To.Take t e n)) (of_take home past t e n)
  unfolding of_take take_live next_take repeated unknown did
  says_take t e n =
      says_when home past _ _ _ _ (plain refl tt)
      (says_given home past _ _ _ _ (λ none. plain refl tt)
      (λ run. says_when home past _ _ _ _ (plain refl tt) (says_when home past _ _ _ _ (plain refl tt) (says_when home past _ _ _ _ (plain refl tt) (plain refl tt)))))

  says_prepare : (t : Tid) (e n : ℕ) → Says home past (Ev.Give (To.Prepare t e n)) (of_prepare home past t e n)
  unfolding of_prepare prepare_live seals_global votes_again votes_no votes_yes
  says_prepare t e n =
      says_given home past _ _ _ _
      (λ none. says_given home past _ _ _ _ (λ gone. plain refl tt)
      (λ run. says_when home past _ _ _ _ (says_given home past _ _ _ _ (λ no. plain refl tt) (λ ticket. says_given home past _ _ _ _ (λ no. plain refl tt) (λ why. plain refl tt))) (plain refl tt)))
      (λ held. says_when home past _ _ _ _ (plain refl tt) (plain refl tt))

  says_decide : (t : Tid) (decision : Decision) → Says home past (Ev.Give (To.Decide t decision)) (of_decide home past t decision)
  unfolding of_decide unheld settles
  says_decide t decision = says_given home past _ _ _ _ (λ none. says_given home past _ _ _ _ (λ gone. plain refl tt) (λ run. plain refl tt)) (λ held. plain refl tt)

  says_give : (message : ToSite) → Says home past (Ev.Give message) (of_give home past message)
  unfolding of_give
  says_give (To.Work t e n act) = says_work t e n act
  says_give (To.Take t e n) = says_take t e n
  says_give (To.Prepare t e n) = says_prepare t e n
  says_give (To.Decide t decision) = says_decide t decision

  says_fate : (tx : Tx) (b : Bool) → BeginsSo home past (Ev.Fate tx) (cond b Say.Unbegun Say.Ended)
  says_fate tx true = tt
  says_fate tx false = tt

  says_answered : (event : SiteEvent) → Says home past event (answered home past event)
  unfolding answered of_act of_commit seals_local of_abort of_fate of_ask of_drop of_back of_check
  says_answered (Ev.Begin t) = says_begin t
  says_answered (Ev.Act t act) = says_given home past _ _ _ _ (λ none. plain refl tt) (λ run. plain refl (act_says home past (Ev.Act t act) t (reply_to home past run act) act))
  says_answered (Ev.Commit t) =
      says_given home past _ _ _ _ (λ none. plain refl tt) (λ run. says_given home past _ _ _ _ (λ free. plain refl tt) (λ why. plain refl (refusal_says home past (Ev.Commit t) why)))
  says_answered (Ev.Abort t) = says_given home past _ _ _ _ (λ none. plain refl tt) (λ run. plain refl tt)
  says_answered (Ev.Fate tx) =
      says_given home past _ _ _ _ (λ none. says_given home past _ _ _ _ (λ gone. plain refl (says_fate tx (attempts_of past tx == 0))) (λ r. plain refl tt)) (λ c. plain refl tt)
  says_answered (Ev.Give message) = says_give message
  says_answered (Ev.Ask t) = says_given home past _ _ _ _ (λ none. plain refl tt) (λ held. plain refl tt)
  says_answered (Ev.Drop t) = says_when home past _ _ _ _ (plain refl tt) (says_given home past _ _ _ _ (λ none. plain refl tt) (λ run. plain refl tt))
  says_answered (Ev.Halt cut) = plain refl tt
  says_answered (Ev.Trip calls cut) = plain refl tt
  says_answered Ev.Back = plain refl tt
  says_answered Ev.Check = says_when home past _ _ _ _ (plain refl tt) (plain refl tt)

  says_up : (event : SiteEvent) → Says home past event (when (is_down past) (quiet event Say.Down) (tripped site_frame (disk home past) (trip past) (answered home past event)))
  says_up event = says_when home past _ _ _ _ (plain refl tt) (says_tripped home past event (trip past) _ (says_answered event))

  -- what a line of a site says
  pub site_says : (event : SiteEvent) → Says home past event (site_line home past event)
  unfolding site_line stopped of_back
  site_says (Ev.Trip calls cut) = plain refl tt
  site_says (Ev.Halt cut) = says_when home past _ _ _ _ (plain refl tt) (plain refl tt)
  site_says Ev.Back = says_when home past _ _ _ _ (says_tripped home past Ev.Back (trip past) _ (plain refl tt)) (plain refl tt)
  site_says (Ev.Begin tid) = says_up (Ev.Begin tid)
  site_says (Ev.Act tid act) = says_up (Ev.Act tid act)
  site_says (Ev.Commit tid) = says_up (Ev.Commit tid)
  site_says (Ev.Abort tid) = says_up (Ev.Abort tid)
  site_says (Ev.Fate tx) = says_up (Ev.Fate tx)
  site_says (Ev.Give message) = says_up (Ev.Give message)
  site_says (Ev.Ask tid) = says_up (Ev.Ask tid)
  site_says (Ev.Drop tid) = says_up (Ev.Drop tid)
  site_says Ev.Check = says_up Ev.Check
