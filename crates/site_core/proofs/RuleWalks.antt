-- What holds of each branch of a rule holds of the rule: each line of a site is of its event, and only a Prepare prepares.
use Rattle.std.proofs.Common.{◌≡◌, ℕ, zero, suc, Bool, true, false, cond, ◌+◌, ◌||◌, Option, Some, None, List, [], ◌∷◌, ◌++◌, length, take, refl, ap, ap₂}
use Rattle.std.specs.Prelude.{nat_le}
use Rattle.mdb_base.specs.declared.acts.PlainAct.{PlainAct}
use Rattle.mdb_base.specs.declared.names.Tid.{Tid}
use Rattle.mdb_base.specs.declared.names.Tx.{Tx}
use Rattle.mdb_base.specs.Words.{given, some_of, when}
use Rattle.presumptions.specs.declared.Decision.{Decision}
use Rattle.presumptions.specs.Table.{forces}
use Rattle.fed_rules.specs.declared.answers.Answer.{Answer}
use Rattle.fed_rules.specs.declared.answers.Answer.TheVariants as Say
use Rattle.fed_rules.specs.declared.events.SiteEvent.{SiteEvent}
use Rattle.fed_rules.specs.declared.events.SiteEvent.TheVariants as Ev
use Rattle.fed_rules.specs.declared.messages.FromSite.{FromSite}
use Rattle.fed_rules.specs.declared.messages.ToSite.{ToSite}
use Rattle.fed_rules.specs.declared.messages.ToSite.TheVariants as To
use Rattle.fed_rules.specs.declared.records.SiteRecord.{SiteRecord}
use Rattle.fed_rules.specs.declared.records.SiteRecord.TheVariants as Rec
use Rattle.fed_rules.specs.Disk.{Call, Append, Sync, CutBack, TrimFront, is_torn}
use Rattle.fed_rules.specs.Happenings.{Trip, is_down, quiet, stopped, tripped}
use Rattle.fed_rules.specs.Runs.{EngineLine, Run}
use Rattle.fed_rules.specs.Site as Site
use Rattle.fed_rules.specs.Site.{answered, checkpoint, number_of, of_abort, of_act, of_ask, of_back, of_begin, of_check, of_commit, of_decide, of_drop, of_fate, of_give, of_prepare, of_take, of_work, site_line, unless_tripped}
use Rattle.fed_rules.specs.SitePast.{SiteHappening, SitePast, disk, epoch, trip}
use Rattle.fed_rules.specs.SiteRecords.{Home, site_frame}
use Rattle.site_history.specs.Events.{prepares}

pub by_given : {A : Type 0} (P : SiteHappening → Type 0) (o : Option A) (none : SiteHappening) (some : A → SiteHappening) → P none → ((x : A) → P (some x)) → P (given o some none)
unfolding given
by_given P None none some n s = n
by_given P (Some x) none some n s = s x

pub by_when : (P : SiteHappening → Type 0) (b : Bool) (x y : SiteHappening) → P x → P y → P (when b x y)
unfolding when
by_when P true x y p q = p
by_when P false x y p q = q

-- it holds of each line of this event with these disk calls
abbrev pub OfCalls : SiteEvent → List (Call SiteRecord) → (SiteHappening → Type 0) → Type 0
OfCalls event calls P =
    (answer : Answer) (sends : List FromSite) (lines : List EngineLine) → P (record { event = event; answer = answer; sends = sends; calls = calls; lines = lines })

module _ (P : SiteHappening → Type 0) (home : Home) (past : SitePast) where
  pub walk_begin : (t : Tid) → OfCalls (Ev.Begin t) [] P → P (of_begin home past t)
  unfolding of_begin
  walk_begin t leaf = by_given P _ _ _ (by_given P _ _ _ (leaf _ _ _) (λ r. leaf _ _ _)) (λ c. leaf _ _ _)

  pub walk_act : (t : Tid) (act : PlainAct) → OfCalls (Ev.Act t act) [] P → P (of_act home past t act)
  unfolding of_act
  walk_act t act leaf = by_given P _ _ _ (leaf _ _ _) (λ run. leaf _ _ _)

  pub walk_commit : (t : Tid) → OfCalls (Ev.Commit t) [] P → ((n : ℕ) (writes : _) → OfCalls (Ev.Commit t) (Append (Rec.Local t n writes) ∷ Sync ∷ []) P) → P (of_commit home past t)
  unfolding of_commit Site.seals_local
  walk_commit t leaf seals = by_given P _ _ _ (leaf _ _ _) (λ run. by_given P _ _ _ (seals _ _ _ _ _) (λ why. leaf _ _ _))

  pub walk_abort : (t : Tid) → OfCalls (Ev.Abort t) [] P → P (of_abort home past t)
  unfolding of_abort
  walk_abort t leaf = by_given P _ _ _ (leaf _ _ _) (λ run. leaf _ _ _)

  pub walk_fate : (tx : Tx) → OfCalls (Ev.Fate tx) [] P → P (of_fate home past tx)
  unfolding of_fate
  walk_fate tx leaf = by_given P _ _ _ (by_given P _ _ _ (leaf _ _ _) (λ r. leaf _ _ _)) (λ c. leaf _ _ _)

  pub walk_ask : (t : Tid) → OfCalls (Ev.Ask t) [] P → P (of_ask home past t)
  unfolding of_ask
  walk_ask t leaf = by_given P _ _ _ (leaf _ _ _) (λ held. leaf _ _ _)

  pub walk_drop : (t : Tid) → OfCalls (Ev.Drop t) [] P → P (of_drop home past t)
  unfolding of_drop
  walk_drop t leaf = by_when P _ _ _ (leaf _ _ _) (by_given P _ _ _ (leaf _ _ _) (λ run. leaf _ _ _))

  pub walk_check : OfCalls Ev.Check [] P → OfCalls Ev.Check (Append (checkpoint home past) ∷ Sync ∷ TrimFront ∷ []) P → P (of_check home past)
  unfolding of_check
  walk_check leaf checks = by_when P _ _ _ (leaf _ _ _) (checks _ _ _)

  pub walk_back : OfCalls Ev.Back (cond (is_torn site_frame (disk home past)) (CutBack ∷ []) [] ++ Append (Rec.Start (epoch home past + 1)) ∷ Sync ∷ []) P → P (of_back home past)
  unfolding of_back
  walk_back leaf = leaf _ _ _

  pub walk_work : (t : Tid) (e n : ℕ) (act : PlainAct) → OfCalls (Ev.Give (To.Work t e n act)) [] P → P (of_work home past t e n act)
  unfolding of_work Site.work_live Site.first_work Site.next_work Site.repeated Site.unknown Site.did
  walk_work t e n act leaf =
      by_when P _ _ _ (leaf _ _ _)
      (by_given P _ _ _ (by_when P _ _ _ (leaf _ _ _) (leaf _ _ _))
      (λ run. by_when P _ _ _ (leaf _ _ _) (by_when P _ _ _ (leaf _ _ _) (by_when P _ _ _ (leaf _ _ _) (leaf _ _ _)))))

  pub walk_take : (t : Tid) (e n : ℕ) → OfCalls (Ev.Give (To.Take t e n)) [] P → P (of_take home past t e n)
  unfolding of_take Site.take_live Site.next_take Site.repeated Site.unknown Site.did
  walk_take t e n leaf =
      by_when P _ _ _ (leaf _ _ _)
      (by_given P _ _ _ (leaf _ _ _)
      (λ run. by_when P _ _ _ (leaf _ _ _) (by_when P _ _ _ (leaf _ _ _) (by_when P _ _ _ (leaf _ _ _) (leaf _ _ _)))))

  pub walk_prepare : (t : Tid) (e n : ℕ) → OfCalls (Ev.Give (To.Prepare t e n)) [] P
      → ((epoch number ticket : ℕ) (writes : _) → OfCalls (Ev.Give (To.Prepare t e n)) (Append (Rec.Prepared t epoch number ticket writes) ∷ Sync ∷ []) P)
      → P (of_prepare home past t e n)
  unfolding of_prepare Site.prepare_live Site.seals_global Site.votes_again Site.votes_no Site.votes_yes
  walk_prepare t e n leaf seals =
      by_given P _ _ _
      (by_given P _ _ _ (leaf _ _ _)
      (λ run. by_when P _ _ _ (by_given P _ _ _ (leaf _ _ _) (λ ticket. by_given P _ _ _ (seals _ _ _ _ _ _ _) (λ why. leaf _ _ _))) (leaf _ _ _)))
      (λ held. by_when P _ _ _ (leaf _ _ _) (leaf _ _ _))

  pub walk_decide : (t : Tid) (decision : Decision) → OfCalls (Ev.Give (To.Decide t decision)) [] P
      → OfCalls (Ev.Give (To.Decide t decision)) (Append (Rec.Ended t decision) ∷ cond (forces home.protocol decision) (Sync ∷ []) []) P
      → P (of_decide home past t decision)
  unfolding of_decide Site.unheld Site.settles
  walk_decide t decision leaf settles = by_given P _ _ _ (by_given P _ _ _ (leaf _ _ _) (λ run. leaf _ _ _)) (λ held. settles _ _ _)

-- a line of a site is of its event
answered_event : (home : Home) (past : SitePast) (event : SiteEvent) → (answered home past event).event ≡ event
unfolding answered of_give
answered_event home past (Ev.Begin t) = walk_begin (λ x. x.event ≡ Ev.Begin t) home past t (λ a s l. refl)
answered_event home past (Ev.Act t act) = walk_act (λ x. x.event ≡ Ev.Act t act) home past t act (λ a s l. refl)
answered_event home past (Ev.Commit t) = walk_commit (λ x. x.event ≡ Ev.Commit t) home past t (λ a s l. refl) (λ n w a s l. refl)
answered_event home past (Ev.Abort t) = walk_abort (λ x. x.event ≡ Ev.Abort t) home past t (λ a s l. refl)
answered_event home past (Ev.Fate tx) = walk_fate (λ x. x.event ≡ Ev.Fate tx) home past tx (λ a s l. refl)
answered_event home past (Ev.Give (To.Work t e n act)) = walk_work (λ x. x.event ≡ Ev.Give (To.Work t e n act)) home past t e n act (λ a s l. refl)
answered_event home past (Ev.Give (To.Take t e n)) = walk_take (λ x. x.event ≡ Ev.Give (To.Take t e n)) home past t e n (λ a s l. refl)
answered_event home past (Ev.Give (To.Prepare t e n)) = walk_prepare (λ x. x.event ≡ Ev.Give (To.Prepare t e n)) home past t e n (λ a s l. refl) (λ p q r w a s l. refl)
answered_event home past (Ev.Give (To.Decide t decision)) = walk_decide (λ x. x.event ≡ Ev.Give (To.Decide t decision)) home past t decision (λ a s l. refl) (λ a s l. refl)
answered_event home past (Ev.Ask t) = walk_ask (λ x. x.event ≡ Ev.Ask t) home past t (λ a s l. refl)
answered_event home past (Ev.Drop t) = walk_drop (λ x. x.event ≡ Ev.Drop t) home past t (λ a s l. refl)
answered_event home past (Ev.Halt cut) = refl
answered_event home past (Ev.Trip calls cut) = refl
answered_event home past Ev.Back = walk_back (λ x. x.event ≡ Ev.Back) home past (λ a s l. refl)
answered_event home past Ev.Check = walk_check (λ x. x.event ≡ Ev.Check) home past (λ a s l. refl) (λ a s l. refl)

tripped_event : (home : Home) (past : SitePast) (o : Option Trip) (x : SiteHappening) (event : SiteEvent) → x.event ≡ event → (tripped site_frame (disk home past) o x).event ≡ event
unfolding tripped stopped
tripped_event home past None x event is = is
tripped_event home past (Some t) x event is = by_when (λ y. y.event ≡ event) (nat_le t.calls (length x.calls)) _ x is is

up_event : (home : Home) (past : SitePast) (event : SiteEvent) → (when (is_down past) (quiet event Say.Down) (unless_tripped home past (answered home past event))).event ≡ event
up_event home past event = by_when (λ x. x.event ≡ event) (is_down past) _ _ refl (tripped_event home past (trip past) (answered home past event) event (answered_event home past event))

pub line_event : (home : Home) (past : SitePast) (event : SiteEvent) → (site_line home past event).event ≡ event
unfolding site_line stopped
line_event home past (Ev.Trip calls cut) = refl
line_event home past (Ev.Halt cut) = by_when (λ x. x.event ≡ Ev.Halt cut) (is_down past) _ _ refl refl
line_event home past Ev.Back =
    by_when (λ x. x.event ≡ Ev.Back) (is_down past) _ _ (tripped_event home past (trip past) (of_back home past) Ev.Back (walk_back (λ x. x.event ≡ Ev.Back) home past (λ a s l. refl))) refl
line_event home past (Ev.Begin t) = up_event home past (Ev.Begin t)
line_event home past (Ev.Act t act) = up_event home past (Ev.Act t act)
line_event home past (Ev.Commit t) = up_event home past (Ev.Commit t)
line_event home past (Ev.Abort t) = up_event home past (Ev.Abort t)
line_event home past (Ev.Fate tx) = up_event home past (Ev.Fate tx)
line_event home past (Ev.Give message) = up_event home past (Ev.Give message)
line_event home past (Ev.Ask t) = up_event home past (Ev.Ask t)
line_event home past (Ev.Drop t) = up_event home past (Ev.Drop t)
line_event home past Ev.Check = up_event home past Ev.Check
