-- A site sends at most one message in a line, and none at an event of its own.
use Rattle.std.proofs.Common.{◌≡◌, ◌≤◌, ℕ, Bool, true, false, Option, Some, None, List, [], ◌∷◌, length, refl, ap, cond, arith}
use Rattle.mdb_base.specs.declared.acts.PlainAct.{PlainAct}
use Rattle.mdb_base.specs.declared.names.Tid.{Tid}
use Rattle.mdb_base.specs.declared.names.Tx.{Tx}
use Rattle.mdb_base.specs.declared.replies.Why.{Why}
use Rattle.mdb_base.specs.Words.{given, when}
use Rattle.presumptions.specs.declared.Decision.{Decision}
use Rattle.presumptions.specs.Table.{acks}
use Rattle.fed_rules.specs.declared.answers.Answer.TheVariants as Say
use Rattle.fed_rules.specs.declared.events.SiteEvent.{SiteEvent}
use Rattle.fed_rules.specs.declared.events.SiteEvent.TheVariants as Ev
use Rattle.fed_rules.specs.declared.messages.FromSite.{FromSite}
use Rattle.fed_rules.specs.declared.messages.FromSite.TheVariants as From
use Rattle.fed_rules.specs.declared.messages.ToSite.{ToSite}
use Rattle.fed_rules.specs.declared.messages.ToSite.TheVariants as To
use Rattle.fed_rules.specs.declared.records.SiteRecord.{SiteRecord}
use Rattle.fed_rules.specs.Disk.{Disk}
use Rattle.fed_rules.specs.Happenings.{Trip, is_down, stopped, tripped}
use Rattle.fed_rules.specs.Runs.{EngineLine, Run}
use Rattle.fed_rules.specs.Site.{ack_of, answered, did, first_work, next_take, next_work, of_abort, of_act, of_ask, of_back, of_begin, of_check, of_commit, of_decide, of_drop, of_fate, of_give, of_prepare, of_take, of_work, prepare_live, repeated, seals_global, seals_local, settles, site_line, take_live, unheld, unknown, unless_tripped, votes_again, votes_no, votes_yes, work_live}
use Rattle.fed_rules.specs.SitePast.{SiteHappening, SitePast, disk, trip}
use Rattle.fed_rules.specs.SiteRecords.{Home, Held, site_frame}
use Rattle.world_laws.specs.Messages.{MaySend, OwnEventsSendNothing, SitesSendFew}

-- the line at the event sends at most one message, and none where it may not
pub record SaysFew (event : SiteEvent) (x : SiteHappening) : Type 0 where
  pub few : length x.sends ≤ 1
  pub silent : (MaySend event → ⊥) → x.sends ≡ []

still : (event : SiteEvent) (x : SiteHappening) → x.sends ≡ [] → SaysFew event x
still event x e = record { few = (let n : length x.sends ≡ 0 = ap (λ (xs : List FromSite). length xs) e in omega (arith, n)); silent = λ no. e }

few_when : (event : SiteEvent) (b : Bool) (x y : SiteHappening) → SaysFew event x → SaysFew event y → SaysFew event (when b x y)
unfolding when
few_when event true x y p q = p
few_when event false x y p q = q

few_given : {A : Type 0} (event : SiteEvent) (o : Option A) (x : SiteHappening) (f : A → SiteHappening) → SaysFew event x → ((a : A) → SaysFew event (f a)) → SaysFew event (given o f x)
unfolding given
few_given event None x f p q = p
few_given event (Some a) x f p q = q a

few_tripped : (event : SiteEvent) (d : Disk SiteRecord) (armed : Option Trip) (x : SiteHappening) → SaysFew event x → SaysFew event (tripped site_frame d armed x)
unfolding tripped stopped
few_tripped event d None x s = s
few_tripped event d (Some t) x s = few_when event _ _ x (still event _ refl) s

-- a message that comes is answered with at most one
module _ (message : ToSite) where
  one : (x : SiteHappening) → length x.sends ≤ 1 → SaysFew (Ev.Give message) x
  one x h = record { few = h; silent = λ no. absurd (no tt) }

  few_did : (home : Home) (past : SitePast) (tid : Tid) (n : ℕ) (reply : _) (lines : List EngineLine) → SaysFew (Ev.Give message) (did home past message tid n reply lines)
  unfolding did
  few_did home past tid n reply lines = one _ (omega arith)

  few_unknown : (home : Home) (past : SitePast) (tid : Tid) (n : ℕ) → SaysFew (Ev.Give message) (unknown home past message tid n)
  unfolding unknown
  few_unknown home past tid n = few_did home past tid n _ _

  few_repeated : (home : Home) (past : SitePast) (tid : Tid) (n : ℕ) (run : Run) → SaysFew (Ev.Give message) (repeated home past message tid n run)
  unfolding repeated
  few_repeated home past tid n run = few_when _ _ _ _ (few_did home past tid n _ _) (few_unknown home past tid n)

  few_work_live : (home : Home) (past : SitePast) (tid : Tid) (e n : ℕ) (act : PlainAct) (run : Run) → SaysFew (Ev.Give message) (work_live home past message tid e n act run)
  unfolding work_live next_work
  few_work_live home past tid e n act run =
      few_when _ _ _ _ (few_unknown home past tid n) (few_when _ _ _ _ (few_did home past tid n _ _) (few_repeated home past tid n run))

  few_take_live : (home : Home) (past : SitePast) (tid : Tid) (e n : ℕ) (run : Run) → SaysFew (Ev.Give message) (take_live home past message tid e n run)
  unfolding take_live next_take
  few_take_live home past tid e n run =
      few_when _ _ _ _ (few_unknown home past tid n) (few_when _ _ _ _ (few_did home past tid n _ _) (few_repeated home past tid n run))

  few_first : (home : Home) (past : SitePast) (tid : Tid) (n : ℕ) (act : PlainAct) → SaysFew (Ev.Give message) (first_work home past message tid n act)
  unfolding first_work
  few_first home past tid n act = few_did home past tid n _ _

few_work : (home : Home) (past : SitePast) (tid : Tid) (e n : ℕ) (act : PlainAct) → SaysFew (Ev.Give (To.Work tid e n act)) (of_work home past tid e n act)
unfolding of_work
few_work home past tid e n act =
    let m = To.Work tid e n act in
    few_when _ _ _ _ (few_unknown m home past tid n)
    (few_given _ _ _ _ (few_when _ _ _ _ (few_first m home past tid n act) (few_unknown m home past tid n)) (λ run. few_work_live m home past tid e n act run))

few_take : (home : Home) (past : SitePast) (tid : Tid) (e n : ℕ) → SaysFew (Ev.Give (To.Take tid e n)) (of_take home past tid e n)
unfolding of_take
few_take home past tid e n =
    let m = To.Take tid e n in
    few_when _ _ _ _ (few_unknown m home past tid n) (few_given _ _ _ _ (few_unknown m home past tid n) (λ run. few_take_live m home past tid e n run))

few_no : (tid : Tid) (e n : ℕ) (why : Option Why) (lines : List EngineLine) → SaysFew (Ev.Give (To.Prepare tid e n)) (votes_no tid e n why lines)
unfolding votes_no
few_no tid e n why lines = one _ _ (omega arith)

few_again : (tid : Tid) (e n : ℕ) (held : Held) → SaysFew (Ev.Give (To.Prepare tid e n)) (votes_again tid e n held)
unfolding votes_again
few_again tid e n held = one _ _ (omega arith)

few_yes : (home : Home) (past : SitePast) (tid : Tid) (e n : ℕ) (run : Run) (ticket : ℕ) → SaysFew (Ev.Give (To.Prepare tid e n)) (votes_yes home past tid e n run ticket)
unfolding votes_yes
few_yes home past tid e n run ticket = one _ _ (omega arith)

few_prepare : (home : Home) (past : SitePast) (tid : Tid) (e n : ℕ) → SaysFew (Ev.Give (To.Prepare tid e n)) (of_prepare home past tid e n)
unfolding of_prepare prepare_live seals_global
few_prepare home past tid e n =
    few_given _ _ _ _
    (few_given _ _ _ _ (few_no tid e n _ _)
    (λ run. few_when _ _ _ _
    (few_given _ _ _ _ (few_no tid e n _ _) (λ ticket. few_given _ _ _ _ (few_yes home past tid e n run ticket) (λ why. few_no tid e n _ _)))
    (few_no tid e n _ _)))
    (λ held. few_when _ _ _ _ (few_again tid e n held) (few_no tid e n _ _))

few_ack : (home : Home) (tid : Tid) (decision : Decision) → length (ack_of home tid decision) ≤ 1
few_ack home tid decision = by_test (acks home.protocol decision)
  where
    by_test : (b : Bool) → length (cond b (From.Ack tid ∷ []) []) ≤ 1
    by_test true = omega arith
    by_test false = omega arith

few_decide : (home : Home) (past : SitePast) (tid : Tid) (decision : Decision) → SaysFew (Ev.Give (To.Decide tid decision)) (of_decide home past tid decision)
unfolding of_decide settles unheld
few_decide home past tid decision =
    let h = few_ack home tid decision in
    few_given _ _ _ _ (few_given _ _ _ _ (one _ _ h) (λ run. one _ _ h)) (λ held. one _ _ h)

few_give : (home : Home) (past : SitePast) (message : ToSite) → SaysFew (Ev.Give message) (of_give home past message)
unfolding of_give
few_give home past (To.Work tid e n act) = few_work home past tid e n act
few_give home past (To.Take tid e n) = few_take home past tid e n
few_give home past (To.Prepare tid e n) = few_prepare home past tid e n
few_give home past (To.Decide tid decision) = few_decide home past tid decision

few_ask : (home : Home) (past : SitePast) (tid : Tid) → SaysFew (Ev.Ask tid) (of_ask home past tid)
unfolding of_ask
few_ask home past tid = few_given _ _ _ _ (still _ _ refl) (λ held. record { few = omega arith; silent = λ no. absurd (no tt) })

few_begin : (home : Home) (past : SitePast) (tid : Tid) → SaysFew (Ev.Begin tid) (of_begin home past tid)
unfolding of_begin
few_begin home past tid = few_given _ _ _ _ (few_given _ _ _ _ (still _ _ refl) (λ r. still _ _ refl)) (λ t. still _ _ refl)

few_act : (home : Home) (past : SitePast) (tid : Tid) (act : PlainAct) → SaysFew (Ev.Act tid act) (of_act home past tid act)
unfolding of_act
few_act home past tid act = few_given _ _ _ _ (still _ _ refl) (λ r. still _ _ refl)

few_commit : (home : Home) (past : SitePast) (tid : Tid) → SaysFew (Ev.Commit tid) (of_commit home past tid)
unfolding of_commit seals_local
few_commit home past tid = few_given _ _ _ _ (still _ _ refl) (λ r. few_given _ _ _ _ (still _ _ refl) (λ why. still _ _ refl))

few_abort : (home : Home) (past : SitePast) (tid : Tid) → SaysFew (Ev.Abort tid) (of_abort home past tid)
unfolding of_abort
few_abort home past tid = few_given _ _ _ _ (still _ _ refl) (λ r. still _ _ refl)

few_fate : (home : Home) (past : SitePast) (tx : Tx) → SaysFew (Ev.Fate tx) (of_fate home past tx)
unfolding of_fate
few_fate home past tx = few_given _ _ _ _ (few_given _ _ _ _ (still _ _ refl) (λ r. still _ _ refl)) (λ t. still _ _ refl)

few_drop : (home : Home) (past : SitePast) (tid : Tid) → SaysFew (Ev.Drop tid) (of_drop home past tid)
unfolding of_drop
few_drop home past tid = few_when _ _ _ _ (still _ _ refl) (few_given _ _ _ _ (still _ _ refl) (λ r. still _ _ refl))

few_check : (home : Home) (past : SitePast) → SaysFew Ev.Check (of_check home past)
unfolding of_check
few_check home past = few_when _ _ _ _ (still _ _ refl) (still _ _ refl)

few_up : (home : Home) (past : SitePast) (event : SiteEvent) (x : SiteHappening) → SaysFew event x
    → SaysFew event (when (is_down past) (record { event = event; answer = Say.Down; sends = []; calls = []; lines = [] }) (unless_tripped home past x))
few_up home past event x s = few_when event _ _ _ (still event _ refl) (few_tripped event (disk home past) (trip past) x s)

pub says_few : (home : Home) (past : SitePast) (event : SiteEvent) → SaysFew event (site_line home past event)
unfolding site_line answered of_back stopped
says_few home past (Ev.Begin tid) = few_up home past _ _ (few_begin home past tid)
says_few home past (Ev.Act tid act) = few_up home past _ _ (few_act home past tid act)
says_few home past (Ev.Commit tid) = few_up home past _ _ (few_commit home past tid)
says_few home past (Ev.Abort tid) = few_up home past _ _ (few_abort home past tid)
says_few home past (Ev.Fate tx) = few_up home past _ _ (few_fate home past tx)
says_few home past (Ev.Give message) = few_up home past _ _ (few_give home past message)
says_few home past (Ev.Ask tid) = few_up home past _ _ (few_ask home past tid)
says_few home past (Ev.Drop tid) = few_up home past _ _ (few_drop home past tid)
says_few home past (Ev.Halt cut) = few_when _ _ _ _ (still _ _ refl) (still _ _ refl)
says_few home past (Ev.Trip calls cut) = still _ _ refl
says_few home past Ev.Back = few_when _ _ _ _ (few_tripped _ (disk home past) (trip past) _ (still _ _ refl)) (still _ _ refl)
says_few home past Ev.Check = few_up home past _ _ (few_check home past)

pub own_events_silent : OwnEventsSendNothing
own_events_silent home past event never = (says_few home past event).silent never

pub sites_few : SitesSendFew
sites_few home past event = (says_few home past event).few
