-- What a line of a site adds to the attempts of its epoch: none, or the next attempt of a local transaction, or one that isn't closed.
use Rattle.std.proofs.Common.{◌≡◌, ◌==◌, ◌&&◌, ◌||◌, ◌++◌, ℕ, ◌+◌, Bool, true, false, cond, not, nat_le, nat_lt, Option, Some, None, List, [], ◌∷◌, length, refl}
use Rattle.mdb_base.specs.declared.acts.PlainAct.{PlainAct}
use Rattle.mdb_base.specs.declared.names.Tid.{Tid}
use Rattle.mdb_base.specs.declared.names.Tx.{Tx}
use Rattle.mdb_base.specs.declared.replies.Reply.{Reply}
use Rattle.mdb_base.specs.Words.{when, given}
use Rattle.presumptions.specs.declared.Decision.{Decision}
use Rattle.presumptions.specs.declared.Decision.TheVariants as Decided
use Rattle.fed_rules.specs.declared.answers.Answer.{Answer}
use Rattle.fed_rules.specs.declared.answers.Answer.TheVariants as Say
use Rattle.fed_rules.specs.declared.events.SiteEvent.{SiteEvent}
use Rattle.fed_rules.specs.declared.events.SiteEvent.TheVariants as Ev
use Rattle.fed_rules.specs.declared.messages.ToSite.{ToSite}
use Rattle.fed_rules.specs.declared.messages.ToSite.TheVariants as To
use Rattle.fed_rules.specs.Happenings.{Trip, is_down, stops, comes_up, stopped, tripped, quiet}
use Rattle.fed_rules.specs.Runs.{Start, EngineLine, Begins, Acts, Run, attempts, has_ticket}
use Rattle.fed_rules.specs.Site.{answered, did, done, first_work, is_of_epoch, is_over, next_number, next_take, next_work, of_abort, of_act, of_ask, of_back, of_begin, of_check, of_commit, of_decide, of_drop, of_fate, of_give, of_prepare, of_take, of_work, prepare_live, repeated, reply_to, seals_global, seals_local, settles, site_line, stop_of, take_live, unheld, unknown, unless_tripped, votes_again, votes_no, votes_yes, work_live}
use Rattle.fed_rules.specs.SitePast.{SiteHappening, SitePast, attempts_of, disk, is_closed, is_local, live, live_of_tx, records, run_of, trip}
use Rattle.fed_rules.specs.SiteRecords.{Home, doubt_of, local_of, site_frame}
use Rattle.site_history.specs.Events.{IsSorted}
use Rattle.site_history.proofs.ForCallers.{IsKept, acts_about, free_here, not_over, refused_about}

-- the line neither stops the site nor starts it
pub record IsPlain (x : SiteHappening) : Type 0 where
  pub goes : stops x.answer ≡ false
  pub stays : comes_up x.answer ≡ false

-- what a line adds to the attempts of the epoch
pub data Growth (home : Home) (past : SitePast) (local : Tx → Bool) (x : SiteHappening) : Type 0 where
  Renews : (stops x.answer || comes_up x.answer) ≡ true → Growth home past local x
  Stays : IsPlain x → ((start : Start) (older : List EngineLine) → attempts start (x.lines ++ older) ≡ attempts start older) → Growth home past local x
  Next : IsPlain x → (tid : Tid) (n : ℕ) → x.lines ≡ Begins tid n ∷ [] → local tid.tx ≡ true → tid.attempt ≡ attempts_of past tid.tx → x.answer ≡ Say.Begun tid → Growth home past local x
  First : IsPlain x → (tid : Tid) (act : PlainAct) (reply : Reply) (n : ℕ) → x.lines ≡ Acts tid act reply ∷ Begins tid n ∷ [] → local tid.tx ≡ false → is_closed past tid ≡ false
      → run_of home past tid ≡ None → Growth home past local x

-- an attempt that begins as a local one is the next of its transaction
abbrev pub IsNumbered : SitePast → SiteEvent → Type 0
IsNumbered past (Ev.Begin tid) = tid.attempt ≡ attempts_of past tid.tx
IsNumbered past event = Unit {0}

open_parts : (a b : Bool) → (a || b) ≡ false → a ≡ false
open_parts true b e = cc
open_parts false b e = refl

module _ (home : Home) (past : SitePast) (local : Tx → Bool) where
  at_when : (b : Bool) (x y : SiteHappening) → (b ≡ true → Growth home past local x) → (b ≡ false → Growth home past local y) → Growth home past local (when b x y)
  unfolding when
  at_when true x y p q = p refl
  at_when false x y p q = q refl

  at_given : {A : Type 0} (o : Option A) (none : SiteHappening) (some : A → SiteHappening) → (o ≡ None → Growth home past local none)
      → ((a : A) → o ≡ Some a → Growth home past local (some a)) → Growth home past local (given o some none)
  unfolding given
  at_given None none some p q = p refl
  at_given (Some a) none some p q = q a refl

  by_quiet : (event : SiteEvent) (answer : Answer) → stops answer ≡ false → comes_up answer ≡ false → Growth home past local (quiet event answer)
  by_quiet event answer goes stays = Stays (record { goes = goes; stays = stays }) (λ start older. refl)

  same : {x : SiteHappening} → stops x.answer ≡ false → comes_up x.answer ≡ false → ((start : Start) (older : List EngineLine) → attempts start (x.lines ++ older) ≡ attempts start older)
      → Growth home past local x
  same goes stays f = Stays (record { goes = goes; stays = stays }) f

  by_begin : (tid : Tid) → local tid.tx ≡ true → tid.attempt ≡ attempts_of past tid.tx → Growth home past local (of_begin home past tid)
  unfolding of_begin
  by_begin tid mine next =
      at_given (local_of (records home past) tid.tx) _ _
      (λ free. at_given (live_of_tx home past tid.tx) _ _ (λ none. Next (record { goes = refl; stays = refl }) tid (next_number home past) refl mine next refl) (λ running e. by_quiet _ _ refl refl))
      (λ committed e. by_quiet _ _ refl refl)

  by_act : (tid : Tid) (act : PlainAct) → Growth home past local (of_act home past tid act)
  unfolding of_act
  by_act tid act =
      at_given (live home past tid) _ _ (λ e. by_quiet _ _ refl refl)
      (λ run e. same (acts_about tid (reply_to home past run act) act).stays (acts_about tid (reply_to home past run act) act).up (λ start older. refl))

  by_commit : (tid : Tid) → Growth home past local (of_commit home past tid)
  unfolding of_commit seals_local
  by_commit tid =
      at_given (live home past tid) _ _ (λ e. by_quiet _ _ refl refl)
      (λ run e. at_given (stop_of home past run) _ _ (λ free. same refl refl (λ start older. refl))
      (λ why f. same (refused_about tid why).stays (refused_about tid why).up (λ start older. refl)))

  by_abort : (tid : Tid) → Growth home past local (of_abort home past tid)
  unfolding of_abort
  by_abort tid = at_given (live home past tid) _ _ (λ e. by_quiet _ _ refl refl) (λ run e. same refl refl (λ start older. refl))

  by_fate : (tx : Tx) → Growth home past local (of_fate home past tx)
  unfolding of_fate
  by_fate tx =
      at_given (local_of (records home past) tx) _ _
      (λ e. at_given (live_of_tx home past tx) _ _ (λ f. by_count (attempts_of past tx == 0)) (λ running f. by_quiet _ _ refl refl))
      (λ committed e. by_quiet _ _ refl refl)
    where
      by_count : (b : Bool) → Growth home past local (quiet (Ev.Fate tx) (cond b Say.Unbegun Say.Ended))
      by_count true = by_quiet _ _ refl refl
      by_count false = by_quiet _ _ refl refl

  by_ask : (tid : Tid) → Growth home past local (of_ask home past tid)
  unfolding of_ask
  by_ask tid = at_given (doubt_of (records home past) tid) _ _ (λ e. by_quiet _ _ refl refl) (λ held e. same refl refl (λ start older. refl))

  by_drop : (tid : Tid) → Growth home past local (of_drop home past tid)
  unfolding of_drop
  by_drop tid =
      at_when (is_local past tid) _ _ (λ e. by_quiet _ _ refl refl)
      (λ e. at_given (live home past tid) _ _ (λ f. by_quiet _ _ refl refl) (λ run f. same refl refl (λ start older. refl)))

  by_check : Growth home past local (of_check home past)
  unfolding of_check
  by_check = at_when _ _ _ (λ e. by_quiet _ _ refl refl) (λ e. same refl refl (λ start older. refl))

  by_unknown : (message : ToSite) (tid : Tid) (n : ℕ) → Growth home past local (unknown home past message tid n)
  unfolding unknown did
  by_unknown message tid n = same refl refl (λ start older. refl)

  by_repeated : (message : ToSite) (tid : Tid) (n : ℕ) (run : Run) → Growth home past local (repeated home past message tid n run)
  unfolding repeated did
  by_repeated message tid n run = at_when (n + 1 == done run) _ _ (λ e. same refl refl (λ start older. refl)) (λ e. by_unknown message tid n)

  by_next_work : (message : ToSite) (tid : Tid) (n : ℕ) (act : PlainAct) (run : Run) → Growth home past local (next_work home past message tid n act run)
  unfolding next_work did
  by_next_work message tid n act run = same refl refl (λ start older. refl)

  by_work_live : (message : ToSite) (tid : Tid) (e n : ℕ) (act : PlainAct) (run : Run) → Growth home past local (work_live home past message tid e n act run)
  unfolding work_live
  by_work_live message tid e n act run =
      at_when (not (is_of_epoch home past e n) || has_ticket run || nat_lt 31 n) _ _ (λ q. by_unknown message tid n)
      (λ q. at_when (n == done run) _ _ (λ r. by_next_work message tid n act run) (λ r. by_repeated message tid n run))

  by_first_work : (message : ToSite) (tid : Tid) (n : ℕ) (act : PlainAct) → local tid.tx ≡ false → run_of home past tid ≡ None → is_over home past tid ≡ false
      → Growth home past local (first_work home past message tid n act)
  unfolding first_work did
  by_first_work message tid n act others free fresh = First (record { goes = refl; stays = refl }) tid act _ (next_number home past) refl others (open_parts _ _ fresh) free

  by_work : (tid : Tid) (e n : ℕ) (act : PlainAct) → IsKept home past → local tid.tx ≡ false → Growth home past local (of_work home past tid e n act)
  unfolding of_work
  by_work tid e n act k others =
      let message = To.Work tid e n act in
      at_when (is_over home past tid) _ _ (λ q. by_unknown message tid n)
      (λ fresh. at_given (live home past tid) _ _
      (λ none. at_when ((e == 0) && (n == 0)) _ _
      (λ q. by_first_work message tid n act others (free_here home past tid k none (not_over home past tid fresh)) fresh)
      (λ q. by_unknown message tid n))
      (λ run at. by_work_live message tid e n act run))

  by_next_take : (message : ToSite) (tid : Tid) (n : ℕ) (run : Run) → Growth home past local (next_take home past message tid n run)
  unfolding next_take did
  by_next_take message tid n run = same refl refl (λ start older. refl)

  by_take_live : (message : ToSite) (tid : Tid) (e n : ℕ) (run : Run) → Growth home past local (take_live home past message tid e n run)
  unfolding take_live
  by_take_live message tid e n run =
      at_when (not (is_of_epoch home past e n) || (has_ticket run && (n == done run))) _ _ (λ q. by_unknown message tid n)
      (λ q. at_when (n == done run) _ _ (λ r. by_next_take message tid n run) (λ r. by_repeated message tid n run))

  by_take : (tid : Tid) (e n : ℕ) → Growth home past local (of_take home past tid e n)
  unfolding of_take
  by_take tid e n =
      let message = To.Take tid e n in
      at_when (is_over home past tid) _ _ (λ q. by_unknown message tid n)
      (λ fresh. at_given (live home past tid) _ _ (λ none. by_unknown message tid n) (λ run at. by_take_live message tid e n run))

  by_seals : (tid : Tid) (e n : ℕ) (run : Run) (ticket : ℕ) → Growth home past local (seals_global home past tid e n run ticket)
  unfolding seals_global votes_yes votes_no
  by_seals tid e n run ticket =
      at_given (stop_of home past run) _ _ (λ free. same refl refl (λ start older. refl)) (λ why f. same refl refl (λ start older. refl))

  by_prepare_live : (tid : Tid) (e n : ℕ) (run : Run) → Growth home past local (prepare_live home past tid e n run)
  unfolding prepare_live votes_no
  by_prepare_live tid e n run =
      at_when _ _ _ (λ q. at_given run.ticket _ _ (λ none. same refl refl (λ start older. refl)) (λ ticket took. by_seals tid e n run ticket))
      (λ q. same refl refl (λ start older. refl))

  by_prepare : (tid : Tid) (e n : ℕ) → Growth home past local (of_prepare home past tid e n)
  unfolding of_prepare votes_again votes_no
  by_prepare tid e n =
      at_given (doubt_of (records home past) tid) _ _
      (λ none. at_given (live home past tid) _ _ (λ q. same refl refl (λ start older. refl)) (λ run at. by_prepare_live tid e n run))
      (λ held at. at_when (held.epoch == e) _ _ (λ q. same refl refl (λ start older. refl)) (λ q. same refl refl (λ start older. refl)))

  by_settles : (tid : Tid) (decision : Decision) → Growth home past local (settles home tid decision)
  unfolding settles
  by_settles tid Decided.Commit = same refl refl (λ start older. refl)
  by_settles tid Decided.Abort = same refl refl (λ start older. refl)

  by_decide : (tid : Tid) (decision : Decision) → Growth home past local (of_decide home past tid decision)
  unfolding of_decide unheld
  by_decide tid decision =
      at_given (doubt_of (records home past) tid) _ _
      (λ none. at_given (live home past tid) _ _ (λ q. same refl refl (λ start older. refl)) (λ run at. same refl refl (λ start older. refl)))
      (λ held at. by_settles tid decision)

  by_give : (message : ToSite) → IsKept home past → IsSorted local (Ev.Give message) → Growth home past local (of_give home past message)
  unfolding of_give
  by_give (To.Work tid e n act) k sorted = by_work tid e n act k sorted
  by_give (To.Take tid e n) k sorted = by_take tid e n
  by_give (To.Prepare tid e n) k sorted = by_prepare tid e n
  by_give (To.Decide tid decision) k sorted = by_decide tid decision

  -- a line that may be tripped is itself, or it stops the site
  by_trip : (x : SiteHappening) (armed : Option Trip) → Growth home past local x → Growth home past local (tripped site_frame (disk home past) armed x)
  unfolding tripped stopped
  by_trip x None d = d
  by_trip x (Some t) d = at_when (nat_le t.calls (length x.calls)) _ _ (λ e. Renews refl) (λ e. d)

  by_here : (event : SiteEvent) (x : SiteHappening) → Growth home past local x → Growth home past local (when (is_down past) (quiet event Say.Down) (unless_tripped home past x))
  by_here event x d = at_when (is_down past) _ _ (λ e. by_quiet _ _ refl refl) (λ e. by_trip x (trip past) d)

  -- the next line of the site
  pub line_grows : (event : SiteEvent) → IsKept home past → IsSorted local event → IsNumbered past event → Growth home past local (site_line home past event)
  unfolding site_line answered stopped of_back
  line_grows (Ev.Begin tid) k sorted next = by_here (Ev.Begin tid) (of_begin home past tid) (by_begin tid sorted next)
  line_grows (Ev.Act tid act) k sorted next = by_here (Ev.Act tid act) (of_act home past tid act) (by_act tid act)
  line_grows (Ev.Commit tid) k sorted next = by_here (Ev.Commit tid) (of_commit home past tid) (by_commit tid)
  line_grows (Ev.Abort tid) k sorted next = by_here (Ev.Abort tid) (of_abort home past tid) (by_abort tid)
  line_grows (Ev.Fate tx) k sorted next = by_here (Ev.Fate tx) (of_fate home past tx) (by_fate tx)
  line_grows (Ev.Give message) k sorted next = by_here (Ev.Give message) (of_give home past message) (by_give message k sorted)
  line_grows (Ev.Ask tid) k sorted next = by_here (Ev.Ask tid) (of_ask home past tid) (by_ask tid)
  line_grows (Ev.Drop tid) k sorted next = by_here (Ev.Drop tid) (of_drop home past tid) (by_drop tid)
  line_grows (Ev.Halt cut) k sorted next = at_when (is_down past) _ _ (λ e. by_quiet _ _ refl refl) (λ e. Renews refl)
  line_grows (Ev.Trip calls cut) k sorted next = by_quiet _ _ refl refl
  line_grows Ev.Back k sorted next = at_when (is_down past) _ _ (λ e. by_trip (of_back home past) (trip past) (Renews refl)) (λ e. by_quiet _ _ refl refl)
  line_grows Ev.Check k sorted next = by_here Ev.Check (of_check home past) by_check
