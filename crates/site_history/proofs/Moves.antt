-- What a line of a site does to its disk and to its engine, where the events are sorted.
use Rattle.std.proofs.Common.{◌≡◌, ℕ, ◌+◌, Bool, true, false, cond, not, ◌&&◌, ◌||◌, Option, Some, None, List, [], ◌∷◌, refl, ap, eqb-true}
use Rattle.std.specs.Prelude.{◌==◌, nat_lt}
use Rattle.std.proofs.lemmas.Bool.{and_parts}
use Rattle.mdb_base.specs.declared.acts.PlainAct.{PlainAct}
use Rattle.mdb_base.specs.declared.names.Tid.{Tid}
use Rattle.mdb_base.specs.declared.names.Tx.{Tx}
use Rattle.mdb_base.specs.declared.replies.Reply.{Reply}
use Rattle.mdb_base.specs.Words.{when, given}
use Rattle.presumptions.specs.declared.Decision.{Decision}
use Rattle.presumptions.specs.Table.{forces}
use Rattle.fed_rules.specs.declared.events.SiteEvent.{SiteEvent}
use Rattle.fed_rules.specs.declared.events.SiteEvent.TheVariants as Ev
use Rattle.fed_rules.specs.declared.messages.ToSite.{ToSite}
use Rattle.fed_rules.specs.declared.messages.ToSite.TheVariants as To
use Rattle.fed_rules.specs.declared.records.SiteRecord.{SiteRecord}
use Rattle.fed_rules.specs.declared.records.SiteRecord.TheVariants as Rec
use Rattle.fed_rules.specs.Disk.{Call, Append, Sync, TrimFront}
use Rattle.fed_rules.specs.Runs.{EngineLine, Begins, Acts, Takes, Seals, Refuses, Commits, Aborts, Run, has_ticket, puts_of, tid_of}
use Rattle.fed_rules.specs.Site.{answered, did, done, first_work, is_of_epoch, is_over, next_number, next_take, next_work, number_of, of_abort, of_act, of_ask, of_begin, of_commit, of_decide, of_drop, of_fate, of_give, of_prepare, of_take, of_work, prepare_live, repeated, seals_global, seals_local, settles, settling_line, stop_of, take_live, unheld, unknown, votes_again, votes_no, votes_yes, work_live, of_check}
use Rattle.fed_rules.specs.SitePast.{SiteHappening, SitePast, epoch, is_local, live, live_of_tx, records, run_of}
use Rattle.fed_rules.specs.SiteRecords.{Home, Held, doubt_of, local_of}
use Rattle.site_history.specs.Events.{IsFresh, IsSorted}
use Rattle.site_history.proofs.Agreement.{IsKept, IsLiveHere, free_here, live_here}
use Rattle.site_history.proofs.LocalLines.{begin_free}
use Rattle.site_history.proofs.MessageLines.{not_over}
use Rattle.site_history.proofs.RightLines.{is_back}
use Rattle.fed_rules.specs.declared.sums.SiteSum.{SiteSum}
use Rattle.fed_rules.specs.SiteSums.{site_sum}

-- a line of a live run that neither begins nor seals nor commits it; only others than local attempts take tickets
abbrev pub IsCalm : (Tx → Bool) → EngineLine → Type 0
IsCalm local (Acts tid act reply) = Unit {0}
IsCalm local (Takes tid reply) = local tid.tx ≡ false
IsCalm local (Refuses tid why) = Unit {0}
IsCalm local (Aborts tid) = Unit {0}
IsCalm local line = ⊥

-- the calls only sync
abbrev pub OnlySyncs : List (Call SiteRecord) → Type 0
OnlySyncs [] = Unit {0}
OnlySyncs (Sync ∷ calls) = OnlySyncs calls
OnlySyncs (TrimFront ∷ calls) = OnlySyncs calls
OnlySyncs (call ∷ calls) = ⊥

-- and trim nothing
abbrev pub JustSyncs : List (Call SiteRecord) → Type 0
JustSyncs [] = Unit {0}
JustSyncs (Sync ∷ calls) = JustSyncs calls
JustSyncs (call ∷ calls) = ⊥

-- the disk calls and engine lines of one line of a site that is up
pub data Moves (home : Home) (past : SitePast) (local : Tx → Bool) (event : SiteEvent) : List (Call SiteRecord) → List EngineLine → Type 0 where
  rests : Moves home past local event [] []
  begins_local : {tid : Tid} → local tid.tx ≡ true → local_of (records home past) tid.tx ≡ None → run_of home past tid ≡ None
      → Moves home past local event [] (Begins tid (next_number home past) ∷ [])
  begins_work : {tid : Tid} {act : PlainAct} {reply : Reply} → local tid.tx ≡ false → run_of home past tid ≡ None → is_over home past tid ≡ false
      → Moves home past local event [] (Acts tid act reply ∷ Begins tid (next_number home past) ∷ [])
  goes_on : {line : EngineLine} (run : Run) → IsLiveHere home past (tid_of line) run → IsCalm local line
      → Moves home past local event [] (line ∷ [])
  commits_local : {tid : Tid} (run : Run) → local tid.tx ≡ true → IsLiveHere home past tid run
      → Moves home past local event (Append (Rec.Local tid (number_of home past run) (puts_of run.acts)) ∷ Sync ∷ [])
      (Commits tid ∷ Seals tid (number_of home past run) ∷ [])
  prepares_run : {tid : Tid} {ticket : ℕ} (n : ℕ) (run : Run) → event ≡ Ev.Give (To.Prepare tid (epoch home past) n) → local tid.tx ≡ false
      → IsLiveHere home past tid run → run.ticket ≡ Some ticket
      → Moves home past local event (Append (Rec.Prepared tid (epoch home past) (number_of home past run) ticket (puts_of run.acts)) ∷ Sync ∷ [])
      (Seals tid (number_of home past run) ∷ [])
  settles_held : {tid : Tid} {decision : Decision} {rest : List (Call SiteRecord)} (held : Held)
      → doubt_of (records home past) tid ≡ Some held → OnlySyncs rest → JustSyncs rest
      → Moves home past local event (Append (Rec.Ended tid decision) ∷ rest) (settling_line tid decision ∷ [])
  checks_sum : {sum : SiteSum} → sum ≡ site_sum home (records home past) → Moves home past local event (Append (Rec.Checkpoint sum) ∷ Sync ∷ TrimFront ∷ []) []

pub record IsMove (home : Home) (past : SitePast) (local : Tx → Bool) (event : SiteEvent) (x : SiteHappening) : Type 0 where
  pub moves : Moves home past local event x.calls x.lines

move_when : (home : Home) (past : SitePast) (local : Tx → Bool) (event : SiteEvent) (b : Bool) (x y : SiteHappening)
    → (b ≡ true → IsMove home past local event x)
    → (b ≡ false → IsMove home past local event y) → IsMove home past local event (when b x y)
unfolding when
move_when home past local event true x y p q = p refl
move_when home past local event false x y p q = q refl

move_given : {A : Type 0} (home : Home) (past : SitePast) (local : Tx → Bool) (event : SiteEvent) (o : Option A) (none : SiteHappening) (some : A → SiteHappening)
    → (o ≡ None → IsMove home past local event none) → ((a : A) → o ≡ Some a → IsMove home past local event (some a))
    → IsMove home past local event (given o some none)
unfolding given
move_given home past local event None none some p q = p refl
move_given home past local event (Some a) none some p q = q a refl

move_begin : (home : Home) (past : SitePast) (local : Tx → Bool) (event : SiteEvent) (tid : Tid) → IsKept home past → local tid.tx ≡ true
    → doubt_of (records home past) tid ≡ None → IsMove home past local event (of_begin home past tid)
unfolding of_begin
move_begin home past local event tid k mine fresh =
    move_given home past local event (local_of (records home past) tid.tx) _ _
    (λ free. move_given home past local event (live_of_tx home past tid.tx) _ _
    (λ none. record { moves = begins_local mine free (begin_free home past tid k none fresh) })
    (λ running e. record { moves = rests }))
    (λ committed e. record { moves = rests })

move_act : (home : Home) (past : SitePast) (local : Tx → Bool) (event : SiteEvent) (tid : Tid) (act : PlainAct) → IsKept home past
    → IsMove home past local event (of_act home past tid act)
unfolding of_act
move_act home past local event tid act k =
    move_given home past local event (live home past tid) _ _ (λ e. record { moves = rests })
    (λ run e. record { moves = goes_on run (live_here home past tid run k e) tt })

move_commit : (home : Home) (past : SitePast) (local : Tx → Bool) (event : SiteEvent) (tid : Tid) → IsKept home past → local tid.tx ≡ true
    → IsMove home past local event (of_commit home past tid)
unfolding of_commit seals_local
move_commit home past local event tid k mine =
    move_given home past local event (live home past tid) _ _ (λ e. record { moves = rests })
    (λ run e. move_given home past local event (stop_of home past run) _ _
    (λ free. record { moves = commits_local run mine (live_here home past tid run k e) })
    (λ why stop. record { moves = goes_on run (live_here home past tid run k e) tt }))

move_abort : (home : Home) (past : SitePast) (local : Tx → Bool) (event : SiteEvent) (tid : Tid) → IsKept home past
    → IsMove home past local event (of_abort home past tid)
unfolding of_abort
move_abort home past local event tid k =
    move_given home past local event (live home past tid) _ _ (λ e. record { moves = rests })
    (λ run e. record { moves = goes_on run (live_here home past tid run k e) tt })

move_fate : (home : Home) (past : SitePast) (local : Tx → Bool) (event : SiteEvent) (tx : Tx) → IsMove home past local event (of_fate home past tx)
unfolding of_fate
move_fate home past local event tx =
    move_given home past local event (local_of (records home past) tx) _ _
    (λ e. move_given home past local event (live_of_tx home past tx) _ _ (λ f. record { moves = rests }) (λ running f. record { moves = rests }))
    (λ committed e. record { moves = rests })

move_ask : (home : Home) (past : SitePast) (local : Tx → Bool) (event : SiteEvent) (tid : Tid) → IsMove home past local event (of_ask home past tid)
unfolding of_ask
move_ask home past local event tid =
    move_given home past local event (doubt_of (records home past) tid) _ _ (λ e. record { moves = rests }) (λ held e. record { moves = rests })

move_drop : (home : Home) (past : SitePast) (local : Tx → Bool) (event : SiteEvent) (tid : Tid) → IsKept home past
    → IsMove home past local event (of_drop home past tid)
unfolding of_drop
move_drop home past local event tid k =
    move_when home past local event (is_local past tid) _ _ (λ e. record { moves = rests })
    (λ e. move_given home past local event (live home past tid) _ _ (λ f. record { moves = rests })
    (λ run f. record { moves = goes_on run (live_here home past tid run k f) tt }))

move_unknown : (home : Home) (past : SitePast) (local : Tx → Bool) (event : SiteEvent) (message : ToSite) (tid : Tid) (n : ℕ)
    → IsMove home past local event (unknown home past message tid n)
unfolding unknown did
move_unknown home past local event message tid n = record { moves = rests }

move_repeated : (home : Home) (past : SitePast) (local : Tx → Bool) (event : SiteEvent) (message : ToSite) (tid : Tid) (n : ℕ) (run : Run)
    → IsMove home past local event (repeated home past message tid n run)
unfolding repeated did
move_repeated home past local event message tid n run =
    move_when home past local event (n + 1 == done run) _ _ (λ e. record { moves = rests }) (λ e. move_unknown home past local event message tid n)

move_next_work : (home : Home) (past : SitePast) (local : Tx → Bool) (event : SiteEvent) (message : ToSite) (tid : Tid) (n : ℕ) (act : PlainAct) (run : Run)
    → IsLiveHere home past tid run → IsMove home past local event (next_work home past message tid n act run)
unfolding next_work did
move_next_work home past local event message tid n act run here = record { moves = goes_on run here tt }

move_work_live : (home : Home) (past : SitePast) (local : Tx → Bool) (event : SiteEvent) (message : ToSite) (tid : Tid) (e n : ℕ) (act : PlainAct) (run : Run)
    → IsLiveHere home past tid run → IsMove home past local event (work_live home past message tid e n act run)
unfolding work_live
move_work_live home past local event message tid e n act run here =
    move_when home past local event (not (is_of_epoch home past e n) || has_ticket run || nat_lt 31 n) _ _
    (λ q. move_unknown home past local event message tid n)
    (λ q. move_when home past local event (n == done run) _ _ (λ r. move_next_work home past local event message tid n act run here)
    (λ r. move_repeated home past local event message tid n run))

move_first_work : (home : Home) (past : SitePast) (local : Tx → Bool) (event : SiteEvent) (message : ToSite) (tid : Tid) (n : ℕ) (act : PlainAct)
    → local tid.tx ≡ false → run_of home past tid ≡ None → is_over home past tid ≡ false
    → IsMove home past local event (first_work home past message tid n act)
unfolding first_work did
move_first_work home past local event message tid n act others free fresh = record { moves = begins_work others free fresh }

move_work : (home : Home) (past : SitePast) (local : Tx → Bool) (event : SiteEvent) (tid : Tid) (e n : ℕ) (act : PlainAct) → IsKept home past
    → local tid.tx ≡ false → IsMove home past local event (of_work home past tid e n act)
unfolding of_work
move_work home past local event tid e n act k others =
    let message = To.Work tid e n act in
    move_when home past local event (is_over home past tid) _ _ (λ q. move_unknown home past local event message tid n)
    (λ fresh. move_given home past local event (live home past tid) _ _
    (λ none. move_when home past local event ((e == 0) && (n == 0)) _ _
    (λ q. move_first_work home past local event message tid n act others
    (free_here home past tid k none (not_over home past tid fresh)) fresh)
    (λ q. move_unknown home past local event message tid n))
    (λ run at. move_work_live home past local event message tid e n act run (live_here home past tid run k at)))

move_next_take : (home : Home) (past : SitePast) (local : Tx → Bool) (event : SiteEvent) (message : ToSite) (tid : Tid) (n : ℕ) (run : Run)
    → IsLiveHere home past tid run → local tid.tx ≡ false → IsMove home past local event (next_take home past message tid n run)
unfolding next_take did
move_next_take home past local event message tid n run here others = record { moves = goes_on run here others }

move_take_live : (home : Home) (past : SitePast) (local : Tx → Bool) (event : SiteEvent) (message : ToSite) (tid : Tid) (e n : ℕ) (run : Run)
    → IsLiveHere home past tid run → local tid.tx ≡ false → IsMove home past local event (take_live home past message tid e n run)
unfolding take_live
move_take_live home past local event message tid e n run here others =
    move_when home past local event (not (is_of_epoch home past e n) || (has_ticket run && (n == done run))) _ _
    (λ q. move_unknown home past local event message tid n)
    (λ q. move_when home past local event (n == done run) _ _ (λ r. move_next_take home past local event message tid n run here others)
    (λ r. move_repeated home past local event message tid n run))

move_take : (home : Home) (past : SitePast) (local : Tx → Bool) (event : SiteEvent) (tid : Tid) (e n : ℕ) → IsKept home past → local tid.tx ≡ false
    → IsMove home past local event (of_take home past tid e n)
unfolding of_take
move_take home past local event tid e n k others =
    let message = To.Take tid e n in
    move_when home past local event (is_over home past tid) _ _ (λ q. move_unknown home past local event message tid n)
    (λ fresh. move_given home past local event (live home past tid) _ _ (λ none. move_unknown home past local event message tid n)
    (λ run at. move_take_live home past local event message tid e n run (live_here home past tid run k at) others))

move_seals : (home : Home) (past : SitePast) (local : Tx → Bool) (tid : Tid) (e n : ℕ) (run : Run) (ticket : ℕ)
    → e ≡ epoch home past → local tid.tx ≡ false → IsLiveHere home past tid run → run.ticket ≡ Some ticket
    → IsMove home past local (Ev.Give (To.Prepare tid e n)) (seals_global home past tid e n run ticket)
unfolding seals_global votes_yes votes_no
move_seals home past local tid e n run ticket now others here took =
    move_given home past local (Ev.Give (To.Prepare tid e n)) (stop_of home past run) _ _
    (λ free. record { moves = prepares_run n run (ap (λ c. Ev.Give (To.Prepare tid c n)) now) others here took })
    (λ why stop. record { moves = goes_on run here tt })

move_prepare_live : (home : Home) (past : SitePast) (local : Tx → Bool) (tid : Tid) (e n : ℕ) (run : Run) → local tid.tx ≡ false
    → IsLiveHere home past tid run
    → IsMove home past local (Ev.Give (To.Prepare tid e n)) (prepare_live home past tid e n run)
unfolding prepare_live votes_no
move_prepare_live home past local tid e n run others here =
    move_when home past local (Ev.Give (To.Prepare tid e n)) ((e == epoch home past) && (n == done run)) _ _
    (λ q. move_given home past local (Ev.Give (To.Prepare tid e n)) run.ticket _ _ (λ none. record { moves = rests })
    (λ ticket took. move_seals home past local tid e n run ticket
    (eqb-true e (epoch home past) (and_parts (e == epoch home past) (n == done run) q).0) others here took))
    (λ q. record { moves = rests })

move_prepare : (home : Home) (past : SitePast) (local : Tx → Bool) (tid : Tid) (e n : ℕ) → IsKept home past → local tid.tx ≡ false
    → IsMove home past local (Ev.Give (To.Prepare tid e n)) (of_prepare home past tid e n)
unfolding of_prepare votes_again votes_no
move_prepare home past local tid e n k others =
    move_given home past local (Ev.Give (To.Prepare tid e n)) (doubt_of (records home past) tid) _ _
    (λ none. move_given home past local (Ev.Give (To.Prepare tid e n)) (live home past tid) _ _ (λ q. record { moves = rests })
    (λ run at. move_prepare_live home past local tid e n run others (live_here home past tid run k at)))
    (λ held at. move_when home past local (Ev.Give (To.Prepare tid e n)) (held.epoch == e) _ _ (λ q. record { moves = rests }) (λ q. record { moves = rests }))

move_settles : (home : Home) (past : SitePast) (local : Tx → Bool) (event : SiteEvent) (tid : Tid) (decision : Decision) (held : Held)
    → doubt_of (records home past) tid ≡ Some held → IsMove home past local event (settles home tid decision)
unfolding settles
move_settles home past local event tid decision held at = record { moves = settles_held held at (by_forces (forces home.protocol decision)) (by_just (forces home.protocol decision)) }
  where
    by_just : (b : Bool) → JustSyncs (cond b (Sync ∷ []) [])
    by_just true = tt
    by_just false = tt

    by_forces : (b : Bool) → OnlySyncs (cond b (Sync ∷ []) [])
    by_forces true = tt
    by_forces false = tt

move_decide : (home : Home) (past : SitePast) (local : Tx → Bool) (event : SiteEvent) (tid : Tid) (decision : Decision) → IsKept home past
    → IsMove home past local event (of_decide home past tid decision)
unfolding of_decide unheld
move_decide home past local event tid decision k =
    move_given home past local event (doubt_of (records home past) tid) _ _
    (λ none. move_given home past local event (live home past tid) _ _ (λ q. record { moves = rests })
    (λ run at. record { moves = goes_on run (live_here home past tid run k at) tt }))
    (λ held at. move_settles home past local event tid decision held at)

move_give : (home : Home) (past : SitePast) (local : Tx → Bool) (message : ToSite) → IsKept home past → IsSorted local (Ev.Give message)
    → IsMove home past local (Ev.Give message) (of_give home past message)
unfolding of_give
move_give home past local (To.Work tid e n act) k sorted = move_work home past local (Ev.Give (To.Work tid e n act)) tid e n act k sorted
move_give home past local (To.Take tid e n) k sorted = move_take home past local (Ev.Give (To.Take tid e n)) tid e n k sorted
move_give home past local (To.Prepare tid e n) k sorted = move_prepare home past local tid e n k sorted
move_give home past local (To.Decide tid decision) k sorted = move_decide home past local (Ev.Give (To.Decide tid decision)) tid decision k

move_check : (home : Home) (past : SitePast) (local : Tx → Bool) (event : SiteEvent) → IsMove home past local event (of_check home past)
unfolding of_check
move_check home past local event = move_when home past local event _ _ _ (λ q. record { moves = rests }) (λ q. record { moves = checks_sum refl })

-- what a site that is up answers, but for its start
pub move_answered : (home : Home) (past : SitePast) (local : Tx → Bool) (event : SiteEvent) → IsKept home past → IsSorted local event
    → IsFresh home past event → is_back event ≡ false → IsMove home past local event (answered home past event)
unfolding answered
move_answered home past local (Ev.Begin tid) k sorted fresh b = move_begin home past local (Ev.Begin tid) tid k sorted fresh
move_answered home past local (Ev.Act tid act) k sorted fresh b = move_act home past local (Ev.Act tid act) tid act k
move_answered home past local (Ev.Commit tid) k sorted fresh b = move_commit home past local (Ev.Commit tid) tid k sorted
move_answered home past local (Ev.Abort tid) k sorted fresh b = move_abort home past local (Ev.Abort tid) tid k
move_answered home past local (Ev.Fate tx) k sorted fresh b = move_fate home past local (Ev.Fate tx) tx
move_answered home past local (Ev.Give message) k sorted fresh b = move_give home past local message k sorted
move_answered home past local (Ev.Ask tid) k sorted fresh b = move_ask home past local (Ev.Ask tid) tid
move_answered home past local (Ev.Drop tid) k sorted fresh b = move_drop home past local (Ev.Drop tid) tid k
move_answered home past local (Ev.Halt cut) k sorted fresh b = record { moves = rests }
move_answered home past local (Ev.Trip calls cut) k sorted fresh b = record { moves = rests }
move_answered home past local Ev.Back k sorted fresh b = cc
move_answered home past local Ev.Check k sorted fresh b = move_check home past local Ev.Check
