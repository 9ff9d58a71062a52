-- How a book that notes a past goes on: behind a line of an attempt, and at a start.
use Rattle.std.proofs.Common.{◌≡◌, ℕ, ◌≤◌, ◌⊎◌, ◌||◌, ◌&&◌, Bool, true, false, cond, is_some, IsSome, Option, Some, None, List, ◌∷◌, ◌++◌, length, inl, inr, refl, sym, ap, ap₂, ◌∙◌, subst}
use Rattle.std.specs.Ordering.{eq_by_cmp}
use Rattle.std.specs.FinMap.{empty, get, get-empty}
use Rattle.std.proofs.lemmas.Bool.{cond-true, cond-false, and_parts}
use Rattle.mdb_base.specs.declared.names.Tid.{Tid}
use Rattle.mdb_base.specs.declared.names.Tx.{Tx}
use Rattle.mdb_base.specs.Names.{same_tid, same_tx, tid_cmp, tx_cmp}
use Rattle.mdb_base.proofs.ForCallers.{not_both as differ, same_tid-equal, same_tid-refl, same_tid-sym, same_tx-equal, same_tx-refl}
use Rattle.fed_rules.specs.Runs.{Start, EngineLine, Begins, Acts, Takes, Seals, Refuses, Commits, Aborts, Run, gives_up, run_at, tid_of}
use Rattle.fed_rules.specs.SitePast.{SiteHappening, SitePast, ends, live_one}
use Rattle.site_book.specs.declared.progress.Progress.{Progress}
use Rattle.site_book.specs.declared.progress.Progress.TheVariants as Is
use Rattle.site_book.specs.declared.progress.Standing.{Standing}
use Rattle.site_book.specs.declared.progress.Standing.TheVariants as Has
use Rattle.site_book.specs.Noted.{fresh}
use Rattle.site_book.specs.Book.{Book, Counts, Standings, begins_local, closes, committed_in, committed_part, commits_local, counted, count_of, live_in, live_part, not_running, progress_of, restarted, running_in, running_part, runs, standing_of}
use Rattle.site_book.specs.Follows.{Follows, progress_by}
use Rattle.site_core.specs.Order.{IsInOrder}
use Rattle.site_book.proofs.ForCallers.{get-gone_tx, get-put_tid, get-put_tx, no_live-doubtful, none_running-committed}
use Rattle.site_core.specs.Made.{begins_tid, is_of_global, was_begun, was_global}
use Rattle.site_core.specs.Notes.{Notes}

some_tid : (a b : Tid) → ◌≡◌ {A = Option Tid} (Some a) (Some b) → a ≡ b
some_tid a b e = cc

none_some : (b : Tid) → ◌≡◌ {A = Option Tid} None (Some b) → ⊥
none_some b e = cc

-- an attempt of a local transaction begins
pub order_begins : (book : Book) (tid : Tid) → IsInOrder book → ((u : Tid) → IsSome (live_in book u) → same_tx tid.tx u.tx ≡ false) → IsInOrder (begins_local tid book)
order_begins book tid o alone = record {
  own = (λ tx t e. own tx t (same_tx tid.tx tx) refl (sym (at tx) ∙ e));
  live = (λ tx t e. live tx t (same_tx tid.tx tx) refl (sym (at tx) ∙ e));
  running = (λ u lives again. running u (same_tid tid u) refl lives again);
  counted = (λ tx t e. counted_so tx t (same_tx tid.tx tx) refl (sym (at tx) ∙ e));
} where
  at : (tx : Tx) → running_in (begins_local tid book) tx ≡ running_part (cond (same_tx tid.tx tx) (Some (Has.Running tid)) (get book.locals tx))
  at tx = ap running_part (get-put_tx book.locals tid.tx tx (Has.Running tid))

  own : (tx : Tx) (t : Tid) (b : Bool) → same_tx tid.tx tx ≡ b → running_part (cond (same_tx tid.tx tx) (Some (Has.Running tid)) (get book.locals tx)) ≡ Some t → t.tx ≡ tx
  own tx t true e r =
      let is : tid ≡ t = some_tid tid t (sym (ap running_part (cond-true _ _ _ e)) ∙ r) in
      ap (λ (x : Tid). x.tx) (sym is) ∙ same_tx-equal tid.tx tx e
  own tx t false e r = o.own tx t (sym (ap running_part (cond-false _ _ _ e)) ∙ r)

  lives_now : (t : Tid) (b : Bool) → same_tid tid t ≡ b → IsSome (live_in book t) → IsSome (live_in (begins_local tid book) t)
  lives_now t true e l = ap (λ (p : Option Progress). is_some (live_part p)) (get-put_tid book.attempts tid t (Is.Live fresh) ∙ cond-true _ _ _ e)
  lives_now t false e l = ap (λ (p : Option Progress). is_some (live_part p)) (get-put_tid book.attempts tid t (Is.Live fresh) ∙ cond-false _ _ _ e) ∙ l

  live : (tx : Tx) (t : Tid) (b : Bool) → same_tx tid.tx tx ≡ b → running_part (cond (same_tx tid.tx tx) (Some (Has.Running tid)) (get book.locals tx)) ≡ Some t → IsSome (live_in (begins_local tid book) t)
  live tx t true e r =
      let is : tid ≡ t = some_tid tid t (sym (ap running_part (cond-true _ _ _ e)) ∙ r) in
      let own_one : IsSome (live_in (begins_local tid book) tid) = ap (λ (p : Option Progress). is_some (live_part p)) (get-put_tid book.attempts tid tid (Is.Live fresh) ∙ cond-true _ _ _ (same_tid-refl tid)) in
      subst (λ (x : Tid). IsSome (live_in (begins_local tid book) x)) is own_one
  live tx t false e r = lives_now t (same_tid tid t) refl (o.live tx t (sym (ap running_part (cond-false _ _ _ e)) ∙ r))

  running : (u : Tid) (b : Bool) → same_tid tid u ≡ b → IsSome (live_in (begins_local tid book) u) → IsSome (get (begins_local tid book).again u.tx) → running_in (begins_local tid book) u.tx ≡ Some u
  running u true e lives again =
      let is = same_tid-equal tid u e in
      let mine : running_in (begins_local tid book) tid.tx ≡ Some tid = at tid.tx ∙ ap running_part (cond-true _ _ _ (same_tx-refl tid.tx)) in
      subst (λ (x : Tid). running_in (begins_local tid book) x.tx ≡ Some x) is mine
  running u false e lives again =
      let old : IsSome (live_in book u) = sym (ap (λ (p : Option Progress). is_some (live_part p)) (get-put_tid book.attempts tid u (Is.Live fresh) ∙ cond-false _ _ _ e)) ∙ lives in
      let other = alone u old in
      let counted_old : IsSome (get book.again u.tx) = sym (ap is_some (get-put_tx book.again tid.tx u.tx (count_of (get book.again tid.tx)) ∙ cond-false _ _ _ other)) ∙ again in
      at u.tx ∙ ap running_part (cond-false _ _ _ other) ∙ o.running u old counted_old

  counted_so : (tx : Tx) (t : Tid) (b : Bool) → same_tx tid.tx tx ≡ b → running_part (cond (same_tx tid.tx tx) (Some (Has.Running tid)) (get book.locals tx)) ≡ Some t → IsSome (get (begins_local tid book).again tx)
  counted_so tx t true e r = ap is_some (get-put_tx book.again tid.tx tx (count_of (get book.again tid.tx)) ∙ cond-true _ _ _ e)
  counted_so tx t false e r =
      let old = o.counted tx t (sym (ap running_part (cond-false _ _ _ e)) ∙ r) in
      ap is_some (get-put_tx book.again tid.tx tx (count_of (get book.again tid.tx)) ∙ cond-false _ _ _ e) ∙ old

-- the same attempts are live, and nothing else changes
pub order_changed : (old new : Book) → new.locals ≡ old.locals → new.again ≡ old.again → ((u : Tid) → is_some (live_in new u) ≡ is_some (live_in old u)) → IsInOrder old → IsInOrder new
order_changed old new locals again live o =
    let at : (tx : Tx) → running_in new tx ≡ running_in old tx = λ tx. ap (λ (l : Standings). running_part (get l tx)) locals in
    record {
      own = (λ tx t e. o.own tx t (sym (at tx) ∙ e));
      live = (λ tx t e. live t ∙ o.live tx t (sym (at tx) ∙ e));
      running = (λ u lives there. at u.tx ∙ o.running u (sym (live u) ∙ lives) (sym (ap (λ (c : Counts). is_some (get c u.tx)) again) ∙ there));
      counted = (λ tx t e. ap (λ (c : Counts). is_some (get c tx)) again ∙ o.counted tx t (sym (at tx) ∙ e));
    }

-- an attempt is closed
module _ (book : Book) (tid : Tid) (o : IsInOrder book) where
  at_closes : (t : Bool) → runs tid (get book.locals tid.tx) ≡ t → (tx : Tx) → get (closes tid book).locals tx ≡ cond t (cond (same_tx tid.tx tx) None (get book.locals tx)) (get book.locals tx)
  at_closes true e tx = ap (λ (l : Standings). get l tx) (cond-true _ _ _ e) ∙ get-gone_tx book.locals tid.tx tx
  at_closes false e tx = ap (λ (l : Standings). get l tx) (cond-false _ _ _ e)

  -- whose running attempt is this one
  runs_it : (s : Option Standing) → runs tid s ≡ true → running_part s ≡ Some tid
  runs_it None e = cc
  runs_it (Some (Has.Running other)) e = ap (λ (t : Tid). Some t) (same_tid-equal other tid e)
  runs_it (Some (Has.Committed other)) e = cc

  runs_other : (s : Option Standing) (t : Tid) → runs tid s ≡ false → running_part s ≡ Some t → same_tid t tid ≡ false
  runs_other None t e r = absurd (none_some t r)
  runs_other (Some (Has.Running other)) t e r = ap (λ (x : Tid). same_tid x tid) (sym (some_tid other t r)) ∙ e
  runs_other (Some (Has.Committed other)) t e r = absurd (none_some t r)

  not_both : (t : Tid) (tx : Tx) → t.tx ≡ tx → same_tx tid.tx tx ≡ false → same_tid t tid ≡ false
  not_both t tx own other = by_test (same_tid t tid) refl where
    by_test : (b : Bool) → same_tid t tid ≡ b → same_tid t tid ≡ false
    by_test false e = e
    by_test true e =
        let is = same_tid-equal t tid e in
        let same : same_tx tid.tx tx ≡ true = ap (same_tx tid.tx) (sym own ∙ ap (λ (x : Tid). x.tx) is) ∙ same_tx-refl tid.tx in
        absurd (differ _ same other)

  -- who runs then ran before, and is another one
  ran_before : (tx : Tx) (t : Tid) → running_in (closes tid book) tx ≡ Some t → (running_in book tx ≡ Some t) × (same_tid t tid ≡ false)
  ran_before tx t r = by_runs (runs tid (get book.locals tid.tx)) refl where
    by_runs : (b : Bool) → runs tid (get book.locals tid.tx) ≡ b → (running_in book tx ≡ Some t) × (same_tid t tid ≡ false)
    by_runs true e = by_tx (same_tx tid.tx tx) refl (sym (ap running_part (at_closes true e tx)) ∙ r) where
      by_tx : (b : Bool) → same_tx tid.tx tx ≡ b → running_part (cond (same_tx tid.tx tx) None (get book.locals tx)) ≡ Some t → (running_in book tx ≡ Some t) × (same_tid t tid ≡ false)
      by_tx true f s = absurd (none_some t (sym (ap running_part (cond-true _ _ _ f)) ∙ s))
      by_tx false f s = let old = sym (ap running_part (cond-false _ _ _ f)) ∙ s in (old, not_both t tx (o.own tx t old) f)
    by_runs false e =
        let old : running_in book tx ≡ Some t = sym (ap running_part (at_closes false e tx)) ∙ r in
        let own = o.own tx t old in
        let there : running_part (get book.locals t.tx) ≡ Some t = ap (λ (x : Tx). running_in book x) own ∙ old in
        (old, by_same (same_tid t tid) refl there)
      where
        by_same : (b : Bool) → same_tid t tid ≡ b → running_part (get book.locals t.tx) ≡ Some t → same_tid t tid ≡ false
        by_same false f there = f
        by_same true f there =
            let is = same_tid-equal t tid f in
            runs_other (get book.locals tid.tx) t e (ap (λ (x : Tid). running_part (get book.locals x.tx)) (sym is) ∙ there)

  -- who ran before and is another one runs then
  runs_still : (u : Tid) → running_in book u.tx ≡ Some u → same_tid u tid ≡ false → running_in (closes tid book) u.tx ≡ Some u
  runs_still u r other = by_runs (runs tid (get book.locals tid.tx)) refl where
    by_runs : (b : Bool) → runs tid (get book.locals tid.tx) ≡ b → running_in (closes tid book) u.tx ≡ Some u
    by_runs false e = ap running_part (at_closes false e u.tx) ∙ r
    by_runs true e = ap running_part (at_closes true e u.tx) ∙ by_tx (same_tx tid.tx u.tx) refl where
      by_tx : (b : Bool) → same_tx tid.tx u.tx ≡ b → running_part (cond (same_tx tid.tx u.tx) None (get book.locals u.tx)) ≡ Some u
      by_tx false f = ap running_part (cond-false _ _ _ f) ∙ r
      by_tx true f =
          let there : running_in book u.tx ≡ Some tid = ap (running_in book) (sym (same_tx-equal tid.tx u.tx f)) ∙ runs_it (get book.locals tid.tx) e in
          let same : u ≡ tid = some_tid u tid (sym r ∙ there) in
          let both : same_tid u tid ≡ true = ap (λ (x : Tid). same_tid x tid) same ∙ same_tid-refl tid in
          absurd (differ _ both other)

  live_closes : (u : Tid) (b : Bool) → same_tid tid u ≡ b → live_in (closes tid book) u ≡ cond b None (live_in book u)
  live_closes u true e = ap live_part (get-put_tid book.attempts tid u Is.Closed ∙ cond-true _ _ _ e)
  live_closes u false e = ap live_part (get-put_tid book.attempts tid u Is.Closed ∙ cond-false _ _ _ e)

  pub order_closes : IsInOrder (closes tid book)
  order_closes = record {
    own = (λ tx t e. o.own tx t (ran_before tx t e).0);
    live =
        (λ tx t e.
        let (old, other) = ran_before tx t e in
        ap is_some (live_closes t false (same_tid-sym tid t ∙ other)) ∙ o.live tx t old);
    running = (λ u lives again. running u (same_tid tid u) refl lives again);
    counted = (λ tx t e. o.counted tx t (ran_before tx t e).0);
  } where
    running : (u : Tid) (b : Bool) → same_tid tid u ≡ b → IsSome (live_in (closes tid book) u) → IsSome (get book.again u.tx) → running_in (closes tid book) u.tx ≡ Some u
    running u true e lives again = absurd (differ (is_some (live_in (closes tid book) u)) lives (ap is_some (live_closes u true e)))
    running u false e lives again = runs_still u (o.running u (sym (ap is_some (live_closes u false e)) ∙ lives) again) (same_tid-sym u tid ∙ e)

  pub committed_closes : (tx : Tx) → committed_in (closes tid book) tx ≡ committed_in book tx
  committed_closes tx = by_runs (runs tid (get book.locals tid.tx)) refl where
    not_committed : (s : Option Standing) → runs tid s ≡ true → committed_part s ≡ None
    not_committed None e = refl
    not_committed (Some (Has.Running other)) e = refl
    not_committed (Some (Has.Committed other)) e = cc

    by_runs : (b : Bool) → runs tid (get book.locals tid.tx) ≡ b → committed_in (closes tid book) tx ≡ committed_in book tx
    by_runs false e = ap committed_part (at_closes false e tx)
    by_runs true e = ap committed_part (at_closes true e tx) ∙ by_tx (same_tx tid.tx tx) refl where
      by_tx : (b : Bool) → same_tx tid.tx tx ≡ b → committed_part (cond (same_tx tid.tx tx) None (get book.locals tx)) ≡ committed_in book tx
      by_tx false f = ap committed_part (cond-false _ _ _ f)
      by_tx true f =
          ap committed_part (cond-true _ _ _ f) ∙ sym (ap (λ (x : Tx). committed_part (get book.locals x)) (sym (same_tx-equal tid.tx tx f)) ∙ not_committed (get book.locals tid.tx) e)

-- the running attempt of a local transaction is committed
module _ (book : Book) (tid : Tid) (o : IsInOrder book) (mine : running_in book tid.tx ≡ Some tid) where
  at_commits : (tx : Tx) → get (commits_local tid book).locals tx ≡ cond (same_tx tid.tx tx) (Some (Has.Committed tid)) (get book.locals tx)
  at_commits tx = get-put_tx book.locals tid.tx tx (Has.Committed tid)

  live_commits : (u : Tid) (b : Bool) → same_tid tid u ≡ b → live_in (commits_local tid book) u ≡ cond b None (live_in book u)
  live_commits u true e = ap live_part (get-put_tid book.attempts tid u Is.Closed ∙ cond-true _ _ _ e)
  live_commits u false e = ap live_part (get-put_tid book.attempts tid u Is.Closed ∙ cond-false _ _ _ e)

  ran : (tx : Tx) (t : Tid) → running_in (commits_local tid book) tx ≡ Some t → (running_in book tx ≡ Some t) × (same_tx tid.tx tx ≡ false)
  ran tx t r = by_tx (same_tx tid.tx tx) refl (sym (ap running_part (at_commits tx)) ∙ r) where
    by_tx : (b : Bool) → same_tx tid.tx tx ≡ b → running_part (cond (same_tx tid.tx tx) (Some (Has.Committed tid)) (get book.locals tx)) ≡ Some t → (running_in book tx ≡ Some t) × (same_tx tid.tx tx ≡ false)
    by_tx true f s = absurd (none_some t (sym (ap running_part (cond-true _ _ _ f)) ∙ s))
    by_tx false f s = (sym (ap running_part (cond-false _ _ _ f)) ∙ s, f)

  pub order_commits : IsInOrder (commits_local tid book)
  order_commits = record {
    own = (λ tx t e. o.own tx t (ran tx t e).0);
    live =
        (λ tx t e.
        let (old, other) = ran tx t e in
        ap is_some (live_commits t false (same_tid-sym tid t ∙ not_both book tid o t tx (o.own tx t old) other)) ∙ o.live tx t old);
    running = (λ u lives again. running u (same_tid tid u) refl lives again);
    counted = (λ tx t e. o.counted tx t (ran tx t e).0);
  } where
    running : (u : Tid) (b : Bool) → same_tid tid u ≡ b → IsSome (live_in (commits_local tid book) u) → IsSome (get book.again u.tx) → running_in (commits_local tid book) u.tx ≡ Some u
    running u true e lives again = absurd (differ (is_some (live_in (commits_local tid book) u)) lives (ap is_some (live_commits u true e)))
    running u false e lives again = ap running_part (at_commits u.tx) ∙ by_tx (same_tx tid.tx u.tx) refl where
      old : running_in book u.tx ≡ Some u
      old = o.running u (sym (ap is_some (live_commits u false e)) ∙ lives) again

      by_tx : (b : Bool) → same_tx tid.tx u.tx ≡ b → running_part (cond (same_tx tid.tx u.tx) (Some (Has.Committed tid)) (get book.locals u.tx)) ≡ Some u
      by_tx false f = ap running_part (cond-false _ _ _ f) ∙ old
      by_tx true f =
          let there : running_in book u.tx ≡ Some tid = ap (running_in book) (sym (same_tx-equal tid.tx u.tx f)) ∙ mine in
          let same : tid ≡ u = some_tid tid u (sym there ∙ old) in
          let both : same_tid tid u ≡ true = ap (same_tid tid) (sym same) ∙ same_tid-refl tid in
          absurd (differ _ both e)

  pub committed_commits : (tx : Tx) → committed_in (commits_local tid book) tx ≡ cond (same_tx tid.tx tx) (Some tid) (committed_in book tx)
  committed_commits tx = ap committed_part (at_commits tx) ∙ by_tx (same_tx tid.tx tx) where
    by_tx : (b : Bool) → committed_part (cond b (Some (Has.Committed tid)) (get book.locals tx)) ≡ cond b (Some tid) (committed_in book tx)
    by_tx true = refl
    by_tx false = refl

pub committed_begins : (book : Book) (tid : Tid) (tx : Tx) → standing_of book tid.tx ≡ None → committed_in (begins_local tid book) tx ≡ committed_in book tx
committed_begins book tid tx idle = ap committed_part (get-put_tx book.locals tid.tx tx (Has.Running tid)) ∙ by_tx (same_tx tid.tx tx) refl where
  by_tx : (b : Bool) → same_tx tid.tx tx ≡ b → committed_part (cond (same_tx tid.tx tx) (Some (Has.Running tid)) (get book.locals tx)) ≡ committed_in book tx
  by_tx true e = ap committed_part (cond-true _ _ _ e) ∙ sym (ap (λ (x : Tx). committed_in book x) (sym (same_tx-equal tid.tx tx e)) ∙ ap committed_part idle)
  by_tx false e = ap committed_part (cond-false _ _ _ e)

-- who neither runs nor is committed stands in no way
pub stands_not : (book : Book) (tx : Tx) → running_in book tx ≡ None → committed_in book tx ≡ None → standing_of book tx ≡ None
stands_not book tx r c = from (standing_of book tx) r c where
  from : (s : Option Standing) → running_part s ≡ None → committed_part s ≡ None → s ≡ None
  from None r c = refl
  from (Some (Has.Running tid)) r c = cc
  from (Some (Has.Committed tid)) r c = cc

-- a line ends none but the run of its attempt
pub ends_its_own : (line : EngineLine) (u : Tid) → same_tid (tid_of line) u ≡ false → ends u line ≡ false
ends_its_own line u other = from line other where
  and_right : (a b : Bool) → b ≡ false → (a && b) ≡ false
  and_right true b e = e
  and_right false b e = refl

  from : (line : EngineLine) → same_tid (tid_of line) u ≡ false → ends u line ≡ false
  from (Begins tid n) e = refl
  from (Acts tid act reply) e = and_right (gives_up (Acts tid act reply)) _ e
  from (Takes tid reply) e = and_right (gives_up (Takes tid reply)) _ e
  from (Seals tid n) e = refl
  from (Refuses tid why) e = e
  from (Commits tid) e = e
  from (Aborts tid) e = e

-- what was known of a past is known behind a further line
pub begun_before : (x : SiteHappening) (past : SitePast) (u : Tid) → was_begun u past ≡ true → was_begun u (x ∷ past) ≡ true
begun_before x past u e = from (begins_tid u x.answer) where
  from : (b : Bool) → (b || was_begun u past) ≡ true
  from true = refl
  from false = e

pub global_before : (x : SiteHappening) (past : SitePast) (tx : Tx) → was_global tx past ≡ true → was_global tx (x ∷ past) ≡ true
global_before x past tx e = from (is_of_global tx x.event) where
  from : (b : Bool) → (b || was_global tx past) ≡ true
  from true = refl
  from false = e

abbrev pub IsKnown : Tid → SitePast → Type 0
IsKnown u past = (was_begun u past ≡ true) ⊎ (was_global u.tx past ≡ true)

pub known_before : (x : SiteHappening) (past : SitePast) (u : Tid) → IsKnown u past → IsKnown u (x ∷ past)
known_before x past u (inl e) = inl (begun_before x past u e)
known_before x past u (inr e) = inr (global_before x past u.tx e)

-- behind lines of one attempt
pub notes_change : (old new : Book) (start : Start) (lines newer : List EngineLine) (closed closed' : Tid → Bool) (committed committed' : Tx → Option Tid) (past : SitePast) (x : SiteHappening) (tid : Tid)
    → Notes old start lines closed committed past → Follows new start newer closed' → IsInOrder new → ((tx : Tx) → committed_in new tx ≡ committed' tx)
    → ((u : Tid) → same_tid tid u ≡ false → run_at start newer u ≡ run_at start lines u) → ((u : Tid) → same_tid tid u ≡ false → closed' u ≡ closed u)
    → IsKnown tid (x ∷ past) → ((run : Run) → live_one (run_at start newer tid) ≡ Some run → length run.acts ≤ 32)
    → Notes new start newer closed' committed' (x ∷ past)
notes_change old new start lines newer closed closed' committed committed' past x tid n follows order is others_run others_closed own few = record {
  follows = follows;
  order = order;
  committed_is = is;
  known = (λ u at. known u (same_tid tid u) refl at);
  few = (λ u run at. small u run (same_tid tid u) refl at);
} where
  known : (u : Tid) (b : Bool) → same_tid tid u ≡ b → (closed' u ≡ true) ⊎ (is_some (live_one (run_at start newer u)) ≡ true) → IsKnown u (x ∷ past)
  known u true e at = subst (λ (t : Tid). IsKnown t (x ∷ past)) (same_tid-equal tid u e) own
  known u false e (inl c) = known_before x past u (n.known u (inl (sym (others_closed u e) ∙ c)))
  known u false e (inr l) = known_before x past u (n.known u (inr (sym (ap (λ (o : Option Run). is_some (live_one o)) (others_run u e)) ∙ l)))

  small : (u : Tid) (run : Run) (b : Bool) → same_tid tid u ≡ b → live_one (run_at start newer u) ≡ Some run → length run.acts ≤ 32
  small u run true e at = few run (ap (λ (t : Tid). live_one (run_at start newer t)) (same_tid-equal tid u e) ∙ at)
  small u run false e at = n.few u run (sym (ap live_one (others_run u e)) ∙ at)

-- behind a line that changes nothing of this
pub notes_same : (book : Book) (start start' : Start) (lines lines' : List EngineLine) (closed closed' : Tid → Bool) (committed committed' : Tx → Option Tid) (past : SitePast) (x : SiteHappening)
    → Notes book start lines closed committed past → start' ≡ start → lines' ≡ lines → ((u : Tid) → closed' u ≡ closed u) → ((tx : Tx) → committed' tx ≡ committed tx)
    → Notes book start' lines' closed' committed' (x ∷ past)
notes_same book start start' lines lines' closed closed' committed committed' past x n same_start same_lines same_closed same_committed =
    let same_run : (u : Tid) → run_at start' lines' u ≡ run_at start lines u = λ u. ap₂ (λ (s : Start) (l : List EngineLine). run_at s l u) same_start same_lines in
    record {
      follows = record { attempts = (λ u. n.follows.attempts u ∙ sym (ap₂ (λ (o : Option Run) (c : Bool). progress_by o c) (same_run u) (same_closed u))) };
      order = n.order;
      committed_is = (λ tx. n.committed_is tx ∙ sym (same_committed tx));
      known = (λ u at. known_before x past u (known u at));
      few = (λ u run at. n.few u run (sym (ap live_one (same_run u)) ∙ at));
    } where
      known : (u : Tid) → (closed' u ≡ true) ⊎ (is_some (live_one (run_at start' lines' u)) ≡ true) → IsKnown u past
      known u (inl c) = n.known u (inl (sym (same_closed u) ∙ c))
      known u (inr l) = n.known u (inr (sym (ap₂ (λ (s : Start) (ls : List EngineLine). is_some (live_one (run_at s ls u))) same_start same_lines) ∙ l))

pub order_restarted : (committed doubtful : List Tid) (old : Book) → IsInOrder (restarted committed doubtful old)
order_restarted committed doubtful old =
    let none_runs : (tx : Tx) → running_in (restarted committed doubtful old) tx ≡ None = λ tx. none_running-committed committed empty tx (ap running_part (get-empty tx_cmp tx)) in
    let none_lives : (u : Tid) → live_in (restarted committed doubtful old) u ≡ None = λ u. no_live-doubtful doubtful empty u (ap live_part (get-empty tid_cmp u)) in
    record {
      own = (λ tx t e. absurd (none_some t (sym (none_runs tx) ∙ e)));
      live = (λ tx t e. absurd (none_some t (sym (none_runs tx) ∙ e)));
      running = (λ u lives again. absurd (differ (is_some (live_in (restarted committed doubtful old) u)) lives (ap is_some (none_lives u))));
      counted = (λ tx t e. absurd (none_some t (sym (none_runs tx) ∙ e)));
    }
