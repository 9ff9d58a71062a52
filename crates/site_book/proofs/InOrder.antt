-- Each call that may come keeps the running attempts those that are live, and the rules find the same ones.
use Rattle.std.proofs.Common.{◌≡◌, Bool, true, false, ◌||◌, ◌&&◌, cond, not, is_some, Option, Some, None, List, [], ◌∷◌, refl, sym, ap, ◌∙◌, inl, inr}
use Rattle.std.specs.FinMap.{empty, get, insert, get-empty}
use Rattle.std.proofs.lemmas.Bool.{cond-false, and_parts, and_from}
use Rattle.mdb_base.specs.declared.names.Tid.{Tid}
use Rattle.mdb_base.specs.declared.names.Tx.{Tx}
use Rattle.mdb_base.specs.Names.{same_tid, same_tx, tid_cmp, tx_cmp}
use Rattle.mdb_base.specs.Words.{Among, found, first_where, map_some, with_some}
use Rattle.mdb_base.proofs.ForCallers.{is_some-true, nothing_is, same_tid-equal, same_tid-refl, same_tx-equal, same_tx-refl}
use Rattle.fed_rules.specs.Runs.{Run, attempts, is_sealed, run_at, unended}
use Rattle.engine_laws.proofs.ForCallers.{attempts_have, tid_is}
use Rattle.site_book.specs.declared.progress.Progress.{Progress}
use Rattle.site_book.specs.declared.progress.Progress.TheVariants as Is
use Rattle.site_book.specs.declared.progress.Standing.{Standing}
use Rattle.site_book.specs.declared.progress.Standing.TheVariants as Has
use Rattle.site_book.specs.Noted.{Noted, fresh, noted_of}
use Rattle.site_book.specs.Book.{Book, Attempts, Standings, progress_of, live_part, live_in, standing_of, running_part, running_in, on_live, replied, taken, refuses, runs, enters, closes, changes_live, begins_local, commits_local, stopped, restarted, with_doubtful, with_committed}
use Rattle.site_book.specs.Follows.{IsInOrder, progress_by}
use Rattle.site_book.specs.Calls.{Begin_global, Begin_local, Note_reply, Note_take, Seal, Close, Close_unheld, Commit_local, Stop, Restart, NoneLives, OrdersWell, NoneRunning, RunsWell}
use Rattle.site_book.proofs.Followed.{get-put_tid, get-changed_tid, live_of, progress_live}
use Rattle.site_book.proofs.Ordered.{get-put_tx, of_other, standing-not_running}

live-put : (book : Book) (t u : Tid) (p : Progress) → live_in (enters t p book) u ≡ cond (same_tid t u) (live_part (Some p)) (live_in book u)
live-put book t u p = ap live_part (get-put_tid book.attempts t u p) ∙ by_test (same_tid t u)
  where
    by_test : (b : Bool) → live_part (cond b (Some p) (progress_of book u)) ≡ cond b (live_part (Some p)) (live_part (progress_of book u))
    by_test true = refl
    by_test false = refl

-- where the local transactions stand as they stood and the same attempts are live, the order stays
order_same : (local : Tx → Bool) (old new : Book) → IsInOrder local old → ((u : Tid) → local u.tx ≡ true → is_some (live_in new u) ≡ is_some (live_in old u)) → new.locals ≡ old.locals → IsInOrder local new
order_same local old new order lives same =
    record {
      own = λ tx tid is. order.own tx tid (sym (ap (λ (m : Standings). running_part (get m tx)) same) ∙ is);
      live = λ u l. lives u l ∙ (order.live u l ∙ sym (ap (λ (m : Standings). runs u (get m u.tx)) same));
    }

-- an attempt of a global transaction is put in
order_foreign : (local : Tx → Bool) (book : Book) (t : Tid) (p : Progress) → IsInOrder local book → local t.tx ≡ false → IsInOrder local (enters t p book)
order_foreign local book t p order foreign =
    order_same local book (enters t p book) order
    (λ u l. ap (λ (o : Option Noted). is_some o) (live-put book t u p ∙ cond-false _ _ _ (of_other local t u foreign l))) refl

same_lives : (change : Noted → Noted) (o : Option Progress) → is_some (live_part (map_some (on_live change) o)) ≡ is_some (live_part o)
same_lives change None = refl
same_lives change (Some (Is.Live noted)) = refl
same_lives change (Some Is.Sealed) = refl
same_lives change (Some Is.Closed) = refl

order_changes : (local : Tx → Bool) (book : Book) (t : Tid) (change : Noted → Noted) → IsInOrder local book → IsInOrder local (changes_live t change book)
order_changes local book t change order =
    order_same local book (changes_live t change book) order
    (λ u l. ap (λ (o : Option Progress). is_some (live_part o)) (get-changed_tid book.attempts t u (on_live change)) ∙ by_test u (same_tid t u) refl) refl
  where
    by_test : (u : Tid) (b : Bool) → same_tid t u ≡ b → is_some (live_part (cond b (map_some (on_live change) (progress_of book t)) (progress_of book u))) ≡ is_some (live_in book u)
    by_test u true e = same_lives change (progress_of book t) ∙ ap (λ (x : Tid). is_some (live_in book x)) (same_tid-equal t u e)
    by_test u false e = refl

-- a transaction runs in one attempt
runs_other : (t u : Tid) (o : Option Standing) → runs t o ≡ true → same_tid t u ≡ false → runs u o ≡ false
runs_other t u None is other = refl
runs_other t u (Some (Has.Running x)) is other = ap (λ (y : Tid). same_tid y u) (same_tid-equal x t is) ∙ other
runs_other t u (Some (Has.Committed x)) is other = refl

none_runs : (u : Tid) (o : Option Standing) → running_part o ≡ None → runs u o ≡ false
none_runs u None e = refl
none_runs u (Some (Has.Running x)) e = cc
none_runs u (Some (Has.Committed x)) e = refl

running_is : (t : Tid) (o : Option Standing) → running_part o ≡ Some t → o ≡ Some (Has.Running t)
running_is t None e = cc
running_is t (Some (Has.Running x)) e = cc
running_is t (Some (Has.Committed x)) e = cc

-- the attempts of a transaction are of one transaction
at_one : (t u : Tid) → same_tid t u ≡ true → same_tx t.tx u.tx ≡ true
at_one t u e = ap (λ (x : Tid). same_tx t.tx x.tx) (sym (same_tid-equal t u e)) ∙ same_tx-refl t.tx

order_closes : (local : Tx → Bool) (book : Book) (t : Tid) → IsInOrder local book → IsInOrder local (closes t book)
order_closes local book t order =
    record {
      own = λ tx tid is. kept tx tid (runs t (standing_of book t.tx) && same_tx t.tx tx) (sym (ap running_part (standing-not_running book.locals t tx)) ∙ is);
      live = λ u l. ap (λ (o : Option Noted). is_some o) (live-put book t u Is.Closed)
          ∙ (by_tests u (order.live u l) (same_tid t u) (runs t (standing_of book t.tx)) (same_tx t.tx u.tx) refl refl refl
          ∙ sym (ap (runs u) (standing-not_running book.locals t u.tx)));
    }
  where
    kept : (tx : Tx) (tid : Tid) (b : Bool) → running_part (cond b None (standing_of book tx)) ≡ Some tid → tid.tx ≡ tx
    kept tx tid true is = cc
    kept tx tid false is = order.own tx tid is

    by_tests : (u : Tid) → is_some (live_in book u) ≡ runs u (standing_of book u.tx) → (a b d : Bool) → same_tid t u ≡ a → runs t (standing_of book t.tx) ≡ b → same_tx t.tx u.tx ≡ d →
        is_some (cond a None (live_in book u)) ≡ runs u (cond (b && d) None (standing_of book u.tx))
    by_tests u was true true true e f g = refl
    by_tests u was true true false e f g = let bad = at_one t u e in cc
    by_tests u was true false d e f g = sym (ap (λ (x : Tid). runs x (standing_of book x.tx)) (sym (same_tid-equal t u e)) ∙ f)
    by_tests u was false true true e f g =
        was ∙ (ap (λ (x : Tx). runs u (standing_of book x)) (sym (same_tx-equal t.tx u.tx g)) ∙ runs_other t u (standing_of book t.tx) f e)
    by_tests u was false true false e f g = was
    by_tests u was false false d e f g = was

order_commits : (local : Tx → Bool) (book : Book) (t : Tid) → IsInOrder local book → running_in book t.tx ≡ Some t → IsInOrder local (commits_local t book)
order_commits local book t order running =
    record {
      own = λ tx tid is. kept tx tid (same_tx t.tx tx) (sym (ap running_part (get-put_tx book.locals t.tx tx (Has.Committed t))) ∙ is);
      live = λ u l. ap (λ (o : Option Noted). is_some o) (live-put book t u Is.Closed)
          ∙ (by_tests u (order.live u l) (same_tid t u) (same_tx t.tx u.tx) refl refl ∙ sym (ap (runs u) (get-put_tx book.locals t.tx u.tx (Has.Committed t))));
    }
  where
    kept : (tx : Tx) (tid : Tid) (b : Bool) → running_part (cond b (Some (Has.Committed t)) (standing_of book tx)) ≡ Some tid → tid.tx ≡ tx
    kept tx tid true is = cc
    kept tx tid false is = order.own tx tid is

    by_tests : (u : Tid) → is_some (live_in book u) ≡ runs u (standing_of book u.tx) → (a d : Bool) → same_tid t u ≡ a → same_tx t.tx u.tx ≡ d →
        is_some (cond a None (live_in book u)) ≡ runs u (cond d (Some (Has.Committed t)) (standing_of book u.tx))
    by_tests u was true true e g = refl
    by_tests u was true false e g = let bad = at_one t u e in cc
    by_tests u was false true e g =
        was ∙ (ap (λ (x : Tx). runs u (standing_of book x)) (sym (same_tx-equal t.tx u.tx g)) ∙ (ap (runs u) (running_is t (standing_of book t.tx) running) ∙ e))
    by_tests u was false false e g = was

order_begins : (local : Tx → Bool) (book : Book) (t : Tid) → IsInOrder local book → NoneLives book t.tx → IsInOrder (λ tx. local tx || same_tx t.tx tx) (begins_local t book)
order_begins local book t order none =
    record {
      own = λ tx tid is. kept tx tid (same_tx t.tx tx) refl (sym (ap running_part (get-put_tx book.locals t.tx tx (Has.Running t))) ∙ is);
      live = λ u l. ap (λ (o : Option Noted). is_some o) (live-put book t u (Is.Live fresh))
          ∙ (by_tests u l (same_tid t u) (same_tx t.tx u.tx) refl refl ∙ sym (ap (runs u) (get-put_tx book.locals t.tx u.tx (Has.Running t))));
    }
  where
    kept : (tx : Tx) (tid : Tid) (b : Bool) → same_tx t.tx tx ≡ b → running_part (cond b (Some (Has.Running t)) (standing_of book tx)) ≡ Some tid → tid.tx ≡ tx
    kept tx tid true e is = let same : t ≡ tid = cc in ap (λ (x : Tid). x.tx) (sym same) ∙ same_tx-equal t.tx tx e
    kept tx tid false e is = order.own tx tid is

    or_left : (b : Bool) → (b || false) ≡ true → b ≡ true
    or_left true e = refl
    or_left false e = e

    by_tests : (u : Tid) → (local u.tx || same_tx t.tx u.tx) ≡ true → (a d : Bool) → same_tid t u ≡ a → same_tx t.tx u.tx ≡ d →
        is_some (cond a (Some fresh) (live_in book u)) ≡ runs u (cond d (Some (Has.Running t)) (standing_of book u.tx))
    by_tests u l true true e g = sym e
    by_tests u l true false e g = let bad = at_one t u e in cc
    by_tests u l false true e g = ap (λ (o : Option Noted). is_some o) (none u g) ∙ sym e
    by_tests u l false false e g = order.live u (or_left (local u.tx) (sym (ap (λ (b : Bool). local u.tx || b) g) ∙ l))

order_either : (local : Tx → Bool) (b : Bool) (one two : Book) → IsInOrder local one → IsInOrder local two → IsInOrder local (cond b one two)
order_either local true one two e f = e
order_either local false one two e f = f

pub no_live-doubtful : (tids : List Tid) (m : Attempts) (u : Tid) → live_part (get m u) ≡ None → live_part (get (with_doubtful tids m) u) ≡ None
no_live-doubtful [] m u none = none
no_live-doubtful (tid ∷ more) m u none =
    no_live-doubtful more (insert m tid Is.Sealed) u (ap live_part (get-put_tid m tid u Is.Sealed) ∙ by_test (same_tid tid u))
  where
    by_test : (b : Bool) → live_part (cond b (Some Is.Sealed) (get m u)) ≡ None
    by_test true = refl
    by_test false = none

pub none_running-committed : (tids : List Tid) (m : Standings) (tx : Tx) → running_part (get m tx) ≡ None → running_part (get (with_committed tids m) tx) ≡ None
none_running-committed [] m tx none = none
none_running-committed (tid ∷ more) m tx none =
    none_running-committed more (insert m tid.tx (Has.Committed tid)) tx (ap running_part (get-put_tx m tid.tx tx (Has.Committed tid)) ∙ by_test (same_tx tid.tx tx))
  where
    by_test : (b : Bool) → running_part (cond b (Some (Has.Committed tid)) (get m tx)) ≡ None
    by_test true = refl
    by_test false = none

-- where nothing is live and nothing runs
order_idle : (local : Tx → Bool) (book : Book) → ((u : Tid) → live_in book u ≡ None) → ((tx : Tx) → running_in book tx ≡ None) → IsInOrder local book
order_idle local book none idle =
    record {
      own = λ tx tid is. (let bad = idle tx in cc);
      live = λ u l. ap (λ (o : Option Noted). is_some o) (none u) ∙ sym (none_runs u (standing_of book u.tx) (idle u.tx));
    }

pub orders_well : OrdersWell
orders_well local book (Begin_global tid) order may = order_foreign local book tid (Is.Live fresh) order may
orders_well local book (Begin_local tid) order may = order_begins local book tid order may.1
orders_well local book (Note_reply tid act reply) order may =
    order_either local (refuses reply) (closes tid book) (changes_live tid (replied reply act) book) (order_closes local book tid order) (order_changes local book tid (replied reply act) order)
orders_well local book (Note_take tid reply) order may =
    order_either local (refuses reply) (closes tid book) (changes_live tid (taken reply) book) (order_closes local book tid order) (order_changes local book tid (taken reply) order)
orders_well local book (Seal tid) order may = order_foreign local book tid Is.Sealed order may
orders_well local book (Close tid) order may = order_closes local book tid order
orders_well local book (Close_unheld tid) order may =
    order_same local book (enters tid Is.Closed book) order (λ u l. ap (λ (o : Option Noted). is_some o) (live-put book tid u Is.Closed) ∙ by_test u (same_tid tid u) refl) refl
  where
    by_test : (u : Tid) (b : Bool) → same_tid tid u ≡ b → is_some (cond b None (live_in book u)) ≡ is_some (live_in book u)
    by_test u true e = sym (ap (λ (x : Tid). is_some (live_in book x)) (sym (same_tid-equal tid u e)) ∙ ap (λ (o : Option Progress). is_some (live_part o)) may)
    by_test u false e = refl
orders_well local book (Commit_local tid) order may = order_commits local book tid order may
orders_well local book Stop order may =
    order_idle local (stopped book) (λ u. ap live_part (get-empty tid_cmp u)) (λ tx. ap running_part (get-empty tx_cmp tx))
orders_well local book (Restart committed doubtful) order may =
    order_idle local (restarted committed doubtful book)
    (λ u. no_live-doubtful doubtful empty u (ap live_part (get-empty tid_cmp u))) (λ tx. none_running-committed committed empty tx (ap running_part (get-empty tx_cmp tx)))

pub none_running : NoneRunning
none_running local book order tx own idle u same =
    let at = same_tx-equal tx u.tx same in
    nothing_is (live_in book u)
    (order.live u (ap local (sym at) ∙ own) ∙ none_runs u (standing_of book u.tx) (ap (λ (x : Tx). running_in book x) (sym at) ∙ idle))

-- nothing is found where the test fails of each run, and one where only its runs pass
first-none : (look : Tid → Option Run) (test : Run → Bool) (xs : List Tid) → ((x : Tid) (run : Run) → look x ≡ Some run → test run ≡ false) → first_where test (found look xs) ≡ None
first-none look test [] none = refl
first-none look test (x ∷ xs) none = by_look (look x) refl (first-none look test xs none)
  where
    by_look : (o : Option Run) → look x ≡ o → first_where test (found look xs) ≡ None → first_where test (with_some o (found look xs)) ≡ None
    by_look None e rest = rest
    by_look (Some run) e rest = cond-false _ _ _ (none x run e) ∙ rest

first-one : (look : Tid → Option Run) (test : Run → Bool) (t : Tid) (run : Run) (xs : List Tid) → look t ≡ Some run → test run ≡ true → ((x : Tid) (r : Run) → look x ≡ Some r → test r ≡ true → r.tid ≡ t) →
    Among (λ x. x ≡ t) xs → map_some (λ r. r.tid) (first_where test (found look xs)) ≡ Some t
first-one look test t run [] is passes one among = absurd among
first-one look test t run (x ∷ xs) is passes one among = by_look (look x) refl among (first-one look test t run xs is passes one)
  where
    Wanted : Option Run → Type 0
    Wanted o = map_some (λ (r : Run). r.tid) (first_where test (with_some o (found look xs))) ≡ Some t

    by_run : (r : Run) (b : Bool) → look x ≡ Some r → test r ≡ b → Among (λ y. y ≡ t) (x ∷ xs) → (Among (λ y. y ≡ t) xs → map_some (λ (s : Run). s.tid) (first_where test (found look xs)) ≡ Some t) →
        map_some (λ (s : Run). s.tid) (cond b (Some r) (first_where test (found look xs))) ≡ Some t
    by_run r true e f among rest = ap (λ (u : Tid). Some u) (one x r e f)
    by_run r false e f (inl same) rest =
        let here : look x ≡ Some run = ap look same ∙ is in
        let one : r ≡ run = cc in
        let bad : test r ≡ true = ap test one ∙ passes in
        cc
    by_run r false e f (inr more) rest = rest more

    by_look : (o : Option Run) → look x ≡ o → Among (λ y. y ≡ t) (x ∷ xs) → (Among (λ y. y ≡ t) xs → map_some (λ (s : Run). s.tid) (first_where test (found look xs)) ≡ Some t) → Wanted o
    by_look None e (inl same) rest = let here : look x ≡ Some run = ap look same ∙ is in cc
    by_look None e (inr more) rest = rest more
    by_look (Some r) e among rest = by_run r (test r) e refl among rest

pub runs_well : RunsWell
runs_well local book start lines closed order follows right tx own = sym (by_running (running_in book tx) refl)
  where
    unsealed : (b : Bool) → not b ≡ true → b ≡ false
    unsealed true e = cc
    unsealed false e = refl

    -- a run that passes is its transaction's live one, and so it is running
    runs_own : (x : Tid) (run : Run) → run_at start lines x ≡ Some run → (same_tx run.tid.tx tx && not (is_sealed run)) ≡ true → (x.tx ≡ tx) × (runs x (standing_of book tx) ≡ true)
    runs_own x run is passes =
        let parts = and_parts (same_tx run.tid.tx tx) (not (is_sealed run)) passes in
        let at : x.tx ≡ tx = ap (λ (u : Tid). u.tx) (sym (tid_is start lines right x run is)) ∙ same_tx-equal run.tid.tx tx parts.0 in
        let progress : progress_of book x ≡ Some (Is.Live (noted_of run)) =
        follows.attempts x ∙ (ap (λ (o : Option Run). progress_by o (closed x)) is ∙ progress_live run (closed x) (unsealed (is_sealed run) parts.1)) in
        let lives : is_some (live_in book x) ≡ true = ap (λ (o : Option Progress). is_some (live_part o)) progress in
        (at, ap (λ (y : Tx). runs x (standing_of book y)) (sym at) ∙ (sym (order.live x (ap local at ∙ own)) ∙ lives))

    by_running : (o : Option Tid) → running_in book tx ≡ o → map_some (λ (run : Run). run.tid) (first_where (λ (run : Run). same_tx run.tid.tx tx && not (is_sealed run)) (unended start lines)) ≡ o
    by_running None idle =
        ap (map_some (λ (run : Run). run.tid))
        (first-none (run_at start lines) (λ (run : Run). same_tx run.tid.tx tx && not (is_sealed run)) (attempts start lines) (λ x run is. by_test x run is (same_tx run.tid.tx tx && not (is_sealed run)) refl))
      where
        by_test : (x : Tid) (run : Run) → run_at start lines x ≡ Some run → (b : Bool) → (same_tx run.tid.tx tx && not (is_sealed run)) ≡ b → b ≡ false
        by_test x run is false e = refl
        by_test x run is true e = let bad = (runs_own x run is e).1 in let none = none_runs x (standing_of book tx) idle in cc
    by_running (Some t) running =
        let stands = running_is t (standing_of book tx) running in
        let at = order.own tx t running in
        let lives : is_some (live_in book t) ≡ true =
        order.live t (ap local at ∙ own) ∙ (ap (λ (y : Tx). runs t (standing_of book y)) at ∙ (ap (runs t) stands ∙ same_tid-refl t)) in
        let has = live_of book start lines closed t follows (is_some-true (live_in book t) lives) in
        let tid = tid_is start lines right t has.run has.is in
        first-one (run_at start lines) (λ (run : Run). same_tx run.tid.tx tx && not (is_sealed run)) t has.run (attempts start lines) has.is
        (and_from _ _ (ap (λ (u : Tid). same_tx u.tx tx) tid ∙ (ap (λ (y : Tx). same_tx y tx) at ∙ same_tx-refl tx)) (ap not has.unsealed))
        (λ x r is passes. tid_is start lines right x r is ∙ sym (same_tid-equal t x (sym (ap (runs x) stands) ∙ (runs_own x r is passes).1)))
        (attempts_have start lines right t has.run has.is)
