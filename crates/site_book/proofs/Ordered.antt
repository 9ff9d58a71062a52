-- Each call keeps the running attempts those that are live, counts the begins, and remembers the commits.
use Rattle.std.proofs.Common.{◌≡◌, suc, Bool, true, false, ◌&&◌, ◌==◌, cond, is_some, Option, Some, None, List, [], ◌∷◌, refl, sym, ap, ◌∙◌, subst}
use Rattle.std.specs.FinMap.{FinMap, empty, get, insert, remove, get-empty}
use Rattle.mdb_base.specs.declared.names.Tid.{Tid}
use Rattle.mdb_base.specs.declared.names.Tx.{Tx}
use Rattle.mdb_base.specs.Names.{same_tid, same_tx, tx_cmp}
use Rattle.mdb_base.proofs.ForCallers.{same_tid-equal, same_tx-equal, tx_ties, txs_exact, txs_total}
use Rattle.site_book.specs.declared.progress.Standing.{Standing}
use Rattle.site_book.specs.declared.progress.Standing.TheVariants as Has
use Rattle.site_book.specs.Book.{Book, Standings, Counts, committed_part, committed_in, count_of, counted, replied, taken, refuses, runs, not_running, closes, changes_live, with_committed}
use Rattle.site_book.specs.Calls.{Begin_global, Begin_local, Note_reply, Note_take, Seal, Close, Close_unheld, Commit_local, Stop, Restart, book_after, CountsWell, RemembersWell, last_of}
use Rattle.site_book.proofs.Maps.{get-put, get-gone}

-- what stands at a transaction after something is put in or taken out
pub get-put_tx : {X : Type 0} (m : FinMap tx_cmp X) (t u : Tx) (x : X) → get (insert m t x) u ≡ cond (same_tx t u) (Some x) (get m u)
get-put_tx m t u x = get-put txs_total txs_exact m t u x ∙ ap (λ (b : Bool). cond b (Some x) (get m u)) (tx_ties t u)

pub get-gone_tx : {X : Type 0} (m : FinMap tx_cmp X) (t u : Tx) → get (remove m t) u ≡ cond (same_tx t u) None (get m u)
get-gone_tx m t u = get-gone txs_total txs_exact m t u ∙ ap (λ (b : Bool). cond b None (get m u)) (tx_ties t u)

-- attempts of other transactions are others
apart : (t u : Tid) → same_tx t.tx u.tx ≡ false → same_tid t u ≡ false
apart t u e = ap (λ (b : Bool). b && (t.attempt == u.attempt)) e

pub of_other : (local : Tx → Bool) (t u : Tid) → local t.tx ≡ false → local u.tx ≡ true → same_tid t u ≡ false
of_other local t u foreign own = by_test (same_tid t u) refl
  where
    by_test : (b : Bool) → same_tid t u ≡ b → same_tid t u ≡ false
    by_test false e = e
    by_test true e = let bad : local t.tx ≡ true = ap (λ (x : Tid). local x.tx) (same_tid-equal t u e) ∙ own in cc

-- the counts
keeps_again : (b : Bool) (one two : Book) (again : Counts) → one.again ≡ again → two.again ≡ again → (cond b one two).again ≡ again
keeps_again true one two again e f = e
keeps_again false one two again e f = f

count-put : (again : Counts) (t tx : Tx) → count_of (get (counted t again) tx) ≡ cond (same_tx t tx) (suc (count_of (get again tx))) (count_of (get again tx))
count-put again t tx = ap count_of (get-put_tx again t tx (count_of (get again t))) ∙ by_test (same_tx t tx) refl
  where
    by_test : (b : Bool) → same_tx t tx ≡ b → count_of (cond b (Some (count_of (get again t))) (get again tx)) ≡ cond b (suc (count_of (get again tx))) (count_of (get again tx))
    by_test true e = ap (λ (x : Tx). suc (count_of (get again x))) (same_tx-equal t tx e)
    by_test false e = refl

pub counts_well : CountsWell
counts_well book (Begin_global tid) tx = refl
counts_well book (Begin_local tid) tx = count-put book.again tid.tx tx
counts_well book (Note_reply tid act reply) tx =
    ap (λ (m : Counts). count_of (get m tx)) (keeps_again (refuses reply) (closes tid book) (changes_live tid (replied reply act) book) book.again refl refl)
counts_well book (Note_take tid reply) tx =
    ap (λ (m : Counts). count_of (get m tx)) (keeps_again (refuses reply) (closes tid book) (changes_live tid (taken reply) book) book.again refl refl)
counts_well book (Seal tid) tx = refl
counts_well book (Close tid) tx = refl
counts_well book (Close_unheld tid) tx = refl
counts_well book (Commit_local tid) tx = refl
counts_well book Stop tx = refl
counts_well book (Restart committed doubtful) tx = refl

-- a transaction that doesn't run in the attempt any more
pub standing-not_running : (locals : Standings) (t : Tid) (tx : Tx) → get (not_running t locals) tx ≡ cond (runs t (get locals t.tx) && same_tx t.tx tx) None (get locals tx)
standing-not_running locals t tx = by_test (runs t (get locals t.tx))
  where
    by_test : (b : Bool) → get (cond b (remove locals t.tx) locals) tx ≡ cond (b && same_tx t.tx tx) None (get locals tx)
    by_test true = get-gone_tx locals t.tx tx
    by_test false = refl

running_isn't_committed : (t : Tid) (o : Option Standing) → runs t o ≡ true → committed_part o ≡ None
running_isn't_committed t None e = refl
running_isn't_committed t (Some (Has.Running u)) e = refl
running_isn't_committed t (Some (Has.Committed u)) e = cc

committed-closes : (t : Tid) (book : Book) (tx : Tx) → committed_in (closes t book) tx ≡ committed_in book tx
committed-closes t book tx = ap committed_part (standing-not_running book.locals t tx) ∙ by_tests (runs t (get book.locals t.tx)) (same_tx t.tx tx) refl refl
  where
    by_tests : (b d : Bool) → runs t (get book.locals t.tx) ≡ b → same_tx t.tx tx ≡ d → committed_part (cond (b && d) None (get book.locals tx)) ≡ committed_part (get book.locals tx)
    by_tests true true e f =
        sym (running_isn't_committed t (get book.locals tx) (subst (λ (x : Tx). runs t (get book.locals x) ≡ true) (same_tx-equal t.tx tx f) e))
    by_tests true false e f = refl
    by_tests false d e f = refl

keeps_committed : (b : Bool) (one two : Book) (tx : Tx) (o : Option Tid) → committed_in one tx ≡ o → committed_in two tx ≡ o → committed_in (cond b one two) tx ≡ o
keeps_committed true one two tx o e f = e
keeps_committed false one two tx o e f = f

committed-begins : (book : Book) (t : Tid) (tx : Tx) → committed_in book t.tx ≡ None → committed_in (book_after (Begin_local t) book) tx ≡ committed_in book tx
committed-begins book t tx idle = ap committed_part (get-put_tx book.locals t.tx tx (Has.Running t)) ∙ by_test (same_tx t.tx tx) refl
  where
    by_test : (b : Bool) → same_tx t.tx tx ≡ b → committed_part (cond b (Some (Has.Running t)) (get book.locals tx)) ≡ committed_part (get book.locals tx)
    by_test true e = sym (ap (λ (x : Tx). committed_in book x) (sym (same_tx-equal t.tx tx e)) ∙ idle)
    by_test false e = refl

committed-commits : (book : Book) (t : Tid) (tx : Tx) → committed_in (book_after (Commit_local t) book) tx ≡ cond (same_tx t.tx tx) (Some t) (committed_in book tx)
committed-commits book t tx = ap committed_part (get-put_tx book.locals t.tx tx (Has.Committed t)) ∙ by_test (same_tx t.tx tx)
  where
    by_test : (b : Bool) → committed_part (cond b (Some (Has.Committed t)) (get book.locals tx)) ≡ cond b (Some t) (committed_part (get book.locals tx))
    by_test true = refl
    by_test false = refl

-- the last one of each transaction is the committed one
committed-restarts : (tids : List Tid) (locals : Standings) (tx : Tx) → committed_part (get (with_committed tids locals) tx) ≡ cond (is_some (last_of tx tids)) (last_of tx tids) (committed_part (get locals tx))
committed-restarts [] locals tx = refl
committed-restarts (tid ∷ more) locals tx =
    committed-restarts more (insert locals tid.tx (Has.Committed tid)) tx
    ∙ (ap (λ (o : Option Standing). cond (is_some (last_of tx more)) (last_of tx more) (committed_part o)) (get-put_tx locals tid.tx tx (Has.Committed tid))
    ∙ by_tests (last_of tx more) (same_tx tid.tx tx))
  where
    by_tests : (o : Option Tid) (b : Bool) → cond (is_some o) o (committed_part (cond b (Some (Has.Committed tid)) (get locals tx)))
        ≡ cond (is_some (cond (is_some o) o (cond b (Some tid) None))) (cond (is_some o) o (cond b (Some tid) None)) (committed_part (get locals tx))
    by_tests (Some t) b = refl
    by_tests None true = refl
    by_tests None false = refl

or_none : (o : Option Tid) → cond (is_some o) o None ≡ o
or_none None = refl
or_none (Some t) = refl

pub remembers_well : RemembersWell
remembers_well local book (Begin_global tid) tx may = refl
remembers_well local book (Begin_local tid) tx may = committed-begins book tid tx may.0
remembers_well local book (Note_reply tid act reply) tx may =
    keeps_committed (refuses reply) (closes tid book) (changes_live tid (replied reply act) book) tx _ (committed-closes tid book tx) refl
remembers_well local book (Note_take tid reply) tx may =
    keeps_committed (refuses reply) (closes tid book) (changes_live tid (taken reply) book) tx _ (committed-closes tid book tx) refl
remembers_well local book (Seal tid) tx may = refl
remembers_well local book (Close tid) tx may = committed-closes tid book tx
remembers_well local book (Close_unheld tid) tx may = refl
remembers_well local book (Commit_local tid) tx may = committed-commits book tid tx
remembers_well local book Stop tx may = ap committed_part (get-empty tx_cmp tx)
remembers_well local book (Restart committed doubtful) tx may =
    committed-restarts committed empty tx ∙ (ap (λ (o : Option Standing). cond (is_some (last_of tx committed)) (last_of tx committed) (committed_part o)) (get-empty tx_cmp tx) ∙ or_none (last_of tx committed))
