-- A begin that is taken back leaves the book as it was.
use Rattle.std.proofs.Common.{◌≡◌, ℕ, suc, Option, Some, None, refl, ap, ◌∙◌}
use Rattle.std.specs.FinMap.{get, insert}
use Rattle.std.proofs.lemmas.Bool.{cond-true}
use Rattle.std.specs.Cmp.{eq_by_cmp_equiv}
use Rattle.mdb_base.specs.declared.names.Tid.{Tid}
use Rattle.mdb_base.specs.declared.names.Tx.{Tx}
use Rattle.site_book.specs.declared.progress.Progress.{Progress}
use Rattle.site_book.specs.declared.progress.Progress.TheVariants as Is
use Rattle.site_book.specs.declared.progress.Standing.{Standing}
use Rattle.site_book.specs.declared.progress.Standing.TheVariants as Has
use Rattle.site_book.specs.Noted.{fresh}
use Rattle.site_book.specs.Book.{Book, Attempts, Standings, Counts, progress_of, standing_of, running_part, running_in, committed_part, committed_in, count_of, counted, uncounted, uncounted_from, enters, forgets, begins_local, unbegins_local}
use Rattle.mdb_base.proofs.ForCallers.{tids_exact, tids_total, txs_exact, txs_total}
use Rattle.site_book.proofs.Maps.{get-put, gone-put, put-put, put-same}

-- a book of these parts
abbrev pub book_of : Attempts → Standings → Counts → Book
book_of attempts locals again = record { attempts = attempts; locals = locals; again = again }

pub same_book : (a b : Attempts) (l m : Standings) (c d : Counts) → a ≡ b → l ≡ m → c ≡ d → book_of a l c ≡ book_of b m d
same_book a b l m c d e f g = ap (λ (x : Attempts). book_of x l c) e ∙ (ap (λ (x : Standings). book_of b x c) f ∙ ap (λ (x : Counts). book_of b m x) g)

pub forgets-enters : (tid : Tid) (progress : Progress) (book : Book) → progress_of book tid ≡ None → forgets tid (enters tid progress book) ≡ book
forgets-enters tid progress book free = same_book _ _ _ _ _ _ (gone-put tids_total tids_exact book.attempts tid progress free) refl refl

uncounted-counted : (tx : Tx) (again : Counts) → uncounted tx (counted tx again) ≡ again
uncounted-counted tx again = by_found (get again tx) refl
  where
    own : (n : ℕ) → get (insert again tx n) tx ≡ Some n
    own n = get-put txs_total txs_exact again tx tx n ∙ cond-true _ _ _ ((eq_by_cmp_equiv txs_total).refl tx)

    by_found : (o : Option ℕ) → get again tx ≡ o → uncounted tx (insert again tx (count_of o)) ≡ again
    by_found None none =
        ap (λ (o : Option ℕ). uncounted_from o tx (insert again tx 0)) (own 0) ∙ gone-put txs_total txs_exact again tx 0 none
    by_found (Some n) is =
        ap (λ (o : Option ℕ). uncounted_from o tx (insert again tx (suc n))) (own (suc n))
        ∙ (put-put txs_total txs_exact again tx (suc n) n ∙ put-same txs_total txs_exact again tx n is)

-- a transaction that neither runs nor is committed has no standing
pub nothing_stands : (o : Option Standing) → running_part o ≡ None → committed_part o ≡ None → o ≡ None
nothing_stands None e f = refl
nothing_stands (Some (Has.Running t)) e f = cc
nothing_stands (Some (Has.Committed t)) e f = cc

pub unbegins-begins : (tid : Tid) (book : Book) → progress_of book tid ≡ None → running_in book tid.tx ≡ None → committed_in book tid.tx ≡ None → unbegins_local tid (begins_local tid book) ≡ book
unbegins-begins tid book free idle uncommitted =
    same_book _ _ _ _ _ _ (gone-put tids_total tids_exact book.attempts tid (Is.Live fresh) free)
    (gone-put txs_total txs_exact book.locals tid.tx (Has.Running tid) (nothing_stands (standing_of book tid.tx) idle uncommitted)) (uncounted-counted tid.tx book.again)
