-- Sets of names into which the names of a list are put, one after another.
use Rattle.std.proofs.Common.{ℕ, ◌+◌, ◌<◌, ◌≡◌, Bool, true, cond, ◌||◌, List, length, take, get_or, sym, ap, ◌∙◌}
use Rattle.std.proofs.lemmas.List.{take_more}
use Rattle.std.specs.Ordering.{is_eq}
use Rattle.mdb_base.specs.declared.names.Tid.{Tid}
use Rattle.mdb_base.specs.declared.names.Tx.{Tx}
use Rattle.mdb_base.specs.Names.{same_tid, same_tx, tid_cmp, tx_cmp}
use Rattle.mdb_base.specs.Words.{some_of}
use Rattle.mdb_base.proofs.ForCallers.{or_swapped, some_of-push, tid_ties, tx_ties}
use Rattle.usable_journals.proofs.Words.{choice}

-- a name is put into a set
pub with_tid : (tid q : Tid) (now old was : Bool) → now ≡ cond (is_eq (tid_cmp tid q)) true old → old ≡ was → now ≡ (same_tid tid q || was)
with_tid tid q now old was e f = e ∙ ap (cond (is_eq (tid_cmp tid q)) true) f ∙ choice (is_eq (tid_cmp tid q)) (same_tid tid q) was (tid_ties tid q)

pub with_tx : (tx q : Tx) (now old was : Bool) → now ≡ cond (is_eq (tx_cmp tx q)) true old → old ≡ was → now ≡ (same_tx tx q || was)
with_tx tx q now old was e f = e ∙ ap (cond (is_eq (tx_cmp tx q)) true) f ∙ choice (is_eq (tx_cmp tx q)) (same_tx tx q) was (tx_ties tx q)

-- the next name of a list is put into a set of those before
pub next_tid : {A : Type 0} (f : A → Tid) (xs : List A) (n : ℕ) (x : A) (q : Tid) (now old : Bool) → n < length xs → x ≡ get_or xs n x →
    now ≡ cond (is_eq (tid_cmp (f x) q)) true old → old ≡ some_of (λ a. same_tid (f a) q) (take n xs) → now ≡ some_of (λ a. same_tid (f a) q) (take (n + 1) xs)
next_tid f xs n x q now old within here e was =
    with_tid (f x) q now old _ e was ∙ or_swapped (same_tid (f x) q) (some_of (λ a. same_tid (f a) q) (take n xs))
    ∙ ap (λ a. some_of (λ b. same_tid (f b) q) (take n xs) || same_tid (f a) q) here
    ∙ sym (some_of-push (λ a. same_tid (f a) q) (take n xs) (get_or xs n x))
    ∙ ap (some_of (λ a. same_tid (f a) q)) (sym (take_more xs n x within))
