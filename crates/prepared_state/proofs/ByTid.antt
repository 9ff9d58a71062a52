-- Doubts by rising attempt: where an attempt stands, and one more and one less.
use Rattle.std.proofs.Common.{◌≡◌, ℕ, zero, suc, ◌<◌, ◌≤◌, Bool, true, false, not, cond, Option, Some, None, List, [], ◌∷◌, length, get_or, refl, sym, ap, ◌∙◌, arith}
use Rattle.std.specs.List.{remove}
use Rattle.std.specs.List.Sorted.{IsPartitionedBy}
use Rattle.mdb_base.specs.declared.names.Tid.{Tid}
use Rattle.mdb_base.specs.Names.{same_tid, tid_before}
use Rattle.mdb_base.specs.Words.{Each, item_at}
use Rattle.mdb_base.proofs.ForCallers.{before_apart, before_not_back, before_onward, each_get_or, each_map, item_at-past, item_at-within}
use Rattle.fed_rules.specs.declared.runs.Doubt.{Doubt}
use Rattle.prepared_state.specs.Book.{IsByTid, count_before, doubt_about, others, stands_before}

pub total : (a b : Tid) → tid_before a b ≡ false → same_tid a b ≡ false → tid_before b a ≡ true
total a b e f = grind arith

apart_behind : (a b c : Tid) → tid_before a c ≡ false → tid_before a b ≡ true → same_tid b c ≡ false
apart_behind a b c e f = grind arith

-- the doubts before an attempt stand in front
pub partitioned : (tid : Tid) (doubts : List Doubt) → IsByTid doubts → IsPartitionedBy (λ doubt. tid_before doubt.tid tid) doubts
partitioned tid [] order i j d le lt e = absurd (omega arith)
partitioned tid (x ∷ xs) order zero zero d le lt e = e
partitioned tid (x ∷ xs) order zero (suc j) d le lt e =
    before_onward x.tid (get_or xs j d).tid tid (each_get_or (λ later. stands_before x later ≡ true) xs j d order.0 (omega arith)) e
partitioned tid (x ∷ xs) order (suc i) zero d le lt e = absurd (omega arith)
partitioned tid (x ∷ xs) order (suc i) (suc j) d le lt e = partitioned tid xs order.1 i j d (omega arith) (omega arith) e

-- so many as stand in front are before it
pub count_before-place : (tid : Tid) (doubts : List Doubt) (i : ℕ) → i ≤ length doubts → ((k : ℕ) (d : Doubt) → k < i → tid_before (get_or doubts k d).tid tid ≡ true) → ((k : ℕ) (d : Doubt) → i ≤ k → k < length doubts → tid_before (get_or doubts k d).tid tid ≡ false) → i ≡ count_before tid doubts
count_before-place tid [] i le front behind = omega arith
count_before-place tid (x ∷ xs) zero le front behind =
    count_before-place tid xs zero (omega arith) (λ k d lt. absurd (omega arith)) (λ k d le lt. behind (suc k) d (omega arith) (omega arith))
    ∙ ap (λ b. cond b (suc (count_before tid xs)) (count_before tid xs)) (sym (behind zero x (omega arith) (omega arith)))
count_before-place tid (x ∷ xs) (suc i) le front behind =
    ap suc (count_before-place tid xs i (omega arith) (λ k d lt. front (suc k) d (omega arith)) (λ k d le lt. behind (suc k) d (omega arith) (omega arith)))
    ∙ ap (λ b. cond b (suc (count_before tid xs)) (count_before tid xs)) (sym (front zero x (omega arith)))

none_before : (tid : Tid) (doubts : List Doubt) → Each (λ doubt. tid_before doubt.tid tid ≡ false) doubts → count_before tid doubts ≡ 0
none_before tid [] h = refl
none_before tid (x ∷ xs) h = ap (λ b. cond b (suc (count_before tid xs)) (count_before tid xs)) h.0 ∙ none_before tid xs h.1

none_about : (tid : Tid) (doubts : List Doubt) → Each (λ doubt. same_tid doubt.tid tid ≡ false) doubts → doubt_about tid doubts ≡ None
none_about tid [] h = refl
none_about tid (x ∷ xs) h = ap (λ b. cond b (Some x) (doubt_about tid xs)) h.0 ∙ none_about tid xs h.1

all_others : (tid : Tid) (doubts : List Doubt) → Each (λ doubt. same_tid doubt.tid tid ≡ false) doubts → others tid doubts ≡ doubts
all_others tid [] h = refl
all_others tid (x ∷ xs) h =
    ap (λ b. cond (not b) (x ∷ others tid xs) (others tid xs)) h.0 ∙ ap (λ ys. x ∷ ys) (all_others tid xs h.1)

-- behind a doubt that isn't before the attempt there is none before it and none about it
module _ (tid : Tid) (x : Doubt) (xs : List Doubt) (first : Each (λ later. stands_before x later ≡ true) xs) (is : tid_before x.tid tid ≡ false) where
  pub behind_count : count_before tid xs ≡ 0
  behind_count = none_before tid xs (each_map _ (λ y. tid_before y.tid tid ≡ false) (λ y e. before_not_back x.tid y.tid tid is e) xs first)

  behind_apart : Each (λ y. same_tid y.tid tid ≡ false) xs
  behind_apart = each_map _ (λ y. same_tid y.tid tid ≡ false) (λ y e. apart_behind x.tid y.tid tid is e) xs first

-- what stands at the attempt's place, where it is the doubt about it
abbrev at_place : Tid → Option Doubt → Option Doubt
at_place tid None = None
at_place tid (Some doubt) = cond (same_tid doubt.tid tid) (Some doubt) None

doubt_about-place : (tid : Tid) (doubts : List Doubt) → IsByTid doubts → doubt_about tid doubts ≡ at_place tid (item_at doubts (count_before tid doubts))
doubt_about-place tid [] order = refl
doubt_about-place tid (x ∷ xs) order = by_test (tid_before x.tid tid) refl (doubt_about-place tid xs order.1)
  where
    by_test : (b : Bool) → tid_before x.tid tid ≡ b → doubt_about tid xs ≡ at_place tid (item_at xs (count_before tid xs)) → cond (same_tid x.tid tid) (Some x) (doubt_about tid xs) ≡ at_place tid (item_at (x ∷ xs) (cond b (suc (count_before tid xs)) (count_before tid xs)))
    by_test true is rest = ap (λ b. cond b (Some x) (doubt_about tid xs)) (before_apart x.tid tid is) ∙ rest
    by_test false is rest =
        ap (cond (same_tid x.tid tid) (Some x)) (none_about tid xs (behind_apart tid x xs order.0 is))
        ∙ ap (λ n. at_place tid (item_at (x ∷ xs) n)) (sym (behind_count tid x xs order.0 is))

module _ (tid : Tid) (doubts : List Doubt) (order : IsByTid doubts) (place : ℕ) (count : place ≡ count_before tid doubts) where
  by_place : doubt_about tid doubts ≡ at_place tid (item_at doubts place)
  by_place = doubt_about-place tid doubts order ∙ ap (λ n. at_place tid (item_at doubts n)) (sym count)

  by_item : (d : Doubt) → place < length doubts → doubt_about tid doubts ≡ at_place tid (Some (get_or doubts place d))
  by_item d lt = by_place ∙ ap (at_place tid) (item_at-within doubts place d lt)

  pub found_there : (d : Doubt) → place < length doubts → same_tid (get_or doubts place d).tid tid ≡ true → doubt_about tid doubts ≡ item_at doubts place
  found_there d lt same =
      by_item d lt ∙ ap (λ b. cond b (Some (get_or doubts place d)) None) same ∙ sym (item_at-within doubts place d lt)

  pub absent_there : (d : Doubt) → place < length doubts → same_tid (get_or doubts place d).tid tid ≡ false → doubt_about tid doubts ≡ None
  absent_there d lt apart = by_item d lt ∙ ap (λ b. cond b (Some (get_or doubts place d)) None) apart

  pub absent_past : length doubts ≤ place → doubt_about tid doubts ≡ None
  absent_past le = by_place ∙ ap (at_place tid) (item_at-past doubts place le)

-- to take out what stands at the place of a listed attempt leaves the others
pub others-place : (tid : Tid) (doubts : List Doubt) (doubt : Doubt) → IsByTid doubts → doubt_about tid doubts ≡ Some doubt → others tid doubts ≡ remove doubts (count_before tid doubts)
others-place tid [] doubt order e = cc
others-place tid (x ∷ xs) doubt order e = by_test (tid_before x.tid tid) refl (others-place tid xs doubt order.1) e
  where
    by_test : (b : Bool) → tid_before x.tid tid ≡ b → (doubt_about tid xs ≡ Some doubt → others tid xs ≡ remove xs (count_before tid xs)) → cond (same_tid x.tid tid) (Some x) (doubt_about tid xs) ≡ Some doubt → others tid (x ∷ xs) ≡ remove (x ∷ xs) (cond b (suc (count_before tid xs)) (count_before tid xs))
    by_test true is rest e =
        let apart = before_apart x.tid tid is in
        ap (λ b. cond (not b) (x ∷ others tid xs) (others tid xs)) apart
        ∙ ap (λ ys. x ∷ ys) (rest (sym (ap (λ b. cond b (Some x) (doubt_about tid xs)) apart) ∙ e))
    by_test false is rest e = same (same_tid x.tid tid) refl (sym (ap (cond (same_tid x.tid tid) (Some x)) (none_about tid xs (behind_apart tid x xs order.0 is))) ∙ e)
      where
        same : (b : Bool) → same_tid x.tid tid ≡ b → cond b (Some x) None ≡ Some doubt → others tid (x ∷ xs) ≡ remove (x ∷ xs) (count_before tid xs)
        same true here f =
            ap (λ b. cond (not b) (x ∷ others tid xs) (others tid xs)) here ∙ all_others tid xs (behind_apart tid x xs order.0 is)
            ∙ ap (remove (x ∷ xs)) (sym (behind_count tid x xs order.0 is))
        same false here f = cc

-- of an attempt that isn't listed nothing is taken out
pub others-absent : (tid : Tid) (doubts : List Doubt) → doubt_about tid doubts ≡ None → others tid doubts ≡ doubts
others-absent tid [] e = refl
others-absent tid (x ∷ xs) e = by_test (same_tid x.tid tid) (others-absent tid xs) e
  where
    by_test : (b : Bool) → (doubt_about tid xs ≡ None → others tid xs ≡ xs) → cond b (Some x) (doubt_about tid xs) ≡ None → cond (not b) (x ∷ others tid xs) (others tid xs) ≡ x ∷ xs
    by_test true rest e = cc
    by_test false rest e = ap (λ ys. x ∷ ys) (rest e)

-- what is left of doubts by rising attempt is by rising attempt
each_others : (P : Doubt → Type 0) (tid : Tid) (doubts : List Doubt) → Each P doubts → Each P (others tid doubts)
each_others P tid [] h = tt
each_others P tid (x ∷ xs) h = by_test (same_tid x.tid tid) (each_others P tid xs h.1)
  where
    by_test : (b : Bool) → Each P (others tid xs) → Each P (cond (not b) (x ∷ others tid xs) (others tid xs))
    by_test true rest = rest
    by_test false rest = (h.0, rest)

pub IsByTid-others : (tid : Tid) (doubts : List Doubt) → IsByTid doubts → IsByTid (others tid doubts)
IsByTid-others tid [] order = tt
IsByTid-others tid (x ∷ xs) order = by_test (same_tid x.tid tid) (IsByTid-others tid xs order.1)
  where
    by_test : (b : Bool) → IsByTid (others tid xs) → IsByTid (cond (not b) (x ∷ others tid xs) (others tid xs))
    by_test true rest = rest
    by_test false rest = (each_others (λ later. stands_before x later ≡ true) tid xs order.0, rest)
