-- One more doubt among doubts by rising attempt.
use Rattle.std.proofs.Common.{◌≡◌, ℕ, zero, suc, ◌+◌, ◌<◌, Bool, true, false, cond, Option, Some, None, List, [], ◌∷◌, ◌++◌, length, get_or, take, refl, sym, ap, ◌∙◌, arith}
use Rattle.std.specs.List.{insert}
use Rattle.std.proofs.lemmas.Bool.{false≢true}
use Rattle.std.proofs.lemmas.List.{take_more}
use Rattle.mdb_base.specs.declared.names.Tid.{Tid}
use Rattle.mdb_base.specs.Names.{same_tid, tid_before}
use Rattle.mdb_base.specs.Words.{inserted}
use Rattle.mdb_base.proofs.ForCallers.{before_onward, each_inserted, each_map, same_tid-equal, same_tid-sym}
use Rattle.fed_rules.specs.declared.runs.Doubt.{Doubt}
use Rattle.prepared_state.specs.Book.{AreApart, IsByTid, count_before, doubt_about, stands_before}
use Rattle.prepared_state.proofs.ByTid.{total, behind_count}

-- a doubt that isn't about the attempt, in a list that has none about it
absent_head : (tid : Tid) (x : Doubt) (xs : List Doubt) → doubt_about tid (x ∷ xs) ≡ None → (same_tid x.tid tid ≡ false) × (doubt_about tid xs ≡ None)
absent_head tid x xs e = by_test (same_tid x.tid tid) e
  where
    by_test : (b : Bool) → cond b (Some x) (doubt_about tid xs) ≡ None → (b ≡ false) × (doubt_about tid xs ≡ None)
    by_test true e = cc
    by_test false e = (refl, e)

-- its place is that of the attempt
pub inserted-place : (doubt : Doubt) (doubts : List Doubt) → IsByTid doubts → inserted stands_before doubt doubts ≡ insert doubts (count_before doubt.tid doubts) doubt
inserted-place doubt [] order = refl
inserted-place doubt (x ∷ xs) order = by_test (tid_before x.tid doubt.tid) refl (inserted-place doubt xs order.1)
  where
    by_test : (b : Bool) → tid_before x.tid doubt.tid ≡ b → inserted stands_before doubt xs ≡ insert xs (count_before doubt.tid xs) doubt → cond b (x ∷ inserted stands_before doubt xs) (doubt ∷ x ∷ xs) ≡ insert (x ∷ xs) (cond b (suc (count_before doubt.tid xs)) (count_before doubt.tid xs)) doubt
    by_test true is rest = ap (λ ys. x ∷ ys) rest
    by_test false is rest = ap (λ n. insert (x ∷ xs) n doubt) (sym (behind_count doubt.tid x xs order.0 is))

-- with it the doubts are still by rising attempt
pub IsByTid-inserted : (doubt : Doubt) (doubts : List Doubt) → IsByTid doubts → doubt_about doubt.tid doubts ≡ None → IsByTid (inserted stands_before doubt doubts)
IsByTid-inserted doubt [] order absent = (tt, tt)
IsByTid-inserted doubt (x ∷ xs) order absent =
    let parts = absent_head doubt.tid x xs absent in
    by_test parts.0 (stands_before x doubt) refl (IsByTid-inserted doubt xs order.1 parts.1)
  where
    by_test : same_tid x.tid doubt.tid ≡ false → (b : Bool) → stands_before x doubt ≡ b → IsByTid (inserted stands_before doubt xs) → IsByTid (cond b (x ∷ inserted stands_before doubt xs) (doubt ∷ x ∷ xs))
    by_test apart true is rest = (each_inserted (λ later. stands_before x later ≡ true) stands_before doubt xs is order.0, rest)
    by_test apart false is rest =
        let first = total x.tid doubt.tid is apart in
        ((first, each_map _ (λ y. stands_before doubt y ≡ true) (λ y e. before_onward doubt.tid x.tid y.tid first e) xs order.0), order)

pub length-inserted : (doubt : Doubt) (doubts : List Doubt) → length (inserted stands_before doubt doubts) ≡ length doubts + 1
length-inserted doubt [] = refl
length-inserted doubt (x ∷ xs) = by_test (stands_before x doubt) (length-inserted doubt xs)
  where
    by_test : (b : Bool) → length (inserted stands_before doubt xs) ≡ length xs + 1 → length (cond b (x ∷ inserted stands_before doubt xs) (doubt ∷ x ∷ xs)) ≡ suc (length xs) + 1
    by_test true rest = omega arith
    by_test false rest = omega arith

-- two doubts about different attempts, looked up in either order
either_order : (tid : Tid) (x y : Doubt) (o : Option Doubt) → same_tid x.tid y.tid ≡ false → cond (same_tid x.tid tid) (Some x) (cond (same_tid y.tid tid) (Some y) o) ≡ cond (same_tid y.tid tid) (Some y) (cond (same_tid x.tid tid) (Some x) o)
either_order tid x y o apart = by_tests (same_tid x.tid tid) (same_tid y.tid tid) refl refl
  where
    by_tests : (b c : Bool) → same_tid x.tid tid ≡ b → same_tid y.tid tid ≡ c → cond b (Some x) (cond c (Some y) o) ≡ cond c (Some y) (cond b (Some x) o)
    by_tests true true e f =
        absurd (false≢true (sym apart ∙ ap (same_tid x.tid) (same_tid-equal y.tid tid f) ∙ e))
    by_tests true false e f = refl
    by_tests false c e f = refl

-- what is listed once the doubt is
pub doubt_about-inserted : (tid : Tid) (doubt : Doubt) (doubts : List Doubt) → doubt_about doubt.tid doubts ≡ None → doubt_about tid (inserted stands_before doubt doubts) ≡ cond (same_tid doubt.tid tid) (Some doubt) (doubt_about tid doubts)
doubt_about-inserted tid doubt [] absent = refl
doubt_about-inserted tid doubt (x ∷ xs) absent =
    let parts = absent_head doubt.tid x xs absent in
    by_test parts.0 (stands_before x doubt) (doubt_about-inserted tid doubt xs parts.1)
  where
    by_test : same_tid x.tid doubt.tid ≡ false → (b : Bool) → doubt_about tid (inserted stands_before doubt xs) ≡ cond (same_tid doubt.tid tid) (Some doubt) (doubt_about tid xs) → doubt_about tid (cond b (x ∷ inserted stands_before doubt xs) (doubt ∷ x ∷ xs)) ≡ cond (same_tid doubt.tid tid) (Some doubt) (doubt_about tid (x ∷ xs))
    by_test apart true rest = ap (cond (same_tid x.tid tid) (Some x)) rest ∙ either_order tid x doubt (doubt_about tid xs) apart
    by_test apart false rest = refl

-- doubts about different attempts, one behind the others
abbrev or_then : Option Doubt → Option Doubt → Option Doubt
or_then None o = o
or_then (Some x) o = Some x

or_then-cond : (b : Bool) (x : Doubt) (o p : Option Doubt) → or_then (cond b (Some x) o) p ≡ cond b (Some x) (or_then o p)
or_then-cond true x o p = refl
or_then-cond false x o p = refl

doubt_about-append : (tid : Tid) (xs ys : List Doubt) → doubt_about tid (xs ++ ys) ≡ or_then (doubt_about tid xs) (doubt_about tid ys)
doubt_about-append tid [] ys = refl
doubt_about-append tid (x ∷ xs) ys =
    ap (cond (same_tid x.tid tid) (Some x)) (doubt_about-append tid xs ys) ∙ sym (or_then-cond (same_tid x.tid tid) x (doubt_about tid xs) (doubt_about tid ys))

-- a doubt isn't about the attempt of an earlier one
pub apart_from_front : (doubts : List Doubt) (i : ℕ) (d : Doubt) → AreApart doubts → i < length doubts → doubt_about (get_or doubts i d).tid (take i doubts) ≡ None
apart_from_front [] i d apart lt = absurd (omega arith)
apart_from_front (x ∷ xs) zero d apart lt = refl
apart_from_front (x ∷ xs) (suc i) d apart lt =
    ap (λ b. cond b (Some x) (doubt_about (get_or xs i d).tid (take i xs))) (differs xs i (omega arith) apart.0) ∙ apart_from_front xs i d apart.1 (omega arith)
  where
    differs : (ys : List Doubt) (k : ℕ) → k < length ys → doubt_about x.tid ys ≡ None → same_tid x.tid (get_or ys k d).tid ≡ false
    differs [] k lt e = absurd (omega arith)
    differs (y ∷ ys) zero lt e = same_tid-sym x.tid y.tid ∙ (absent_head x.tid y ys e).0
    differs (y ∷ ys) (suc k) lt e = differs ys k (omega arith) (absent_head x.tid y ys e).1

-- what is listed once the next of some doubts about different attempts is
pub doubt_about-more : (tid : Tid) (doubts listed : List Doubt) (i : ℕ) (d : Doubt) → AreApart doubts → i < length doubts → ((t : Tid) → doubt_about t listed ≡ doubt_about t (take i doubts)) → doubt_about tid (inserted stands_before (get_or doubts i d) listed) ≡ doubt_about tid (take (i + 1) doubts)
doubt_about-more tid doubts listed i d apart lt so_far =
    let next = get_or doubts i d in
    let absent = apart_from_front doubts i d apart lt in
    doubt_about-inserted tid next listed (so_far next.tid ∙ absent)
    ∙ ap (cond (same_tid next.tid tid) (Some next)) (so_far tid)
    ∙ by_test (same_tid next.tid tid) refl absent
    ∙ sym (ap (doubt_about tid) (take_more doubts i d lt) ∙ doubt_about-append tid (take i doubts) (next ∷ []))
  where
    by_test : (b : Bool) → same_tid (get_or doubts i d).tid tid ≡ b → doubt_about (get_or doubts i d).tid (take i doubts) ≡ None → cond b (Some (get_or doubts i d)) (doubt_about tid (take i doubts)) ≡ or_then (doubt_about tid (take i doubts)) (cond b (Some (get_or doubts i d)) None)
    by_test true is absent =
        ap (λ o. or_then o (Some (get_or doubts i d))) (sym (ap (λ t. doubt_about t (take i doubts)) (sym (same_tid-equal _ tid is)) ∙ absent))
    by_test false is absent = keep (doubt_about tid (take i doubts))
      where
        keep : (o : Option Doubt) → o ≡ or_then o None
        keep None = refl
        keep (Some x) = refl
