-- Attempts in rising order: where one stands, one more, and one less.
use Rattle.std.proofs.Common.{◌≡◌, ℕ, zero, suc, ◌<◌, ◌≤◌, Bool, true, false, not, ◌&&◌, ◌||◌, cond, List, [], ◌∷◌, Some, length, get_or, refl, sym, ap, ◌∙◌, arith}
use Rattle.std.specs.List.{insert, remove}
use Rattle.std.specs.List.Sorted.{IsPartitionedBy}
use Rattle.std.proofs.lemmas.Bool.{or_parts, or_right, or_from, false_from_ne_true, false≢true}
use Rattle.mdb_base.specs.declared.names.Tid.{Tid}
use Rattle.mdb_base.specs.Names.{same_tid, tid_before}
use Rattle.mdb_base.specs.Words.{Each, holds_of, inserted, item_at}
use Rattle.mdb_base.proofs.ForCallers.{apart_behind, before_apart, before_not_back, before_onward, each_inserted, each_map, item_at-past, item_at-within, or_false, or_swap, same_tid-equal, same_tid-refl}
use Rattle.ticket_item.specs.Item.{count_before, is_among, IsByTid}

total : (a b : Tid) → tid_before a b ≡ false → same_tid b a ≡ false → tid_before b a ≡ true
total a b e f = grind arith

past : (a b c : Tid) → tid_before a c ≡ false → tid_before a b ≡ true → same_tid c b ≡ false
past a b c e f = grind arith

each_at : (P : Tid → Type 0) (xs : List Tid) (i : ℕ) (d : Tid) → Each P xs → i < length xs → P (get_or xs i d)
each_at P [] i d h lt = absurd (omega arith)
each_at P (x ∷ xs) zero d h lt = h.0
each_at P (x ∷ xs) (suc i) d h lt = each_at P xs i d h.1 (omega arith)

-- those before an attempt stand in front
pub partitioned : (t : Tid) (xs : List Tid) → IsByTid xs → IsPartitionedBy (λ x. tid_before x t) xs
partitioned t [] order i j d le lt e = absurd (omega arith)
partitioned t (x ∷ xs) order zero zero d le lt e = e
partitioned t (x ∷ xs) order zero (suc j) d le lt e =
    before_onward x (get_or xs j d) t (each_at (λ later. tid_before x later ≡ true) xs j d order.0 (omega arith)) e
partitioned t (x ∷ xs) order (suc i) zero d le lt e = absurd (omega arith)
partitioned t (x ∷ xs) order (suc i) (suc j) d le lt e = partitioned t xs order.1 i j d (omega arith) (omega arith) e

-- so many as stand in front are before it
pub count_before-place : (t : Tid) (xs : List Tid) (i : ℕ) → i ≤ length xs → ((k : ℕ) (d : Tid) → k < i → tid_before (get_or xs k d) t ≡ true) → ((k : ℕ) (d : Tid) → i ≤ k → k < length xs → tid_before (get_or xs k d) t ≡ false) → i ≡ count_before t xs
count_before-place t [] i le front behind = omega arith
count_before-place t (x ∷ xs) zero le front behind =
    count_before-place t xs zero (omega arith) (λ k d lt. absurd (omega arith)) (λ k d le lt. behind (suc k) d (omega arith) (omega arith))
    ∙ ap (λ b. cond b (suc (count_before t xs)) (count_before t xs)) (sym (behind zero x (omega arith) (omega arith)))
count_before-place t (x ∷ xs) (suc i) le front behind =
    ap suc (count_before-place t xs i (omega arith) (λ k d lt. front (suc k) d (omega arith)) (λ k d le lt. behind (suc k) d (omega arith) (omega arith)))
    ∙ ap (λ b. cond b (suc (count_before t xs)) (count_before t xs)) (sym (front zero x (omega arith)))

none_before : (t : Tid) (xs : List Tid) → Each (λ x. tid_before x t ≡ false) xs → count_before t xs ≡ 0
none_before t [] h = refl
none_before t (x ∷ xs) h = ap (λ b. cond b (suc (count_before t xs)) (count_before t xs)) h.0 ∙ none_before t xs h.1

none_among : (t : Tid) (xs : List Tid) → Each (λ x. same_tid t x ≡ false) xs → is_among t xs ≡ false
none_among t [] h = refl
none_among t (x ∷ xs) h = or_from _ _ h.0 (none_among t xs h.1)

-- an attempt isn't among those that it stands before
absent_behind : (x : Tid) (xs : List Tid) → Each (λ later. tid_before x later ≡ true) xs → is_among x xs ≡ false
absent_behind x xs first = none_among x xs (each_map _ (λ y. same_tid x y ≡ false) (λ y e. before_apart x y e) xs first)

-- behind an attempt that isn't before another one there is none before that one, and not that one
module _ (t x : Tid) (xs : List Tid) (first : Each (λ later. tid_before x later ≡ true) xs) (is : tid_before x t ≡ false) where
  behind_count : count_before t xs ≡ 0
  behind_count = none_before t xs (each_map _ (λ y. tid_before y t ≡ false) (λ y e. before_not_back x y t is e) xs first)

  behind_absent : is_among t xs ≡ false
  behind_absent = none_among t xs (each_map _ (λ y. same_tid t y ≡ false) (λ y e. past x y t is e) xs first)

-- an attempt is in the list where it stands behind those before it
is_among-place : (t : Tid) (xs : List Tid) → IsByTid xs → is_among t xs ≡ holds_of (same_tid t) (item_at xs (count_before t xs))
is_among-place t [] order = refl
is_among-place t (x ∷ xs) order = by_test (tid_before x t) refl (is_among-place t xs order.1)
  where
    by_test : (b : Bool) → tid_before x t ≡ b → is_among t xs ≡ holds_of (same_tid t) (item_at xs (count_before t xs)) → is_among t (x ∷ xs) ≡ holds_of (same_tid t) (item_at (x ∷ xs) (cond b (suc (count_before t xs)) (count_before t xs)))
    by_test true is rest = ap (λ b. b || is_among t xs) (apart_behind x t is) ∙ rest
    by_test false is rest =
        ap (λ b. same_tid t x || b) (behind_absent t x xs order.0 is) ∙ or_false (same_tid t x)
        ∙ ap (λ n. holds_of (same_tid t) (item_at (x ∷ xs) n)) (sym (behind_count t x xs order.0 is))

module _ (t : Tid) (xs : List Tid) (order : IsByTid xs) (place : ℕ) (count : place ≡ count_before t xs) where
  by_place : is_among t xs ≡ holds_of (same_tid t) (item_at xs place)
  by_place = is_among-place t xs order ∙ ap (λ n. holds_of (same_tid t) (item_at xs n)) (sym count)

  pub absent_there : (d : Tid) → place < length xs → same_tid t (get_or xs place d) ≡ false → is_among t xs ≡ false
  absent_there d lt apart = by_place ∙ ap (holds_of (same_tid t)) (item_at-within xs place d lt) ∙ apart

  pub absent_past : length xs ≤ place → is_among t xs ≡ false
  absent_past le = by_place ∙ ap (holds_of (same_tid t)) (item_at-past xs place le)

-- one more attempt: its place, who is among the list with it, and that the order stays
pub inserted-place : (t : Tid) (xs : List Tid) → IsByTid xs → inserted tid_before t xs ≡ insert xs (count_before t xs) t
inserted-place t [] order = refl
inserted-place t (x ∷ xs) order = by_test (tid_before x t) refl (inserted-place t xs order.1)
  where
    by_test : (b : Bool) → tid_before x t ≡ b → inserted tid_before t xs ≡ insert xs (count_before t xs) t → cond b (x ∷ inserted tid_before t xs) (t ∷ x ∷ xs) ≡ insert (x ∷ xs) (cond b (suc (count_before t xs)) (count_before t xs)) t
    by_test true is rest = ap (λ ys. x ∷ ys) rest
    by_test false is rest = ap (λ n. insert (x ∷ xs) n t) (sym (behind_count t x xs order.0 is))

pub is_among-inserted : (u t : Tid) (xs : List Tid) → is_among u (inserted tid_before t xs) ≡ (same_tid u t || is_among u xs)
is_among-inserted u t [] = refl
is_among-inserted u t (x ∷ xs) = by_test (tid_before x t) (is_among-inserted u t xs)
  where
    by_test : (b : Bool) → is_among u (inserted tid_before t xs) ≡ (same_tid u t || is_among u xs) → is_among u (cond b (x ∷ inserted tid_before t xs) (t ∷ x ∷ xs)) ≡ (same_tid u t || is_among u (x ∷ xs))
    by_test true rest = ap (λ b. same_tid u x || b) rest ∙ or_swap (same_tid u x) (same_tid u t) (is_among u xs)
    by_test false rest = refl

pub IsByTid-inserted : (t : Tid) (xs : List Tid) → IsByTid xs → is_among t xs ≡ false → IsByTid (inserted tid_before t xs)
IsByTid-inserted t [] order absent = (tt, tt)
IsByTid-inserted t (x ∷ xs) order absent =
    let parts = or_parts _ _ absent in by_test parts.0 (tid_before x t) refl (IsByTid-inserted t xs order.1 parts.1)
  where
    by_test : same_tid t x ≡ false → (b : Bool) → tid_before x t ≡ b → IsByTid (inserted tid_before t xs) → IsByTid (cond b (x ∷ inserted tid_before t xs) (t ∷ x ∷ xs))
    by_test apart true is rest = (each_inserted (λ later. tid_before x later ≡ true) tid_before t xs is order.0, rest)
    by_test apart false is rest =
        let first = total x t is apart in
        ((first, each_map _ (λ y. tid_before t y ≡ true) (λ y e. before_onward t x y first e) xs order.0), order)

-- an attempt at a place is among the list
pub is_among-at : (t : Tid) (xs : List Tid) (i : ℕ) → item_at xs i ≡ Some t → is_among t xs ≡ true
is_among-at t [] i at = cc
is_among-at t (x ∷ xs) zero at =
    let same : x ≡ t = cc in ap (λ y. same_tid t y || is_among t xs) same ∙ ap (λ b. b || is_among t xs) (same_tid-refl t)
is_among-at t (x ∷ xs) (suc i) at = or_right (same_tid t x) (is_among t xs) (is_among-at t xs i at)

-- no other attempt goes with the one at a place
not_others : (b c : Bool) → (b ≡ true → c ≡ false) → c ≡ (not b && (b || c))
not_others true c f = f refl
not_others false c f = refl

keeps_first : (a b c d : Bool) → (a ≡ true → b ≡ false) → d ≡ (not b && c) → (a || d) ≡ (not b && (a || c))
keeps_first true b c d f e = sym (ap (λ x. not x && true) (f refl))
keeps_first false b c d f e = e

apart : (x t : Tid) (xs : List Tid) → is_among x xs ≡ false → is_among t xs ≡ true → same_tid x t ≡ false
apart x t xs absent there =
    false_from_ne_true (same_tid x t) (λ e. false≢true (sym absent ∙ ap (λ y. is_among y xs) (same_tid-equal x t e) ∙ there))

pub is_among-remove : (t u : Tid) (xs : List Tid) (i : ℕ) → IsByTid xs → item_at xs i ≡ Some t → is_among u (remove xs i) ≡ (not (same_tid u t) && is_among u xs)
is_among-remove t u [] i order at = cc
is_among-remove t u (x ∷ xs) zero order at =
    let same : x ≡ t = cc in
    not_others (same_tid u t) (is_among u xs) (λ e. ap (λ v. is_among v xs) (same_tid-equal u t e ∙ sym same) ∙ absent_behind x xs order.0)
    ∙ ap (λ y. not (same_tid u t) && (same_tid u y || is_among u xs)) (sym same)
is_among-remove t u (x ∷ xs) (suc i) order at =
    keeps_first (same_tid u x) (same_tid u t) (is_among u xs) (is_among u (remove xs i))
    (λ e. ap (λ v. same_tid v t) (same_tid-equal u x e) ∙ apart x t xs (absent_behind x xs order.0) (is_among-at t xs i at))
    (is_among-remove t u xs i order.1 at)

-- without one of them the order stays
each_remove : (P : Tid → Type 0) (t : Tid) (xs : List Tid) (i : ℕ) → Each P xs → item_at xs i ≡ Some t → Each P (remove xs i)
each_remove P t [] i h at = cc
each_remove P t (x ∷ xs) zero h at = h.1
each_remove P t (x ∷ xs) (suc i) h at = (h.0, each_remove P t xs i h.1 at)

pub IsByTid-remove : (t : Tid) (xs : List Tid) (i : ℕ) → IsByTid xs → item_at xs i ≡ Some t → IsByTid (remove xs i)
IsByTid-remove t [] i order at = cc
IsByTid-remove t (x ∷ xs) zero order at = order.1
IsByTid-remove t (x ∷ xs) (suc i) order at =
    (each_remove (λ later. tid_before x later ≡ true) t xs i order.0 at, IsByTid-remove t xs i order.1 at)
