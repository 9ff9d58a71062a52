-- The least free attempt of the first queues, step by step.
use Rattle.std.proofs.Common.{ℕ, ◌+◌, ◌<◌, ◌≤◌, ◌≡◌, true, false, Option, Some, None, slice_get, List, [], ◌∷◌, ◌++◌, length, take, get_or, refl, inl, inr, subst, sym, ap, ◌∙◌}
use Rattle.std.proofs.lemmas.Bool.{cond-false}
use Rattle.std.proofs.lemmas.List.{take_more, take_all}
use Rattle.mdb_base.specs.Words.{those}
use Rattle.mdb_base.specs.declared.names.Tid.{Tid}
use Rattle.mdb_base.specs.Names.{same_tid, tid_before}
use Rattle.mdb_base.proofs.ForCallers.{append_nil, those_append}
use Rattle.order_laws.specs.Chains.{In}
use Rattle.order_laws.specs.Least.{heads, is_free, earlier}
use Rattle.order_laws.proofs.ForCallers.{IsEarliest, append_in, earliest_push, free_is, in_parts, is_free_in, not_before_self, ranks_tids, tells_tids, those_in}
use Rattle.order_merge.specs.Next.{IsNext, is_earlier}

-- the earliest of the list, or none where there is nothing in it
abbrev pub IsBest : List Tid → Option Tid → Type 0
IsBest xs None = xs ≡ []
IsBest xs (Some t) = IsEarliest tid_before xs t

-- the free ones among the first of the first so many queues
abbrev pub seen : List (List Tid) → ℕ → List Tid
seen queues i = those (is_free same_tid queues) (heads (take i queues))

-- the earlier of the best and of one more is the best of both
best_more : (xs : List Tid) (y : Tid) (best : Option Tid) → IsBest xs best → IsBest (xs ++ y ∷ []) (Some (earlier tid_before y best))
best_more xs y None h =
    let alone : IsEarliest tid_before (y ∷ []) y =
    record {
      item = inl refl;
      least = λ u i. elim i [ inl p ↦ subst (λ z. tid_before z y ≡ false) p (not_before_self tid_before ranks_tids y) | inr j ↦ absurd j ];
    } in
    subst (λ (zs : List Tid). IsEarliest tid_before (zs ++ y ∷ []) y) (sym h) alone
best_more xs y (Some t) h = earliest_push tid_before ranks_tids xs y t h

heads-append : {A : Type 0} (xs ys : List (List A)) → heads (xs ++ ys) ≡ heads xs ++ heads ys
heads-append [] ys = refl
heads-append ([] ∷ xs) ys = heads-append xs ys
heads-append ((x ∷ ts) ∷ xs) ys = ap (λ zs. x ∷ zs) (heads-append xs ys)

seen_more : (queues : List (List Tid)) (i : ℕ) (q : List Tid) → i < length queues → get_or queues i q ≡ q →
    seen queues (i + 1) ≡ seen queues i ++ those (is_free same_tid queues) (heads (q ∷ []))
seen_more queues i q h e =
    ap (λ qs. those (is_free same_tid queues) (heads qs)) (take_more queues i q h)
    ∙ (ap (λ p. those (is_free same_tid queues) (heads (take i queues ++ p ∷ []))) e
    ∙ (ap (those (is_free same_tid queues)) (heads-append (take i queues) (q ∷ []))
    ∙ those_append (is_free same_tid queues) (heads (take i queues)) (heads (q ∷ []))))

-- a queue of which nothing is left changes nothing
pub best_empty : (queues : List (List Tid)) (i : ℕ) (q : List Tid) (best : Option Tid) → i < length queues → get_or queues i q ≡ q →
    slice_get q 0 ≡ None → IsBest (seen queues i) best → IsBest (seen queues (i + 1)) best
best_empty queues i [] best h e f b = subst (λ xs. IsBest xs best) (sym (seen_more queues i [] h e ∙ append_nil (seen queues i))) b
best_empty queues i (x ∷ xs) best h e f b = cc

-- nor does one whose first member isn't free
pub best_waits : (queues : List (List Tid)) (i : ℕ) (q : List Tid) (t : Tid) (best : Option Tid) → i < length queues → get_or queues i q ≡ q →
    slice_get q 0 ≡ Some t → is_free same_tid queues t ≡ false → IsBest (seen queues i) best → IsBest (seen queues (i + 1)) best
best_waits queues i [] t best h e f g b = cc
best_waits queues i (x ∷ xs) t best h e f g b =
    let first : x ≡ t = cc in
    let out : is_free same_tid queues x ≡ false = ap (is_free same_tid queues) first ∙ g in
    let none : those (is_free same_tid queues) (x ∷ []) ≡ [] = rw out refl in
    subst (λ xs. IsBest xs best) (sym (seen_more queues i (x ∷ xs) h e ∙ (ap (λ ys. seen queues i ++ ys) none ∙ append_nil (seen queues i)))) b

-- a free one is compared with the best so far
pub best_free : (queues : List (List Tid)) (i : ℕ) (q : List Tid) (t : Tid) (best : Option Tid) → i < length queues → get_or queues i q ≡ q →
    slice_get q 0 ≡ Some t → is_free same_tid queues t ≡ true → IsBest (seen queues i) best → IsBest (seen queues (i + 1)) (Some (earlier tid_before t best))
best_free queues i [] t best h e f g b = cc
best_free queues i (x ∷ xs) t best h e f g b =
    let first : x ≡ t = cc in
    let here : is_free same_tid queues x ≡ true = ap (is_free same_tid queues) first ∙ g in
    let one : those (is_free same_tid queues) (x ∷ []) ≡ t ∷ [] = rw here (ap (λ z. z ∷ []) first) in
    subst (λ xs. IsBest xs (Some (earlier tid_before t best))) (sym (seen_more queues i (x ∷ xs) h e ∙ ap (λ ys. seen queues i ++ ys) one)) (best_more (seen queues i) t best b)

earlier_is : (t : Tid) (best : Option Tid) → is_earlier t best ≡ true → earlier tid_before t best ≡ t
earlier_is t None e = refl
earlier_is t (Some other) e = cond-false _ _ _ (ranks_tids.one_way t other e)

-- where it is before the best so far, it is the best
pub best_earlier : (queues : List (List Tid)) (i : ℕ) (q : List Tid) (t : Tid) (best : Option Tid) → i < length queues → get_or queues i q ≡ q →
    slice_get q 0 ≡ Some t → is_earlier t best ≡ true → is_free same_tid queues t ≡ true → IsBest (seen queues i) best → IsBest (seen queues (i + 1)) (Some t)
best_earlier queues i q t best h e f before g b =
    subst (λ (x : Tid). IsBest (seen queues (i + 1)) (Some x)) (earlier_is t best before) (best_free queues i q t best h e f g b)

-- one that isn't before the best so far changes nothing
later_stays : (xs ys : List Tid) (best : Option Tid) (t : Tid) → is_earlier t best ≡ false → ((u : Tid) → In u ys → u ≡ t) → IsBest xs best → IsBest (xs ++ ys) best
later_stays xs ys None t e alone b = cc
later_stays xs ys (Some other) t e alone b = record {
  item = append_in other xs ys (inl b.item);
  least = λ u i. elim (in_parts xs ys u i) [ inl j ↦ b.least u j | inr j ↦ subst (λ (v : Tid). tid_before v other ≡ false) (sym (alone u j)) e ];
}

pub best_later : (queues : List (List Tid)) (i : ℕ) (q : List Tid) (t : Tid) (best : Option Tid) → i < length queues → get_or queues i q ≡ q →
    slice_get q 0 ≡ Some t → is_earlier t best ≡ false → IsBest (seen queues i) best → IsBest (seen queues (i + 1)) best
best_later queues i [] t best h e f later b = cc
best_later queues i (x ∷ xs) t best h e f later b =
    subst (λ ys. IsBest ys best) (sym (seen_more queues i (x ∷ xs) h e))
    (later_stays (seen queues i) (those (is_free same_tid queues) (x ∷ [])) best t later (λ u j. only u (those_in (is_free same_tid queues) u (x ∷ []) j).0) b)
  where
    only : (u : Tid) → In u (x ∷ []) → u ≡ t
    only u (inl p) = let first : x ≡ t = cc in sym p ∙ first
    only u (inr j) = absurd j

next_is : (queues : List (List Tid)) (best : Option Tid) → IsBest (those (is_free same_tid queues) (heads queues)) best → IsNext queues best
next_is queues None h = λ t f. subst (In t) h (is_free_in same_tid tells_tids queues t f)
next_is queues (Some t) h =
    let i = those_in (is_free same_tid queues) t (heads queues) h.item in
    (free_is same_tid tells_tids queues t i.0 i.1, (λ u f. h.least u (is_free_in same_tid tells_tids queues u f)))

-- the best of all queues is the next member
pub best_is_next : (queues : List (List Tid)) (n : ℕ) (best : Option Tid) → length queues ≤ n → IsBest (seen queues n) best → IsNext queues best
best_is_next queues n best h b =
    next_is queues best (subst (λ qs. IsBest (those (is_free same_tid queues) (heads qs)) best) (take_all n queues h) b)
