-- Rows: look-ups in them, and rows by rising key.
use Rattle.std.specs.Prelude.{nat_lt}
use Rattle.std.proofs.Common.{◌≡◌, ℕ, ◌<◌, ◌≤◌, Bool, true, false, cond, Option, Some, None, List, [], ◌∷◌, map, nat_eq, refl, sym, ap, ap₂, ◌∙◌, ◌⊎◌, inl, inr, arith, nat_lt}
use Rattle.std.specs.Cmp.{nat_eq_equiv}
use Rattle.std.specs.List.{IsDistinct}
use Rattle.std.specs.List.Sorted.{IsPermutation, IsNonDecreasingBy}
use Rattle.std.specs.Map.{lookup, keys_of}
use Rattle.std.proofs.lemmas.Bool.{eqb-false, eq-eqb, ne_eqb, cases_eq, cases_order}
use Rattle.std.proofs.lemmas.Bool.Decides.{nat_tests}
use Rattle.std.proofs.lemmas.List.Sorted.{Contains-permutation, IsPermutation-map, IsPermutation-sym, IsNonDecreasingBy-drop}
use Rattle.std.proofs.lemmas.Map.Keys.{IsDistinct-head, IsDistinct-tail, IsDistinct-IsPermutation}
use Rattle.std.proofs.lemmas.Map.Views.{Contains-from_lookup, lookup-from_Contains, exact_unsigned_eq}
use Rattle.mdb_base.specs.declared.names.Key.{Key}
use Rattle.mdb_base.specs.declared.rows.Put.{Put}
use Rattle.mdb_base.specs.Names.{same_key}
use Rattle.mdb_base.specs.Rising.{IsRising}
use Rattle.mdb_base.specs.Rows.{HaveOwnKeys, look_up, value_in, with_row, with_rows}
use Rattle.mdb_base.specs.Words.{or_else, Each}
use Rattle.mdb_base.proofs.NameLaws.{same_key-equal}
use Rattle.mdb_base.proofs.OptionLaws.{first_of}

or_else-cond : (b : Bool) (value : ℕ) (o : Option ℕ) → cond b value (or_else o 0) ≡ or_else (cond b (Some value) o) 0
or_else-cond true value o = refl
or_else-cond false value o = refl

-- the value of a key, or 0
pub look_up-value_in : (rows : List Put) (key : Key) → look_up rows key ≡ or_else (value_in rows key) 0
look_up-value_in [] key = refl
look_up-value_in (row ∷ rows) key =
    ap (cond (same_key row.key key) row.value) (look_up-value_in rows key) ∙ or_else-cond (same_key row.key key) row.value (value_in rows key)

pub nat_eq-sym : (x y : ℕ) → nat_eq x y ≡ nat_eq y x
nat_eq-sym x y = grind (arith, nat_tests)

-- a row as a pair
abbrev pair_of : Put → ℕ × ℕ
pair_of row = (row.key.0, row.value)

value_in-lookup : (rows : List Put) (key : Key) → value_in rows key ≡ lookup (nat_eq key.0) (map pair_of rows)
value_in-lookup [] key = refl
value_in-lookup (row ∷ rows) key =
    ap (cond (same_key row.key key) (Some row.value)) (value_in-lookup rows key)
    ∙ ap (λ b. cond b (Some row.value) (lookup (nat_eq key.0) (map pair_of rows))) (nat_eq-sym row.key.0 key.0)

-- what is found in one of two lists is found in the other
found_alike : (o p : Option ℕ) → ((v : ℕ) → o ≡ Some v → p ≡ Some v) → ((v : ℕ) → p ≡ Some v → o ≡ Some v) → p ≡ o
found_alike None None there back = refl
found_alike None (Some v) there back = sym (back v refl)
found_alike (Some v) p there back = there v refl

moved : (xs ys : List (ℕ × ℕ)) → IsPermutation xs ys → IsDistinct nat_eq (keys_of ys) → (key v : ℕ) → lookup (nat_eq key) xs ≡ Some v → lookup (nat_eq key) ys ≡ Some v
moved xs ys moves apart key v e =
    lookup-from_Contains nat_eq_equiv key v ys apart (Contains-permutation xs ys (key, v) moves (Contains-from_lookup exact_unsigned_eq key v xs e))

same_keys : (rows : List Put) → keys_of (map pair_of rows) ≡ map (λ row. row.key.0) rows
same_keys [] = refl
same_keys (row ∷ rows) = ap (λ ks. row.key.0 ∷ ks) (same_keys rows)

-- after a sort each row has its own key
pub HaveOwnKeys-sorted : (rows sorted : List Put) → IsPermutation rows sorted → HaveOwnKeys rows → HaveOwnKeys sorted
HaveOwnKeys-sorted rows sorted moves apart =
    IsDistinct-IsPermutation nat_eq nat_eq-sym _ _ (IsPermutation-map (λ row. row.key.0) rows sorted moves) apart

-- and each key has its value
pub value_in-sorted : (rows sorted : List Put) → IsPermutation rows sorted → HaveOwnKeys rows → (key : Key) → value_in sorted key ≡ value_in rows key
value_in-sorted rows sorted moves apart key =
    let by_pairs = IsPermutation-map pair_of rows sorted moves in
    let before : IsDistinct nat_eq (keys_of (map pair_of rows)) = rw same_keys apart in
    let after : IsDistinct nat_eq (keys_of (map pair_of sorted)) = rw same_keys (HaveOwnKeys-sorted rows sorted moves apart) in
    value_in-lookup sorted key
    ∙ found_alike _ _ (moved _ _ by_pairs after key.0) (moved _ _ (IsPermutation-sym _ _ by_pairs) before key.0)
    ∙ sym (value_in-lookup rows key)

-- keys that don't fall and differ rise
pub IsRising-from_sorted : (rows : List Put) → IsNonDecreasingBy (λ row. row.key.0) rows → HaveOwnKeys rows → IsRising (λ row. row.key.0) rows
IsRising-from_sorted [] order apart = tt
IsRising-from_sorted (x ∷ []) order apart = tt
IsRising-from_sorted (x ∷ y ∷ ys) order apart =
    let le = order 0 1 x (omega arith) (omega arith) in
    let ne = eqb-false x.key.0 y.key.0 (IsDistinct-head nat_eq x.key.0 _ apart).0 in
    (omega (arith, le, ne), IsRising-from_sorted (y ∷ ys) (IsNonDecreasingBy-drop (λ row. row.key.0) 1 (x ∷ y ∷ ys) order) (IsDistinct-tail nat_eq x.key.0 _ apart))

-- rows behind a row have greater keys
none_below : (rows : List Put) (x : Put) (key : Key) → IsRising (λ row. row.key.0) (x ∷ rows) → key.0 ≤ x.key.0 → value_in rows key ≡ None
none_below [] x key rising le = refl
none_below (y ∷ ys) x key rising le =
    let less = rising.0 in
    let apart : same_key y.key key ≡ false = ne_eqb y.key.0 key.0 (omega (arith, less)) in
    ap (λ b. cond b (Some y.value) (value_in ys key)) apart ∙ none_below ys y key rising.1 (omega (arith, less))

pub rising_tail : (x : Put) (xs : List Put) → IsRising (λ row. row.key.0) (x ∷ xs) → IsRising (λ row. row.key.0) xs
rising_tail x [] rising = tt
rising_tail x (y ∷ ys) rising = rising.1

own_value : (x : Put) (xs : List Put) → value_in (x ∷ xs) x.key ≡ Some x.value
own_value x xs = ap (λ b. cond b (Some x.value) (value_in xs x.key)) (eq-eqb x.key.0 x.key.0 refl)

-- a row whose key is less than those of the others isn't among them
not_first : (x y : Put) (xs ys : List Put) → IsRising (λ row. row.key.0) (y ∷ ys) → value_in (x ∷ xs) x.key ≡ value_in (y ∷ ys) x.key → x.key.0 < y.key.0 → ⊥
not_first x y xs ys rising same less =
    let apart : same_key y.key x.key ≡ false = ne_eqb y.key.0 x.key.0 (omega (arith, less)) in
    let none : value_in (y ∷ ys) x.key ≡ None = ap (λ b. cond b (Some y.value) (value_in ys x.key)) apart ∙ none_below ys y x.key rising (omega (arith, less)) in
    let found : Some x.value ≡ None = sym (own_value x xs) ∙ same ∙ none in
    cc

-- rows by rising key that give each key the same value are the same rows
pub same_rows : (xs ys : List Put) → IsRising (λ row. row.key.0) xs → IsRising (λ row. row.key.0) ys → ((key : Key) → value_in xs key ≡ value_in ys key) → xs ≡ ys
same_rows [] [] up above same = refl
same_rows [] (y ∷ ys) up above same = let found : None ≡ Some y.value = same y.key ∙ own_value y ys in absurd cc
same_rows (x ∷ xs) [] up above same = let found : Some x.value ≡ None = sym (own_value x xs) ∙ same x.key in absurd cc
same_rows (x ∷ xs) (y ∷ ys) up above same = by_order (cases_order x.key.0 y.key.0) (same_rows xs ys (rising_tail x xs up) (rising_tail y ys above))
  where
    rest : x ≡ y → (key : Key) → value_in xs key ≡ value_in ys key
    rest e key = elim (cases_eq x.key.0 key.0) [
      | inl here ↦ none_below xs x key up (omega (arith, here)) ∙ sym (none_below ys y key above (let k : x.key.0 ≡ y.key.0 = ap (λ (z : Put). z.key.0) e in omega (arith, here, k)))
      | inr apart ↦
          (let left : same_key x.key key ≡ false = ne_eqb x.key.0 key.0 apart in
          let right : same_key y.key key ≡ false = ap (λ (z : Put). same_key z.key key) (sym e) ∙ left in
          sym (ap (λ b. cond b (Some x.value) (value_in xs key)) left) ∙ same key ∙ ap (λ b. cond b (Some y.value) (value_in ys key)) right)
    ]

    by_order : (x.key.0 ≡ y.key.0) ⊎ ((x.key.0 < y.key.0) ⊎ (y.key.0 < x.key.0)) → (((key : Key) → value_in xs key ≡ value_in ys key) → xs ≡ ys) → x ∷ xs ≡ y ∷ ys
    by_order (inl e) tails =
        let keys : x.key ≡ y.key = ap {A = ℕ} (λ n. record { 0 = n }) e in
        let found : Some x.value ≡ Some y.value = sym (own_value x xs) ∙ same x.key ∙ ap (value_in (y ∷ ys)) keys ∙ own_value y ys in
        let values : x.value ≡ y.value = cc in
        let rows : x ≡ y = ap₂ (λ k v. record { key = k; value = v }) keys values in
        ap₂ (λ z zs. z ∷ zs) rows (tails (rest rows))
    by_order (inr (inl less)) tails = absurd (not_first x y xs ys above (same x.key) less)
    by_order (inr (inr more)) tails = absurd (not_first y x ys xs up (sym (same y.key)) more)

-- a row that is put is what is found at its key
pub value_in-with_row : (row : Put) (rows : List Put) (key : Key) → value_in (with_row row rows) key ≡ cond (same_key row.key key) (Some row.value) (value_in rows key)
value_in-with_row row [] key = refl
value_in-with_row row (other ∷ rows) key = by_same (same_key other.key row.key) refl (value_in-with_row row rows key)
  where
    swaps : (a b : Bool) (x y : Option _) → (a ≡ true → b ≡ true → ⊥) → cond a x (cond b y (value_in rows key)) ≡ cond b y (cond a x (value_in rows key))
    swaps true true x y apart = absurd (apart refl refl)
    swaps true false x y apart = refl
    swaps false b x y apart = refl

    covers : (a b : Bool) (x y : Option _) → a ≡ b → cond a x (value_in rows key) ≡ cond a x (cond b y (value_in rows key))
    covers true b x y e = refl
    covers false true x y e = absurd cc
    covers false false x y e = refl

    by_less : (b : Bool) → same_key other.key row.key ≡ false
        → value_in (with_row row rows) key ≡ cond (same_key row.key key) (Some row.value) (value_in rows key)
        → value_in (cond b (other ∷ with_row row rows) (row ∷ other ∷ rows)) key ≡ cond (same_key row.key key) (Some row.value) (value_in (other ∷ rows) key)
    by_less true apart rest =
        ap (cond (same_key other.key key) (Some other.value)) rest
        ∙ swaps (same_key other.key key) (same_key row.key key) (Some other.value) (Some row.value)
        (λ a b. let k = same_key-equal other.key key a ∙ sym (same_key-equal row.key key b) in
        let same : same_key other.key row.key ≡ true = eq-eqb other.key.0 row.key.0 (ap (λ k. k.0) k) in cc)
    by_less false apart rest = refl

    by_same : (b : Bool) → same_key other.key row.key ≡ b
        → value_in (with_row row rows) key ≡ cond (same_key row.key key) (Some row.value) (value_in rows key)
        → value_in (cond b (row ∷ rows) (cond (nat_lt other.key.0 row.key.0) (other ∷ with_row row rows) (row ∷ other ∷ rows))) key
        ≡ cond (same_key row.key key) (Some row.value) (value_in (other ∷ rows) key)
    by_same true is rest =
        covers (same_key row.key key) (same_key other.key key) (Some row.value) (Some other.value) (ap (λ k. same_key k key) (sym (same_key-equal other.key row.key is)))
    by_same false apart rest = by_less (nat_lt other.key.0 row.key.0) apart rest

pub each_with_row : (P : Put → Type 0) (row : Put) (rows : List Put) → P row → Each P rows → Each P (with_row row rows)
each_with_row P row [] p h = (p, tt)
each_with_row P row (other ∷ rows) p h = by_test (same_key other.key row.key) (nat_lt other.key.0 row.key.0) (each_with_row P row rows p h.1)
  where
    by_test : (b c : Bool) → Each P (with_row row rows) → Each P (cond b (row ∷ rows) (cond c (other ∷ with_row row rows) (row ∷ other ∷ rows)))
    by_test true c k = (p, h.1)
    by_test false true k = (h.0, k)
    by_test false false k = (p, h)

pub value_in-with_rows : (writes rows : List Put) (key : Key) → value_in (with_rows writes rows) key ≡ first_of (value_in writes key) (value_in rows key)
value_in-with_rows [] rows key = refl
value_in-with_rows (row ∷ writes) rows key =
    value_in-with_row row (with_rows writes rows) key ∙ ap (cond (same_key row.key key) (Some row.value)) (value_in-with_rows writes rows key)
    ∙ by_test (same_key row.key key)
  where
    by_test : (b : Bool) → cond b (Some row.value) (first_of (value_in writes key) (value_in rows key)) ≡ first_of (cond b (Some row.value) (value_in writes key)) (value_in rows key)
    by_test true = refl
    by_test false = refl
