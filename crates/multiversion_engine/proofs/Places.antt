-- Keys and numbers, by key and then by number.
use Rattle.std.proofs.Common.{◌≡◌, ℕ, ◌<◌, ◌≤◌, ◌⊎◌, Bool, true, false, ◌&&◌, cond, nat_eq, Option, Some, None, List, [], ◌∷◌, inl, inr, refl, sym, ap, ◌∙◌, arith}
use Rattle.std.specs.declared.cmp.Ordering.{Ordering}
use Rattle.std.specs.declared.cmp.Ordering.TheVariants.{Less, Equal, Greater}
use Rattle.std.specs.Cmp.{IsTotalOrder, nat_cmp_total}
use Rattle.std.specs.Ordering.{nat_cmp, ordering_then, is_eq, is_gt, is_lt}
use Rattle.std.specs.FinMap.{from_entries, find, get, get-insert, get-remove, get-from_entries, insert, remove, same_map}
use Rattle.std.specs.Map.{lookup}
use Rattle.std.specs.BTreeMap.{is_at}
use Rattle.std.proofs.lemmas.Bool.{eqb-true, eq-eqb, and_parts, and_from}
use Rattle.std.proofs.lemmas.Bool.Decides.{nat_tests}
use Rattle.std.proofs.lemmas.Cmp.{on_total, then_total}
use Rattle.std.proofs.lemmas.Map.Lookups.{CmpEqualImpliesEq, exact_pairs, exact_unsigned}
use Rattle.std.proofs.lemmas.Map.Keys.{le_from_not_gt}
use Rattle.mdb_base.proofs.ForCallers.{is_eq-nat_cmp, is_eq-then, le-nat_cmp, less-nat_cmp, nat_cmp-equal, nat_cmp-less, nat_cmp-same}
use Rattle.multiversion_engine.specs.declared.old_versions.Place.{Place}
use Rattle.multiversion_engine.specs.OldVersions.{Olds, place_cmp}

exact_places : CmpEqualImpliesEq place_cmp
exact_places a b h =
    ap (λ (p : ℕ × ℕ). let q : Place = record { key = p.0; number = p.1 } in q)
    (exact_pairs nat_cmp nat_cmp exact_unsigned exact_unsigned (a.key, a.number) (b.key, b.number) h)

places_total : IsTotalOrder place_cmp
places_total = then_total (on_total (λ p. p.key) nat_cmp_total) (on_total (λ p. p.number) nat_cmp_total)

abbrev pub same_place : Place → Place → Bool
same_place a b = nat_eq a.key b.key && nat_eq a.number b.number

ties : (a b : Place) → is_eq (place_cmp a b) ≡ same_place a b
ties a b =
    is_eq-then (nat_cmp a.key b.key) (nat_cmp a.number b.number)
    ∙ ap (λ (x : Bool). x && is_eq (nat_cmp a.number b.number)) (is_eq-nat_cmp a.key b.key)
    ∙ ap (λ (y : Bool). nat_eq a.key b.key && y) (is_eq-nat_cmp a.number b.number)

pub place-equal : (a b : Place) → same_place a b ≡ true → a ≡ b
place-equal a b e =
    let both = and_parts (nat_eq a.key b.key) (nat_eq a.number b.number) e in
    ap (λ (n : ℕ). let q : Place = record { key = n; number = a.number } in q) (eqb-true a.key b.key both.0)
    ∙ ap (λ (n : ℕ). let q : Place = record { key = b.key; number = n } in q) (eqb-true a.number b.number both.1)

pub self_place : (p : Place) → same_place p p ≡ true
self_place p = and_from (nat_eq p.key p.key) (nat_eq p.number p.number) (eq-eqb p.key p.key refl) (eq-eqb p.number p.number refl)

-- what is at a place after a version is put in or taken out
pub version-put : (m : Olds) (p q : Place) (v : ℕ) → get (insert m p v) q ≡ cond (same_place q p) (Some v) (get m q)
version-put m p q v = get-insert places_total m p v q ∙ ap (λ (b : Bool). cond b (Some v) (get m q)) (ties q p)

pub version-gone : (m : Olds) (p q : Place) → get (remove m p) q ≡ cond (same_place q p) None (get m q)
version-gone m p q = get-remove places_total m p q ∙ ap (λ (b : Bool). cond b None (get m q)) (ties q p)

same_olds_map : (m n : Olds) → ((q : Place) → get m q ≡ get n q) → m ≡ n
same_olds_map m n h = same_map places_total exact_places m n h

-- the tree that keeps them
abbrev pub look : List (Place × ℕ) → Place → Option ℕ
look es q = lookup (is_at (place_cmp q)) es

find_version : (es : List (Place × ℕ)) (q : Place) → find place_cmp q es ≡ look es q
find_version [] q = refl
find_version (e ∷ es) q = ap (cond (is_at (place_cmp q) e.0) (Some e.1)) (find_version es q)

pub get_version : (es : List (Place × ℕ)) (q : Place) → get (from_entries {R = place_cmp} es) q ≡ look es q
get_version es q = get-from_entries places_total es q ∙ find_version es q

turned : (a b : Place) → is_eq (place_cmp a b) ≡ same_place b a
turned a b = ties a b ∙ same_turned a b
  where
    same_turned : (x y : Place) → same_place x y ≡ same_place y x
    same_turned x y = grind (arith, nat_tests)

pub entries_put : (es fs : List (Place × ℕ)) (p : Place) (v : ℕ) → ((q : Place) → look fs q ≡ cond (is_at (place_cmp p) q) (Some v) (look es q)) → from_entries {R = place_cmp} fs ≡ insert (from_entries es) p v
entries_put es fs p v h =
    same_olds_map _ _ (λ q. get_version fs q ∙ h q ∙ ap (λ (b : Bool). cond b (Some v) (look es q)) (turned p q)
    ∙ sym (version-put (from_entries es) p q v ∙ ap (cond (same_place q p) (Some v)) (get_version es q)))

pub entries_gone : (es fs : List (Place × ℕ)) (p : Place) → ((q : Place) → look fs q ≡ cond (is_at (place_cmp p) q) None (look es q)) → from_entries {R = place_cmp} fs ≡ remove (from_entries es) p
entries_gone es fs p h =
    same_olds_map _ _ (λ q. get_version fs q ∙ h q ∙ ap (λ (b : Bool). cond b None (look es q)) (turned p q)
    ∙ sym (version-gone (from_entries es) p q ∙ ap (cond (same_place q p) None) (get_version es q)))

-- comparisons of places
pub below_of : (a b : Place) → place_cmp a b ≡ Less → (a.key < b.key) ⊎ ((a.key ≡ b.key) × (a.number < b.number))
below_of a b h = by_order (nat_cmp a.key b.key) refl h
  where
    by_order : (o : Ordering) → nat_cmp a.key b.key ≡ o → ordering_then o (nat_cmp a.number b.number) ≡ Less → (a.key < b.key) ⊎ ((a.key ≡ b.key) × (a.number < b.number))
    by_order Less e h = inl (nat_cmp-less _ _ e)
    by_order Equal e h = inr (nat_cmp-equal _ _ e, nat_cmp-less _ _ h)
    by_order Greater e h = cc

pub up_to_of : (a b : Place) → is_gt (place_cmp a b) ≡ false → (a.key < b.key) ⊎ ((a.key ≡ b.key) × (a.number ≤ b.number))
up_to_of a b h = by_order (nat_cmp a.key b.key) refl h
  where
    by_order : (o : Ordering) → nat_cmp a.key b.key ≡ o → is_gt (ordering_then o (nat_cmp a.number b.number)) ≡ false → (a.key < b.key) ⊎ ((a.key ≡ b.key) × (a.number ≤ b.number))
    by_order Less e h = inl (nat_cmp-less _ _ e)
    by_order Equal e h = inr (nat_cmp-equal _ _ e, le_from_not_gt _ _ h)
    by_order Greater e h = cc

pub below_here : (key x y : ℕ) → x < y → place_cmp (record { key = key; number = x }) (record { key = key; number = y }) ≡ Less
below_here key x y h = ap (λ (o : Ordering). ordering_then o (nat_cmp x y)) (nat_cmp-same key) ∙ less-nat_cmp x y h

pub up_to_here : (key x y : ℕ) → x ≤ y → is_gt (place_cmp (record { key = key; number = x }) (record { key = key; number = y })) ≡ false
up_to_here key x y h = ap (λ (o : Ordering). is_gt (ordering_then o (nat_cmp x y))) (nat_cmp-same key) ∙ le-nat_cmp x y h

-- a later place of the key is above
pub less_here : (key x y : ℕ) → x < y → is_lt (place_cmp (record { key = key; number = x }) (record { key = key; number = y })) ≡ true
less_here key x y h = ap (λ (o : Ordering). is_lt o) (below_here key x y h)
