-- Keys and ages, by key and then by age.
use Rattle.std.proofs.Common.{◌≡◌, ℕ, Bool, true, false, not, ◌&&◌, cond, nat_eq, is_some, Option, Some, None, List, [], ◌∷◌, refl, sym, ap, ◌∙◌}
use Rattle.std.specs.Cmp.{IsTotalOrder, nat_cmp_total}
use Rattle.std.specs.Ordering.{nat_cmp, is_eq}
use Rattle.std.specs.FinMap.{from_entries, find, get, get-insert, get-remove, get-from_entries, insert, remove, same_map}
use Rattle.std.specs.Map.{lookup}
use Rattle.std.specs.BTreeMap.{is_at}
use Rattle.std.proofs.lemmas.Bool.{cond-false, eqb-true, and_parts}
use Rattle.std.proofs.lemmas.Cmp.{on_total, then_total}
use Rattle.std.proofs.lemmas.Map.Lookups.{CmpEqualImpliesEq, exact_pairs, exact_unsigned}
use Rattle.mdb_base.specs.declared.names.Tid.{Tid}
use Rattle.mdb_base.proofs.ForCallers.{is_eq-nat_cmp, is_eq-then}
use Rattle.locking_engine.specs.Places.{Place}
use Rattle.locking_engine.specs.Holders.{Holders, place_cmp, held_by}

exact_places : CmpEqualImpliesEq place_cmp
exact_places a b h =
    ap (λ (p : ℕ × ℕ). let q : Place = record { key = p.0; age = p.1 } in q)
    (exact_pairs nat_cmp nat_cmp exact_unsigned exact_unsigned (a.key, a.age) (b.key, b.age) h)

places_total : IsTotalOrder place_cmp
places_total = then_total (on_total (λ p. p.key) nat_cmp_total) (on_total (λ p. p.age) nat_cmp_total)

abbrev pub same_place : Place → Place → Bool
same_place a b = nat_eq a.key b.key && nat_eq a.age b.age

pub ties : (a b : Place) → is_eq (place_cmp a b) ≡ same_place a b
ties a b =
    is_eq-then (nat_cmp a.key b.key) (nat_cmp a.age b.age)
    ∙ ap (λ (x : Bool). x && is_eq (nat_cmp a.age b.age)) (is_eq-nat_cmp a.key b.key)
    ∙ ap (λ (y : Bool). nat_eq a.key b.key && y) (is_eq-nat_cmp a.age b.age)

pub place-equal : (a b : Place) → same_place a b ≡ true → a ≡ b
place-equal a b e =
    let both = and_parts (nat_eq a.key b.key) (nat_eq a.age b.age) e in
    ap (λ (n : ℕ). let q : Place = record { key = n; age = a.age } in q) (eqb-true a.key b.key both.0)
    ∙ ap (λ (n : ℕ). let q : Place = record { key = b.key; age = n } in q) (eqb-true a.age b.age both.1)

-- what a map of holders has at a place after one is put in or taken out
pub holder-put : (m : Holders) (p q : Place) (t : Tid) → get (insert m p t) q ≡ cond (same_place q p) (Some t) (get m q)
holder-put m p q t = get-insert places_total m p t q ∙ ap (λ (b : Bool). cond b (Some t) (get m q)) (ties q p)

pub holder-gone : (m : Holders) (p q : Place) → get (remove m p) q ≡ cond (same_place q p) None (get m q)
holder-gone m p q = get-remove places_total m p q ∙ ap (λ (b : Bool). cond b None (get m q)) (ties q p)

pub same_holders_map : (m n : Holders) → ((q : Place) → get m q ≡ get n q) → m ≡ n
same_holders_map m n h = same_map places_total exact_places m n h

-- a look-up in a list of them
abbrev pub look : List (Place × Tid) → Place → Option Tid
look es q = lookup (is_at (place_cmp q)) es

find_holder : (es : List (Place × Tid)) (q : Place) → find place_cmp q es ≡ look es q
find_holder [] q = refl
find_holder (e ∷ es) q = ap (cond (is_at (place_cmp q) e.0) (Some e.1)) (find_holder es q)

pub get_holder : (es : List (Place × Tid)) (q : Place) → get (from_entries {R = place_cmp} es) q ≡ look es q
get_holder es q = get-from_entries places_total es q ∙ find_holder es q

-- who is put in where nobody stands
pub held_new : (m : Holders) (p : Place) (t : Tid) → is_some (get m p) ≡ false → insert m p t ≡ held_by p t m
held_new m p t e = sym (cond-false _ _ _ e)

-- who was put in where nobody stood is taken out again
pub undone : (m : Holders) (p : Place) (t : Tid) → not (is_some (get m p)) ≡ true → remove (held_by p t m) p ≡ m
undone m p t fresh = by_there (get m p) refl fresh
  where
    none_at : (q : Place) (b : Bool) → same_place q p ≡ b → get m p ≡ None → cond b None (cond b (Some t) (get m q)) ≡ get m q
    none_at q true e none = sym (ap (λ (x : Place). get m x) (place-equal q p e) ∙ none)
    none_at q false e none = refl

    by_there : (o : Option Tid) → get m p ≡ o → not (is_some o) ≡ true → remove (cond (is_some o) m (insert m p t)) p ≡ m
    by_there None none e =
        same_holders_map _ _ (λ q. holder-gone (insert m p t) p q ∙ (ap (λ (o : Option Tid). cond (same_place q p) None o) (holder-put m p q t) ∙ none_at q (same_place q p) refl none))
    by_there (Some u) is e = cc
