-- The places of sites in a list.
use Rattle.std.proofs.Common.{◌≡◌, ℕ, zero, suc, ◌<◌, ◌≤◌, Bool, true, false, cond, Option, Some, None, List, [], ◌∷◌, ◌++◌, length, slice_get, refl, sym, ap, ◌∙◌, eqb-true, leb, ltb, arith}
use Rattle.std.proofs.lemmas.Option.{slice_get_past}
use Rattle.std.proofs.lemmas.Bool.{leb-true, leb-false, ltb-false}
use Rattle.mdb_base.specs.declared.names.SiteId.{SiteId}
use Rattle.mdb_base.specs.Names.{same_site}
use Rattle.mdb_base.specs.Words.{Each, map_some, or_else}
use Rattle.record_fields.specs.Named.{IsSite}
use Rattle.session_routes.specs.Routes.{ArePlaces, place_in}

-- an item behind the others
pub snoc_get : {A : Type 0} (xs : List A) (x : A) (n : ℕ) → n ≡ length xs → slice_get (xs ++ x ∷ []) n ≡ Some x
snoc_get [] x zero e = refl
snoc_get [] x (suc n) e = absurd (omega (arith, e))
snoc_get (y ∷ xs) x zero e = absurd (omega (arith, e))
snoc_get (y ∷ xs) x (suc n) e = snoc_get xs x n (omega (arith, e))

pub snoc_before : {A : Type 0} (xs : List A) (x : A) (n : ℕ) → n < length xs → slice_get (xs ++ x ∷ []) n ≡ slice_get xs n
snoc_before [] x n h = absurd (omega (arith, h))
snoc_before (y ∷ xs) x zero h = refl
snoc_before (y ∷ xs) x (suc n) h = snoc_before xs x n (omega (arith, h))

-- no site stands behind the last number
pub none_behind : (sites : List SiteId) (n : ℕ) → Each IsSite sites → 9 ≤ n → place_in sites (record { 0 = n }) ≡ None
none_behind [] n range h = refl
none_behind (site ∷ sites) n range h = by_test (same_site site (record { 0 = n })) refl (none_behind sites n range.1 h)
  where
    by_test : (b : Bool) → same_site site (record { 0 = n }) ≡ b → place_in sites (record { 0 = n }) ≡ None → cond b (Some zero) (map_some (λ (k : ℕ). suc k) (place_in sites (record { 0 = n }))) ≡ None
    by_test true is e = (let same : site.0 ≡ n = eqb-true site.0 n is in let most = range.0.greatest in absurd (omega (arith, same, most, h)))
    by_test false is e = ap (λ (o : Option ℕ). map_some (λ (k : ℕ). suc k) o) e

-- the places of the first nine numbers are all places
pub are_places : (sites : List SiteId) (places : List (Option ℕ)) → Each IsSite sites → length places ≡ 9 → ((n : ℕ) → n < 9 → slice_get places n ≡ Some (place_in sites (record { 0 = n }))) → ArePlaces sites places
are_places sites places range count at n = by_size (leb 9 n) refl
  where
    by_size : (b : Bool) → leb 9 n ≡ b → or_else (slice_get places n) None ≡ place_in sites (record { 0 = n })
    by_size true e = (let h = leb-true 9 n e in ap (λ o. or_else o None) (slice_get_past places n (omega (arith, h, count))) ∙ sym (none_behind sites n range h))
    by_size false e = (let h = leb-false 9 n e in ap (λ o. or_else o None) (at n (omega (arith, h))))

-- a number behind all places is nowhere
pub none_at : (sites : List SiteId) (places : List (Option ℕ)) (n : ℕ) → ArePlaces sites places → false ≡ ltb n (length places) → None ≡ place_in sites (record { 0 = n })
none_at sites places n are e = let h = ltb-false n (length places) (sym e) in sym (ap (λ (o : Option (Option ℕ)). or_else o None) (slice_get_past places n h)) ∙ are n
