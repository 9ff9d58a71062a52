-- What is posted in the channels, one after another.
use Rattle.std.proofs.Common.{◌≡◌, ℕ, zero, suc, ◌+◌, ◌<◌, ◌≤◌, ◌==◌, Bool, true, false, Some, List, [], ◌∷◌, ◌++◌, length, take, slice_get, slice_set, option_to_list, refl, sym, ap, ◌∙◌, subst, eqb-true, eq-eqb, arith}
use Rattle.std.proofs.lemmas.Option.{same_Some}
use Rattle.mdb_base.proofs.ForCallers.{found_next}
use Rattle.fed_rules.specs.declared.commands.Place.{Place}
use Rattle.fed_rules.specs.declared.messages.Sent.{Sent}
use Rattle.session_routes.specs.declared.traffic.Traffic.{Traffic}
use Rattle.session_routes.specs.Posting.{IsPosted, place_to, places_to}

pub length_set : {A : Type 0} (xs : List A) (n : ℕ) (x : A) → length (slice_set xs n x) ≡ length xs
length_set [] n x = cc
length_set (y ∷ xs) zero x = refl
length_set (y ∷ xs) (suc n) x = ap (λ (k : ℕ). suc k) (length_set xs n x)

-- the item that was put
pub get_put : {A : Type 0} (xs : List A) (n : ℕ) (x : A) → n < length xs → slice_get (slice_set xs n x) n ≡ Some x
get_put [] n x h = absurd (omega (arith, h))
get_put (y ∷ xs) zero x h = refl
get_put (y ∷ xs) (suc n) x h = get_put xs n x (omega (arith, h))

-- every other one stays
pub get_other : {A : Type 0} (xs : List A) (n k : ℕ) (x : A) → (k ≡ n → ⊥) → slice_get (slice_set xs n x) k ≡ slice_get xs k
get_other [] n k x apart = cc
get_other (y ∷ xs) zero zero x apart = absurd (apart refl)
get_other (y ∷ xs) zero (suc k) x apart = refl
get_other (y ∷ xs) (suc n) zero x apart = refl
get_other (y ∷ xs) (suc n) (suc k) x apart = get_other xs n k x (λ e. apart (ap (λ (m : ℕ). suc m) e))

-- so far as it came
pub record PostedTo (sends : List Sent) (place : ℕ) (old now : List Traffic) : Type 0 where
  pub count : length now ≡ length old
  pub done : (p : ℕ) (a b : Traffic) → p < place → slice_get old p ≡ Some a → slice_get now p ≡ Some b → IsPosted sends a b
  pub left : (p : ℕ) → place ≤ p → slice_get now p ≡ slice_get old p

pub posted_next : (sends : List Sent) (place : ℕ) (old now : List Traffic) (before new : Traffic) → PostedTo sends place old now → place < length now → slice_get now place ≡ Some before → IsPosted sends before new
    → PostedTo sends (place + 1) old (slice_set now place new)
posted_next sends place old now before new h within at posted = record {
  count = length_set now place new ∙ h.count;
  done = λ p a b less ea eb. by_test p a b less ea eb (p == place) refl;
  left = λ p more. get_other now place p new (λ e. omega (arith, e, more)) ∙ h.left p (omega (arith, more));
}
  where
    by_test : (p : ℕ) (a b : Traffic) → p < place + 1 → slice_get old p ≡ Some a → slice_get (slice_set now place new) p ≡ Some b → (t : Bool) → (p == place) ≡ t → IsPosted sends a b
    by_test p a b less ea eb true is =
        let same : p ≡ place = eqb-true p place is in
        let first : a ≡ before = same_Some a before (sym ea ∙ ap (slice_get old) same ∙ sym (h.left place (omega arith)) ∙ at) in
        let last : new ≡ b = same_Some new b (sym (get_put now place new within) ∙ ap (slice_get (slice_set now place new)) (sym same) ∙ eb) in
        subst (λ (z : Traffic). IsPosted sends a z) last (subst (λ (z : Traffic). IsPosted sends z new) (sym first) posted)
    by_test p a b less ea eb false is =
        let apart : p ≡ place → ⊥ = λ e. (let yes : (p == place) ≡ true = eq-eqb p place e in let no : true ≡ false = sym yes ∙ is in cc) in
        h.done p a b (by_less p less apart) ea (sym (get_other now place p new apart) ∙ eb)
      where
        by_less : (p : ℕ) → p < place + 1 → (p ≡ place → ⊥) → p < place
        by_less p less apart = grind (arith, less, apart)

pub places_next : (sends : List Sent) (place : ℕ) (old : List Traffic) (before : Traffic) (places new : List Place) → places ≡ places_to sends (take place old) → slice_get old place ≡ Some before
    → new ≡ places ++ option_to_list (place_to sends before) → new ≡ places_to sends (take (place + 1) old)
places_next sends place old before places new so at is = is ∙ (ap (λ (ps : List Place). ps ++ option_to_list (place_to sends before)) so ∙ sym (found_next (place_to sends) old place before at))
