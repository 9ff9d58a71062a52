-- What is done to the items of a list one after another.
use Rattle.std.proofs.Common.{◌≡◌, ℕ, ◌+◌, ◌<◌, ◌≤◌, ◌==◌, Bool, true, false, Some, List, [], ◌∷◌, length, map, slice_get, slice_set, suc, refl, sym, ap, ap₂, ◌∙◌, subst, eqb-true, eq-eqb, arith}
use Rattle.std.proofs.lemmas.Option.{slice_get_within, same_Some}
use Rattle.mdb_base.proofs.ForCallers.{length-map, made_of, slice_get-there}
use Rattle.session_routes.proofs.ForCallers.{get_other, get_put, length_set}
use Rattle.fed_hosts.specs.Ports.{EachBecomes}

-- the item that one of the new ones was
pub became : {A : Type 0} (R : ℕ → A → A → Type 0) (old new : List A) → EachBecomes R old new → (place : ℕ) (b : A) → slice_get new place ≡ Some b → (a : A) × (slice_get old place ≡ Some a) × R place a b
became {A} R old new h place b at = from (slice_get-there old place (let within = slice_get_within new place b at in let count = h.count in omega (arith, within, count))) where
  from : (a : A) × (slice_get old place ≡ Some a) → (a : A) × (slice_get old place ≡ Some a) × R place a b
  from (a, was) = (a, was, h.each place a b was at)

pub becomes_self : {A : Type 0} (R : ℕ → A → A → Type 0) (xs : List A) → ((place : ℕ) (x : A) → slice_get xs place ≡ Some x → R place x x) → EachBecomes R xs xs
becomes_self {A} R xs self = record { count = refl; each = λ place a b was at. subst (λ (x : A). R place a x) (same_Some a b (sym was ∙ at)) (self place a was) }

pub becomes_into : {A : Type 0} (R S : ℕ → A → A → Type 0) (old new : List A) → ((place : ℕ) (a b : A) → R place a b → S place a b) → EachBecomes R old new → EachBecomes S old new
becomes_into R S old new into h = record { count = h.count; each = λ place a b was at. into place a b (h.each place a b was at) }

pub becomes_through : {A : Type 0} (R S T : ℕ → A → A → Type 0) (old mid new : List A) → ((place : ℕ) (a b c : A) → R place a b → S place b c → T place a c) → EachBecomes R old mid → EachBecomes S mid new
    → EachBecomes T old new
becomes_through {A} R S T old mid new through first second = record {
  count = second.count ∙ first.count;
  each = λ place a c was at. from place a c was (became S mid new second place c at);
} where
  from : (place : ℕ) (a c : A) → slice_get old place ≡ Some a → (b : A) × (slice_get mid place ≡ Some b) × S place b c → T place a c
  from place a c was (b, between, next) = through place a b c (first.each place a b was between) next

-- so far as it came
pub record ChangedTo {A : Type 0} (R : ℕ → A → A → Type 0) (place : ℕ) (old now : List A) : Type 0 where
  pub count : length now ≡ length old
  pub done : (p : ℕ) (a b : A) → p < place → slice_get old p ≡ Some a → slice_get now p ≡ Some b → R p a b
  pub left : (p : ℕ) → place ≤ p → slice_get now p ≡ slice_get old p

pub changed_none : {A : Type 0} (R : ℕ → A → A → Type 0) (old : List A) → ChangedTo R 0 old old
changed_none R old = record { count = refl; done = λ p a b less ea eb. absurd (omega (arith, less)); left = λ p h. refl }

pub changed_next : {A : Type 0} (R : ℕ → A → A → Type 0) (place : ℕ) (old now : List A) (before new : A) → ChangedTo R place old now → place < length now → slice_get now place ≡ Some before → R place before new
    → ChangedTo R (place + 1) old (slice_set now place new)
changed_next {A} R place old now before new h within at changed = record {
  count = length_set now place new ∙ h.count;
  done = λ p a b less ea eb. by_test p a b less ea eb (p == place) refl;
  left = λ p more. get_other now place p new (λ e. omega (arith, e, more)) ∙ h.left p (omega (arith, more));
}
  where
    by_test : (p : ℕ) (a b : A) → p < place + 1 → slice_get old p ≡ Some a → slice_get (slice_set now place new) p ≡ Some b → (t : Bool) → (p == place) ≡ t → R p a b
    by_test p a b less ea eb true is =
        let same : p ≡ place = eqb-true p place is in
        let first : a ≡ before = same_Some a before (sym ea ∙ ap (slice_get old) same ∙ sym (h.left place (omega arith)) ∙ at) in
        let last : new ≡ b = same_Some new b (sym (get_put now place new within) ∙ ap (slice_get (slice_set now place new)) (sym same) ∙ eb) in
        subst (λ (n : ℕ). R n a b) (sym same) (subst (λ (z : A). R place a z) last (subst (λ (z : A). R place z new) (sym first) changed))
    by_test p a b less ea eb false is =
        let apart : p ≡ place → ⊥ = λ e. (let yes : (p == place) ≡ true = eq-eqb p place e in let no : true ≡ false = sym yes ∙ is in cc) in
        h.done p a b (by_less p less apart) ea (sym (get_other now place p new apart) ∙ eb)
      where
        by_less : (p : ℕ) → p < place + 1 → (p ≡ place → ⊥) → p < place
        by_less p less apart = grind (arith, less, apart)

-- to the end
pub changed_all : {A : Type 0} (R : ℕ → A → A → Type 0) (place : ℕ) (old now : List A) → ChangedTo R place old now → length old ≤ place → EachBecomes R old now
changed_all R place old now h all = record { count = h.count; each = λ p a b ea eb. h.done p a b (let less = slice_get_within old p a ea in omega (arith, less, all)) ea eb }

-- one item that was written
pub changed_one : {A : Type 0} (R : ℕ → A → A → Type 0) (old : List A) (place : ℕ) (before new : A) → place < length old → slice_get old place ≡ Some before → R place before new
    → ((p : ℕ) (x : A) → (p ≡ place → ⊥) → slice_get old p ≡ Some x → R p x x) → EachBecomes R old (slice_set old place new)
changed_one {A} R old place before new within at changed others = record {
  count = length_set old place new;
  each = λ p a b ea eb. by_test p a b ea eb (p == place) refl;
} where
  by_test : (p : ℕ) (a b : A) → slice_get old p ≡ Some a → slice_get (slice_set old place new) p ≡ Some b → (t : Bool) → (p == place) ≡ t → R p a b
  by_test p a b ea eb true is =
      let same : p ≡ place = eqb-true p place is in
      let first : a ≡ before = same_Some a before (sym ea ∙ ap (slice_get old) same ∙ at) in
      let last : new ≡ b = same_Some new b (sym (get_put old place new within) ∙ ap (slice_get (slice_set old place new)) (sym same) ∙ eb) in
      subst (λ (n : ℕ). R n a b) (sym same) (subst (λ (z : A). R place a z) last (subst (λ (z : A). R place z new) (sym first) changed))
  by_test p a b ea eb false is =
      let apart : p ≡ place → ⊥ = λ e. (let yes : (p == place) ≡ true = eq-eqb p place e in let no : true ≡ false = sym yes ∙ is in cc) in
      let same : a ≡ b = same_Some a b (sym ea ∙ sym (get_other old place p new apart) ∙ eb) in
      subst (λ (z : A). R p a z) same (others p a apart ea)

-- what is made of the items stays where each item's stays
pub becomes_map : {A B : Type 0} (R : ℕ → A → A → Type 0) (f : A → B) (old new : List A) → ((place : ℕ) (a b : A) → R place a b → f b ≡ f a) → EachBecomes R old new → map f new ≡ map f old
becomes_map {A} {B} R f old new same h = from old new h.count (λ place a b ea eb. same place a b (h.each place a b ea eb)) where
  from : (xs ys : List A) → length ys ≡ length xs → ((place : ℕ) (a b : A) → slice_get xs place ≡ Some a → slice_get ys place ≡ Some b → f b ≡ f a) → map f ys ≡ map f xs
  from [] [] count each = refl
  from [] (y ∷ ys) count each = absurd (omega (arith, count))
  from (x ∷ xs) [] count each = absurd (omega (arith, count))
  from (x ∷ xs) (y ∷ ys) count each =
      ap₂ (λ (b : B) (bs : List B). b ∷ bs) (each 0 x y refl refl) (from xs ys (omega (arith, count)) (λ place a b ea eb. each (suc place) a b ea eb))

-- so it is with what is made of each item
pub becomes_mapped : {A B : Type 0} (f : A → B) (R : ℕ → B → B → Type 0) (old new : List A) → EachBecomes (λ place a b. R place (f a) (f b)) old new → EachBecomes R (map f old) (map f new)
becomes_mapped {A} {B} f R old new h = record {
  count = length-map f new ∙ h.count ∙ sym (length-map f old);
  each = λ place x y was is. from place x y (made_of f old place x was) (made_of f new place y is);
} where
  from : (place : ℕ) (x y : B) → (a : A) × (slice_get old place ≡ Some a) × (f a ≡ x) → (b : A) × (slice_get new place ≡ Some b) × (f b ≡ y) → R place x y
  from place x y (a, was, first) (b, is, second) = subst (λ (z : B). R place z y) first (subst (λ (z : B). R place (f a) z) second (h.each place a b was is))
