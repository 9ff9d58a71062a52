-- Walks over records: none, then, stop; and the loops over the entries, from the first one on or from the last one back.
use Rattle.std.proofs.Common.{ℕ, ◌+◌, ◌<◌, ◌≡◌, ◌↔◌, Bool, true, false, List, [], ◌∷◌, ◌++◌, length, take, drop, reverse, get_or, refl, sym, subst}
use Rattle.std.proofs.lemmas.List.{append_assoc}
use Rattle.usable_journals.specs.Walks.{TakesAll, Walk}
use Rattle.usable_journals.proofs.Recording.{reverse_more, reverse_rest}

-- what holds of records holds of those before the newest
abbrev pub GoesBack : {A : Type 0} → (List A → Type 0) → Type 0
GoesBack {A} P = (x : A) (xs : List A) → P (x ∷ xs) → P xs

-- what is given, and the rule, are of every front
pub record OfEveryFront {State Entry : Type 0} (walk : Walk State Entry) : Type 0 where
  pub given : GoesBack walk.Given
  pub keeps : GoesBack walk.Keeps

pub front_of : {A : Type 0} (P : List A → Type 0) → GoesBack P → (xs ys : List A) → P (xs ++ ys) → P ys
front_of P back [] ys h = h
front_of P back (x ∷ xs) ys h = front_of P back xs ys (back x (xs ++ ys) h)

pub takes_none : {State Entry : Type 0} (walk : Walk State Entry) (s : State) → TakesAll walk s s [] true
takes_none walk s older given tells keeps = ((λ e. keeps, λ k. refl), λ e. tells)

pub takes_then : {State Entry : Type 0} (walk : Walk State Entry) → OfEveryFront walk → (a b c : State) (xs ys : List Entry) (fits : Bool)
    → TakesAll walk a b xs true → TakesAll walk b c ys fits → TakesAll walk a c (ys ++ xs) fits
takes_then {State} {Entry} walk is a b c xs ys fits first second older given tells keeps =
    let all : walk.Given (ys ++ (xs ++ older)) = subst walk.Given (append_assoc ys xs older) given in
    let one = first older (front_of walk.Given is.given ys (xs ++ older) all) tells keeps in
    subst (λ (rs : List Entry). ((fits ≡ true) ↔ walk.Keeps rs) × (fits ≡ true → walk.Tells c rs)) (sym (append_assoc ys xs older))
    (second (xs ++ older) all (one.1 refl) (one.0.0 refl))

-- no entry behind one that breaks the rule mends it
pub takes_stop : {State Entry : Type 0} (walk : Walk State Entry) → OfEveryFront walk → (a b c : State) (xs ys : List Entry)
    → TakesAll walk a b xs false → TakesAll walk a c (ys ++ xs) false
takes_stop walk is a b c xs ys first older given tells keeps =
    let all : walk.Given (ys ++ (xs ++ older)) = subst walk.Given (append_assoc ys xs older) given in
    let one = first older (front_of walk.Given is.given ys (xs ++ older) all) tells keeps in (
      (λ e. absurd cc, λ k. one.0.1 (front_of walk.Keeps is.keeps ys (xs ++ older) (subst walk.Keeps (append_assoc ys xs older) k))),
      λ e. absurd cc,
    )

-- ---- the oldest entries first

pub all_next : {State Entry : Type 0} (walk : Walk State Entry) → OfEveryFront walk → (a b c : State) (xs : List Entry) (n : ℕ) (d : Entry) (fits : Bool)
    → n < length xs → TakesAll walk a b (reverse (take n xs)) true → TakesAll walk b c (get_or xs n d ∷ []) fits
    → TakesAll walk a c (reverse (take (n + 1) xs)) fits
all_next walk is a b c xs n d fits within first next =
    subst (λ ys. TakesAll walk a c ys fits) (sym (reverse_more xs n d within))
    (takes_then walk is a b c (reverse (take n xs)) (get_or xs n d ∷ []) fits first next)

pub all_last : {State Entry : Type 0} (walk : Walk State Entry) → OfEveryFront walk → (a b c : State) (xs : List Entry) (n : ℕ)
    → TakesAll walk a b (reverse (take n xs)) false → TakesAll walk a c (reverse xs) false
all_last walk is a b c xs n first =
    subst (λ ys. TakesAll walk a c ys false) (sym (reverse_rest xs n)) (takes_stop walk is a b c (reverse (take n xs)) (reverse (drop n xs)) first)
