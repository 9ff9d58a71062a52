use Rattle.std.proofs.Common.{◌≡◌, ◌⊎◌, Bool, true, false, not, cond, ◌&&◌, Some, None, List, [], ◌∷◌, ◌++◌, inl, inr, refl, subst, sym, ap, map, ◌∙◌}
use Rattle.std.proofs.lemmas.Bool.{or_cases, or_left, or_right, and_parts, and_from, not-true}
use Rattle.mdb_base.specs.Words.{Each, Among, some_of, each_of, those, first_where}
use Rattle.order_laws.specs.Chains.{In, Distinct}
use Rattle.order_laws.specs.Orders.{is_in, TellsApart}

-- a weaker fact holds among the items too
pub among_weaker : {A : Type 0} (P Q : A → Type 0) → ((x : A) → P x → Q x) → (xs : List A) → Among P xs → Among Q xs
among_weaker P Q h [] i = absurd i
among_weaker P Q h (x ∷ xs) (inl p) = inl (h x p)
among_weaker P Q h (x ∷ xs) (inr i) = inr (among_weaker P Q h xs i)

-- a fact among the images is a fact of an item's image
pub among_map : {A B : Type 0} (P : B → Type 0) (f : A → B) (xs : List A) → Among P (map f xs) → Among (λ x. P (f x)) xs
among_map P f [] i = absurd i
among_map P f (x ∷ xs) (inl p) = inl p
among_map P f (x ∷ xs) (inr i) = inr (among_map P f xs i)

-- a fact of an item's image is a fact among the images
pub map_among : {A B : Type 0} (P : B → Type 0) (f : A → B) (xs : List A) → Among (λ x. P (f x)) xs → Among P (map f xs)
map_among P f [] i = absurd i
map_among P f (x ∷ xs) (inl p) = inl p
map_among P f (x ∷ xs) (inr i) = inr (map_among P f xs i)

-- what holds of each item holds of the one that has another fact
pub each_at : {A : Type 0} (P : A → Type 0) (t : A) (xs : List A) → Each P xs → In t xs → P t
each_at P t [] h i = absurd i
each_at P t (x ∷ xs) h (inl p) = subst P p h.0
each_at P t (x ∷ xs) h (inr i) = each_at P t xs h.1 i

-- what follows for each item holds of each
pub each_from : {A : Type 0} (P : A → Type 0) (xs : List A) → ((x : A) → In x xs → P x) → Each P xs
each_from P [] h = tt
each_from P (x ∷ xs) h = (h x (inl refl), each_from P xs (λ y i. h y (inr i)))

-- a fact of each item and a fact of some item are facts of one item
pub each_among : {A : Type 0} (P Q R : A → Type 0) → ((x : A) → P x → Q x → R x) → (xs : List A) → Each P xs → Among Q xs → Among R xs
each_among P Q R h [] e i = absurd i
each_among P Q R h (x ∷ xs) e (inl q) = inl (h x e.0 q)
each_among P Q R h (x ∷ xs) e (inr i) = inr (each_among P Q R h xs e.1 i)

-- a fact among the items that no item has
pub among_none : {A : Type 0} (P : A → Type 0) (xs : List A) → Each (λ x. P x → ⊥) xs → Among P xs → ⊥
among_none P [] h i = i
among_none P (x ∷ xs) h (inl p) = h.0 p
among_none P (x ∷ xs) h (inr i) = among_none P xs h.1 i

-- the item that has a fact
pub among_is : {A : Type 0} (P : A → Type 0) (xs : List A) → Among P xs → (x : A) × In x xs × P x
among_is P [] i = absurd i
among_is P (x ∷ xs) (inl p) = (x, inl refl, p)
among_is P (x ∷ xs) (inr i) = let r = among_is P xs i in (r.0, inr r.1, r.2)

-- an item that stands in the list and has a fact
pub is_among : {A : Type 0} (P : A → Type 0) (t : A) (xs : List A) → In t xs → P t → Among P xs
is_among P t [] i p = absurd i
is_among P t (x ∷ xs) (inl e) p = inl (subst P (sym e) p)
is_among P t (x ∷ xs) (inr i) p = inr (is_among P t xs i p)

pub not_false : (b : Bool) → not b ≡ false → b ≡ true
not_false true e = refl
not_false false e = cc

pub bool_is : (b : Bool) → (b ≡ true) ⊎ (b ≡ false)
bool_is true = inl refl
bool_is false = inr refl

-- what a test of each item answers for one of them
pub each_of_at : {A : Type 0} (test : A → Bool) (xs : List A) (t : A) → each_of test xs ≡ true → In t xs → test t ≡ true
each_of_at test [] t e i = absurd i
each_of_at test (x ∷ xs) t e (inl p) = subst (λ y. test y ≡ true) p (and_parts (test x) (each_of test xs) e).0
each_of_at test (x ∷ xs) t e (inr i) = each_of_at test xs t (and_parts (test x) (each_of test xs) e).1 i

pub each_of_true : {A : Type 0} (test : A → Bool) (xs : List A) → ((x : A) → In x xs → test x ≡ true) → each_of test xs ≡ true
each_of_true test [] h = refl
each_of_true test (x ∷ xs) h = and_from (test x) (each_of test xs) (h x (inl refl)) (each_of_true test xs (λ y i. h y (inr i)))

pub each_of_false : {A : Type 0} (test : A → Bool) (xs : List A) → each_of test xs ≡ false → Among (λ x. test x ≡ false) xs
each_of_false test [] e = cc
each_of_false test (x ∷ xs) e =
    elim (bool_is (test x)) [ inr f ↦ inl f | inl f ↦ let k : each_of test xs ≡ false = rw f at e in inr (each_of_false test xs k) ]

-- an item for which the test of some item answers true
pub some_of_is : {A : Type 0} (test : A → Bool) (xs : List A) → some_of test xs ≡ true → (x : A) × In x xs × (test x ≡ true)
some_of_is test [] e = cc
some_of_is test (x ∷ xs) e =
    elim (or_cases (test x) (some_of test xs) e) [
      | inl h ↦ (x, inl refl, h)
      | inr h ↦ let r = some_of_is test xs h in (r.0, inr r.1, r.2)
    ]

-- the test of a list answers true exactly where the item stands in it
pub is_in_true : {A : Type 0} (same : A → A → Bool) → TellsApart same → (xs : List A) (t : A) → is_in same xs t ≡ true → In t xs
is_in_true same law [] t e = cc
is_in_true same law (x ∷ xs) t e =
    elim (or_cases (same t x) (is_in same xs t) e) [
      | inl h ↦ inl (sym (law.alike t x h))
      | inr h ↦ inr (is_in_true same law xs t h)
    ]

pub in_is_true : {A : Type 0} (same : A → A → Bool) → TellsApart same → (xs : List A) (t : A) → In t xs → is_in same xs t ≡ true
in_is_true same law [] t i = absurd i
in_is_true same law (x ∷ xs) t (inl p) =
    or_left (same t x) (is_in same xs t) (subst (λ y. same t y ≡ true) (sym p) (law.self t))
in_is_true same law (x ∷ xs) t (inr i) = or_right (same t x) (is_in same xs t) (in_is_true same law xs t i)

pub is_in_false : {A : Type 0} (same : A → A → Bool) → TellsApart same → (xs : List A) (t : A) → is_in same xs t ≡ false → In t xs → ⊥
is_in_false same law xs t e i = let f : is_in same xs t ≡ true = in_is_true same law xs t i in cc

pub not_in_false : {A : Type 0} (same : A → A → Bool) → TellsApart same → (xs : List A) (t : A) → (In t xs → ⊥) → is_in same xs t ≡ false
not_in_false same law xs t out =
    elim (bool_is (is_in same xs t)) [ inl h ↦ absurd (out (is_in_true same law xs t h)) | inr h ↦ h ]

those_in_step : {A : Type 0} (test : A → Bool) (t x : A) (xs : List A) (b : Bool) → test x ≡ b →
    In t (cond b (x ∷ those test xs) (those test xs)) → (In t (those test xs) → In t xs × (test t ≡ true)) → In t (x ∷ xs) × (test t ≡ true)
those_in_step test t x xs true e (inl p) ih = (inl p, subst (λ y. test y ≡ true) p e)
those_in_step test t x xs true e (inr i) ih = (inr (ih i).0, (ih i).1)
those_in_step test t x xs false e i ih = (inr (ih i).0, (ih i).1)

-- those that a test holds of are items of the list for which it answers true
pub those_in : {A : Type 0} (test : A → Bool) (t : A) (xs : List A) → In t (those test xs) → In t xs × (test t ≡ true)
those_in test t [] i = absurd i
those_in test t (x ∷ xs) i = those_in_step test t x xs (test x) refl i (those_in test t xs)

pub distinct_those : {A : Type 0} (test : A → Bool) (xs : List A) → Distinct xs → Distinct (those test xs)
distinct_those test [] d = tt
distinct_those test (x ∷ xs) d = by_test (test x) (distinct_those test xs d.1) where
  by_test : (b : Bool) → Distinct (those test xs) → Distinct (cond b (x ∷ those test xs) (those test xs))
  by_test true rest = ((λ i. d.0 (those_in test x xs i).0), rest)
  by_test false rest = rest

in_those_step : {A : Type 0} (test : A → Bool) (t x : A) (xs : List A) (b : Bool) → test x ≡ b → In t (x ∷ xs) → test t ≡ true →
    (In t xs → In t (those test xs)) → In t (cond b (x ∷ those test xs) (those test xs))
in_those_step test t x xs true e (inl p) h ih = inl p
in_those_step test t x xs true e (inr i) h ih = inr (ih i)
in_those_step test t x xs false e (inl p) h ih = let f : test t ≡ false = subst (λ y. test y ≡ false) p e in cc
in_those_step test t x xs false e (inr i) h ih = ih i

pub in_those : {A : Type 0} (test : A → Bool) (t : A) (xs : List A) → In t xs → test t ≡ true → In t (those test xs)
in_those test t [] i h = absurd i
in_those test t (x ∷ xs) i h = in_those_step test t x xs (test x) refl i h (λ j. in_those test t xs j h)

-- two tests that agree on the items pick the same ones
pub those_same : {A : Type 0} (f g : A → Bool) (xs : List A) → ((t : A) → In t xs → f t ≡ g t) → those f xs ≡ those g xs
those_same f g [] h = refl
those_same f g (x ∷ xs) h =
    let now : f x ≡ g x = h x (inl refl) in
    let later : those f xs ≡ those g xs = those_same f g xs (λ t i. h t (inr i)) in
    rw (now, later) refl

-- a test that holds of all items picks all
pub those_all : {A : Type 0} (f : A → Bool) (xs : List A) → ((t : A) → In t xs → f t ≡ true) → those f xs ≡ xs
those_all f [] h = refl
those_all f (x ∷ xs) h =
    let now : f x ≡ true = h x (inl refl) in
    let later : those f xs ≡ xs = those_all f xs (λ t i. h t (inr i)) in
    rw (now, later) refl

those_those_step : {A : Type 0} (f g : A → Bool) (x : A) (xs : List A) (b : Bool) →
    those f (those g xs) ≡ those (λ y. g y && f y) xs →
    those f (cond b (x ∷ those g xs) (those g xs)) ≡ cond (b && f x) (x ∷ those (λ y. g y && f y) xs) (those (λ y. g y && f y) xs)
those_those_step f g x xs true e = rw e refl
those_those_step f g x xs false e = e

-- those of those are the ones that both tests hold of
pub those_those : {A : Type 0} (f g : A → Bool) (xs : List A) → those f (those g xs) ≡ those (λ y. g y && f y) xs
those_those f g [] = refl
those_those f g (x ∷ xs) = those_those_step f g x xs (g x) (those_those f g xs)

-- where the images of the items differ, two items with one image are one
pub one_image : {A B : Type 0} (f : A → B) (xs : List A) → Distinct (map f xs) → (a b : A) → In a xs → In b xs → f a ≡ f b → a ≡ b
one_image f [] d a b i j e = absurd i
one_image f (x ∷ xs) d a b (inl p) (inl q) e = sym p ∙ q
one_image {B = B} f (x ∷ xs) d a b (inl p) (inr j) e =
    absurd (d.0 (map_among (λ (y : B). y ≡ f x) f xs (is_among (λ y. f y ≡ f x) b xs j (sym e ∙ ap f (sym p)))))
one_image {B = B} f (x ∷ xs) d a b (inr i) (inl q) e =
    absurd (d.0 (map_among (λ (y : B). y ≡ f x) f xs (is_among (λ y. f y ≡ f x) a xs i (e ∙ ap f (sym q)))))
one_image f (x ∷ xs) d a b (inr i) (inr j) e = one_image f xs d.1 a b i j e

first_some_step : {A : Type 0} (test : A → Bool) (x k : A) (xs : List A) (b : Bool) → test x ≡ b →
    cond b (Some x) (first_where test xs) ≡ Some k → (first_where test xs ≡ Some k → In k xs × (test k ≡ true)) → In k (x ∷ xs) × (test k ≡ true)
first_some_step test x k xs true e h ih = let p : x ≡ k = cc in (inl p, subst (λ y. test y ≡ true) p e)
first_some_step test x k xs false e h ih = let r = ih h in (inr r.0, r.1)

-- the first item that a test holds of is one of which it holds
pub first_where_some : {A : Type 0} (test : A → Bool) (xs : List A) (k : A) → first_where test xs ≡ Some k → In k xs × (test k ≡ true)
first_where_some test [] k h = cc
first_where_some test (x ∷ xs) k h = first_some_step test x k xs (test x) refl h (first_where_some test xs k)

first_none_step : {A : Type 0} (test : A → Bool) (x k : A) (xs : List A) (b : Bool) → test x ≡ b →
    cond b (Some x) (first_where test xs) ≡ None → (first_where test xs ≡ None → In k xs → test k ≡ false) → In k (x ∷ xs) → test k ≡ false
first_none_step test x k xs true e h ih i = cc
first_none_step test x k xs false e h ih (inl p) = subst (λ y. test y ≡ false) p e
first_none_step test x k xs false e h ih (inr i) = ih h i

-- where there is no first one, the test holds of none
pub first_where_none : {A : Type 0} (test : A → Bool) (xs : List A) (k : A) → first_where test xs ≡ None → In k xs → test k ≡ false
first_where_none test [] k h i = absurd i
first_where_none test (x ∷ xs) k h i = first_none_step test x k xs (test x) refl h (first_where_none test xs k) i

-- an item stands in a list with one more behind it where it stood in the list, and so does that one, and no other
pub in_front : {A : Type 0} (t y : A) (xs : List A) → In t xs → In t (xs ++ y ∷ [])
in_front t y [] i = absurd i
in_front t y (x ∷ xs) (inl e) = inl e
in_front t y (x ∷ xs) (inr i) = inr (in_front t y xs i)

pub in_last : {A : Type 0} (y : A) (xs : List A) → In y (xs ++ y ∷ [])
in_last y [] = inl refl
in_last y (x ∷ xs) = inr (in_last y xs)

pub in_either : {A : Type 0} (t y : A) (xs : List A) → In t (xs ++ y ∷ []) → In t xs ⊎ (y ≡ t)
in_either t y [] (inl e) = inr e
in_either t y [] (inr i) = absurd i
in_either t y (x ∷ xs) (inl e) = inl (inl e)
in_either t y (x ∷ xs) (inr i) = elim (in_either t y xs i) [ inl j ↦ inl (inr j) | inr e ↦ inr e ]

-- whether no item stands in the list twice
abbrev pub is_distinct : {A : Type 0} → (A → A → Bool) → List A → Bool
is_distinct same [] = true
is_distinct same (x ∷ xs) = not (is_in same xs x) && is_distinct same xs

-- a list that the test passes names no item twice
pub distinct_by_test : {A : Type 0} (same : A → A → Bool) → TellsApart same → (xs : List A) → is_distinct same xs ≡ true → Distinct xs
distinct_by_test same law [] e = tt
distinct_by_test same law (x ∷ xs) e =
    let both = and_parts (not (is_in same xs x)) (is_distinct same xs) e in
    (is_in_false same law xs x (not-true (is_in same xs x) both.0), distinct_by_test same law xs both.1)
