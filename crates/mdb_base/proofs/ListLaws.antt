-- Laws of the words on lists.
use Rattle.std.proofs.Common.{◌≡◌, ℕ, ◌≤◌, Bool, true, false, cond, ◌||◌, ltb, Option, Some, None, List, [], ◌∷◌, ◌++◌, map, refl, sym, ap, ◌∙◌, subst, inl, inr, arith, ltb-true, ltb-false}
use Rattle.std.proofs.lemmas.Bool.{or_left, or_right}
use Rattle.mdb_base.specs.Words.{Each, Among, some_of, those, found, with_some, inserted, least, lesser, greatest, greater, is_empty}

-- what holds of each item and gives another fact, gives that of each
pub each_map : {A : Type 0} (P Q : A → Type 0) → ((x : A) → P x → Q x) → (xs : List A) → Each P xs → Each Q xs
each_map P Q f [] h = tt
each_map P Q f (x ∷ xs) h = (f x h.0, each_map P Q f xs h.1)

-- what holds of every value holds of each item
pub each_all : {A : Type 0} (P : A → Type 0) → ((x : A) → P x) → (xs : List A) → Each P xs
each_all P f [] = tt
each_all P f (x ∷ xs) = (f x, each_all P f xs)

pub each_append : {A : Type 0} (P : A → Type 0) (xs ys : List A) → Each P (xs ++ ys) → Each P xs × Each P ys
each_append P [] ys h = (tt, h)
each_append P (x ∷ xs) ys h = let rest = each_append P xs ys h.1 in ((h.0, rest.0), rest.1)

-- what holds of each item holds of one that is among them
pub each_among : {A : Type 0} (P : A → Type 0) (y : A) (xs : List A) → Each P xs → Among (λ x. x ≡ y) xs → P y
each_among P y [] h m = elim m [ ]
each_among P y (x ∷ xs) h (inl e) = subst P e h.0
each_among P y (x ∷ xs) h (inr m) = each_among P y xs h.1 m

-- one more item, wherever it is put
pub each_inserted : {A : Type 0} (P : A → Type 0) (before : A → A → Bool) (x : A) (ys : List A) → P x → Each P ys
    → Each P (inserted before x ys)
each_inserted P before x [] p h = (p, tt)
each_inserted P before x (y ∷ ys) p h = by_test (before y x) (each_inserted P before x ys p h.1)
  where
    by_test : (b : Bool) → Each P (inserted before x ys) → Each P (cond b (y ∷ inserted before x ys) (x ∷ y ∷ ys))
    by_test true rest = (h.0, rest)
    by_test false rest = (p, h)

-- where none pass the test, each fails it
pub those_none : {A : Type 0} (test : A → Bool) (xs : List A) → those test xs ≡ [] → Each (λ x. test x ≡ false) xs
those_none test [] e = tt
those_none test (x ∷ xs) e = by_test (test x) refl e (those_none test xs)
  where
    by_test : (b : Bool) → test x ≡ b → cond b (x ∷ those test xs) (those test xs) ≡ []
        → (those test xs ≡ [] → Each (λ y. test y ≡ false) xs) → Each (λ y. test y ≡ false) (x ∷ xs)
    by_test true is e rest = cc
    by_test false is e rest = (is, rest e)

pub none_some_of : {A : Type 0} (test : A → Bool) (xs : List A) → Each (λ x. test x ≡ false) xs → some_of test xs ≡ false
none_some_of test [] h = refl
none_some_of test (x ∷ xs) h = ap (λ b. b || some_of test xs) h.0 ∙ none_some_of test xs h.1

-- only of no item there is no least, and no greatest
pub least_none : {A : Type 0} (measure : A → ℕ) (xs : List A) → least measure xs ≡ None → xs ≡ []
least_none measure [] e = refl
least_none measure (x ∷ xs) e = cc

pub greatest_none : {A : Type 0} (measure : A → ℕ) (xs : List A) → greatest measure xs ≡ None → xs ≡ []
greatest_none measure [] e = refl
greatest_none measure (x ∷ xs) e = cc

-- what holds of each value that is found holds of the one that one of the items gives
pub each_found : {A B : Type 0} (P : B → Type 0) (look : A → Option B) (y : A) (b : B) (xs : List A) → Each P (found look xs)
    → Among (λ x. x ≡ y) xs → look y ≡ Some b → P b
each_found P look y b [] h m is = elim m [ ]
each_found P look y b (x ∷ xs) h (inl e) is = here (look x) (ap look e ∙ is) h
  where
    here : (o : Option _) → o ≡ Some b → Each P (with_some o (found look xs)) → P b
    here None is h = cc
    here (Some c) is h = let same : c ≡ b = cc in subst P same h.0
each_found P look y b (x ∷ xs) h (inr m) is = each_found P look y b xs (there (look x) h) m is
  where
    there : (o : Option _) → Each P (with_some o (found look xs)) → Each P (found look xs)
    there None h = h
    there (Some c) h = h.1

pub append_none : {A : Type 0} (xs ys : List A) → xs ++ ys ≡ [] → (xs ≡ []) × (ys ≡ [])
append_none [] ys e = (refl, e)
append_none (x ∷ xs) ys e = cc

-- a fact of each image is one of each item
pub each_of_map : {A B : Type 0} (P : B → Type 0) (f : A → B) (xs : List A) → Each P (map f xs) → Each (λ x. P (f x)) xs
each_of_map P f [] h = tt
each_of_map P f (x ∷ xs) h = (h.0, each_of_map P f xs h.1)

-- each of those passes the test
pub those_pass : {A : Type 0} (test : A → Bool) (xs : List A) → Each (λ x. test x ≡ true) (those test xs)
those_pass test [] = tt
those_pass test (x ∷ xs) = by_test (test x) refl (those_pass test xs)
  where
    by_test : (b : Bool) → test x ≡ b → Each (λ y. test y ≡ true) (those test xs)
        → Each (λ y. test y ≡ true) (cond b (x ∷ those test xs) (those test xs))
    by_test true is rest = (is, rest)
    by_test false is rest = rest

-- what holds of each item holds of the least one
pub least_among : {A : Type 0} (P : A → Type 0) (measure : A → ℕ) (xs : List A) (x : A) → Each P xs → least measure xs ≡ Some x
    → P x
least_among P measure [] x h e = cc
least_among P measure (y ∷ ys) x h e = of_rest (least measure ys) e (least_among P measure ys)
  where
    by_less : (b : Bool) (z : _) → P z → cond b z y ≡ x → P x
    by_less true z p e = subst P e p
    by_less false z p e = subst P e h.0

    of_rest : (o : Option _) → Some (lesser measure y o) ≡ Some x → ((z : _) → Each P ys → o ≡ Some z → P z) → P x
    of_rest None e rest = let same : y ≡ x = cc in subst P same h.0
    of_rest (Some z) e rest = by_less (ltb (measure z) (measure y)) z (rest z h.1 refl) (cc)

pub append_each : {A : Type 0} (P : A → Type 0) (xs ys : List A) → Each P xs → Each P ys → Each P (xs ++ ys)
append_each P [] ys h g = g
append_each P (x ∷ xs) ys h g = (h.0, append_each P xs ys h.1 g)

-- each item is among them
pub each_self : {A : Type 0} (xs : List A) → Each (λ x. Among (λ z. z ≡ x) xs) xs
each_self [] = tt
each_self (x ∷ xs) = (
  inl refl,
  each_map (λ y. Among (λ z. z ≡ y) xs) (λ y. Among (λ z. z ≡ y) (x ∷ xs)) (λ y m. inr m) xs
      (each_self xs),
)

-- a fact of each of those is one of each item that passes the test
pub each_those : {A : Type 0} (P : A → Type 0) (test : A → Bool) (xs : List A) → Each P (those test xs)
    → Each (λ x. test x ≡ true → P x) xs
each_those P test [] h = tt
each_those P test (x ∷ xs) h = by_test (test x) refl h (each_those P test xs)
  where
    by_test : (b : Bool) → test x ≡ b → Each P (cond b (x ∷ those test xs) (those test xs))
        → (Each P (those test xs) → Each (λ y. test y ≡ true → P y) xs)
        → Each (λ y. test y ≡ true → P y) (x ∷ xs)
    by_test true is h rest = ((λ e. h.0), rest h.1)
    by_test false is h rest = ((λ e. cc), rest h)

-- a fact of each item is one of each of those, which pass the test as well
pub those_each : {A : Type 0} (P : A → Type 0) (test : A → Bool) (xs : List A) → Each P xs
    → Each (λ x. P x × (test x ≡ true)) (those test xs)
those_each P test [] h = tt
those_each P test (x ∷ xs) h = by_test (test x) refl (those_each P test xs h.1)
  where
    by_test : (b : Bool) → test x ≡ b → Each (λ y. P y × (test y ≡ true)) (those test xs)
        → Each (λ y. P y × (test y ≡ true)) (cond b (x ∷ those test xs) (those test xs))
    by_test true is rest = ((h.0, is), rest)
    by_test false is rest = rest

-- that some item passes is that one is among them
pub some_among : {A : Type 0} (test : A → Bool) (xs : List A) → some_of test xs ≡ true → Among (λ x. test x ≡ true) xs
some_among test [] e = cc
some_among test (x ∷ xs) e = by_test (test x) refl e (some_among test xs)
  where
    by_test : (b : Bool) → test x ≡ b → (b || some_of test xs) ≡ true → (some_of test xs ≡ true → Among (λ y. test y ≡ true) xs)
        → Among (λ y. test y ≡ true) (x ∷ xs)
    by_test true is e rest = inl is
    by_test false is e rest = inr (rest e)

pub among_some : {A : Type 0} (test : A → Bool) (xs : List A) → Among (λ x. test x ≡ true) xs → some_of test xs ≡ true
among_some test [] m = elim m [ ]
among_some test (x ∷ xs) (inl e) = or_left (test x) (some_of test xs) e
among_some test (x ∷ xs) (inr m) = or_right (test x) (some_of test xs) (among_some test xs m)

-- the least one is at most each item
pub least_least : {A : Type 0} (measure : A → ℕ) (xs : List A) (m : A) → least measure xs ≡ Some m
    → Each (λ x. measure m ≤ measure x) xs
least_least measure [] m e = cc
least_least measure (x ∷ xs) m e = of_rest (least measure xs) refl e (least_least measure xs)
  where
    by_less : (b : Bool) (z : _) → ltb (measure z) (measure x) ≡ b → Each (λ y. measure z ≤ measure y) xs → cond b z x ≡ m
        → Each (λ y. measure m ≤ measure y) (x ∷ xs)
    by_less true z is h e =
        let less = ltb-true (measure z) (measure x) is in
        subst (λ w. Each (λ y. measure w ≤ measure y) (x ∷ xs)) e (omega arith, h)
    by_less false z is h e =
        let most = ltb-false (measure z) (measure x) is in
        subst (λ w. Each (λ y. measure w ≤ measure y) (x ∷ xs)) e
        (omega arith, each_map _ (λ y. measure x ≤ measure y) (λ y le. omega arith) xs h)

    of_rest : (o : Option _) → least measure xs ≡ o → Some (lesser measure x o) ≡ Some m
        → ((z : _) → least measure xs ≡ Some z → Each (λ y. measure z ≤ measure y) xs)
        → Each (λ y. measure m ≤ measure y) (x ∷ xs)
    of_rest None is e rest =
        let none = least_none measure xs is in
        let same : x ≡ m = cc in
        subst (λ w. Each (λ y. measure w ≤ measure y) (x ∷ xs)) same
        (omega arith, subst (Each (λ y. measure x ≤ measure y)) (sym none) tt)
    of_rest (Some z) is e rest = by_less (ltb (measure z) (measure x)) z refl (rest z is) (cc)

-- what holds of each item holds of the greatest one
pub greatest_among : {A : Type 0} (P : A → Type 0) (measure : A → ℕ) (xs : List A) (x : A) → Each P xs
    → greatest measure xs ≡ Some x → P x
greatest_among P measure [] x h e = cc
greatest_among P measure (y ∷ ys) x h e = of_rest (greatest measure ys) e (greatest_among P measure ys)
  where
    by_less : (b : Bool) (z : _) → P z → cond b z y ≡ x → P x
    by_less true z p e = subst P e p
    by_less false z p e = subst P e h.0

    of_rest : (o : Option _) → Some (greater measure y o) ≡ Some x → ((z : _) → Each P ys → o ≡ Some z → P z) → P x
    of_rest None e rest = let same : y ≡ x = cc in subst P same h.0
    of_rest (Some z) e rest = by_less (ltb (measure y) (measure z)) z (rest z h.1 refl) (cc)

-- each item is at most the greatest one
pub greatest_greatest : {A : Type 0} (measure : A → ℕ) (xs : List A) (m : A) → greatest measure xs ≡ Some m
    → Each (λ x. measure x ≤ measure m) xs
greatest_greatest measure [] m e = cc
greatest_greatest measure (x ∷ xs) m e = of_rest (greatest measure xs) refl e (greatest_greatest measure xs)
  where
    by_less : (b : Bool) (z : _) → ltb (measure x) (measure z) ≡ b → Each (λ y. measure y ≤ measure z) xs → cond b z x ≡ m
        → Each (λ y. measure y ≤ measure m) (x ∷ xs)
    by_less true z is h e =
        let less = ltb-true (measure x) (measure z) is in
        subst (λ w. Each (λ y. measure y ≤ measure w) (x ∷ xs)) e (omega arith, h)
    by_less false z is h e =
        let most = ltb-false (measure x) (measure z) is in
        subst (λ w. Each (λ y. measure y ≤ measure w) (x ∷ xs)) e
        (omega arith, each_map _ (λ y. measure y ≤ measure x) (λ y le. omega arith) xs h)

    of_rest : (o : Option _) → greatest measure xs ≡ o → Some (greater measure x o) ≡ Some m
        → ((z : _) → greatest measure xs ≡ Some z → Each (λ y. measure y ≤ measure z) xs)
        → Each (λ y. measure y ≤ measure m) (x ∷ xs)
    of_rest None is e rest =
        let none = greatest_none measure xs is in
        let same : x ≡ m = cc in
        subst (λ w. Each (λ y. measure y ≤ measure w) (x ∷ xs)) same
        (omega arith, subst (Each (λ y. measure y ≤ measure x)) (sym none) tt)
    of_rest (Some z) is e rest = by_less (ltb (measure x) (measure z)) z refl (rest z is) (cc)

-- what fails the test doesn't matter to those that pass it
pub those_inserted : {A : Type 0} (test : A → Bool) (before : A → A → Bool) (x : A) (ys : List A) → test x ≡ false
    → those test (inserted before x ys) ≡ those test ys
those_inserted test before x [] h = ap (λ b. cond b (x ∷ []) []) h
those_inserted test before x (y ∷ ys) h = by_test (before y x) (those_inserted test before x ys h)
  where
    by_test : (b : Bool) → those test (inserted before x ys) ≡ those test ys
        → those test (cond b (y ∷ inserted before x ys) (x ∷ y ∷ ys)) ≡ those test (y ∷ ys)
    by_test true rest = ap (λ zs. cond (test y) (y ∷ zs) zs) rest
    by_test false rest = ap (λ b. cond b (x ∷ those test (y ∷ ys)) (those test (y ∷ ys))) h

-- all pass
pub those_all : {A : Type 0} (test : A → Bool) (xs : List A) → Each (λ x. test x ≡ true) xs → those test xs ≡ xs
those_all test [] h = refl
those_all test (x ∷ xs) h = ap (λ b. cond b (x ∷ those test xs) (those test xs)) h.0 ∙ ap (λ ys. x ∷ ys) (those_all test xs h.1)

pub those_nothing : {A : Type 0} (test : A → Bool) (xs : List A) → Each (λ x. test x ≡ false) xs → those test xs ≡ []
those_nothing test [] h = refl
those_nothing test (x ∷ xs) h = ap (λ b. cond b (x ∷ those test xs) (those test xs)) h.0 ∙ those_nothing test xs h.1

pub each_filtered : {A : Type 0} (P : A → Type 0) (test : A → Bool) (xs : List A) → Each P xs → Each P (those test xs)
each_filtered P test xs h = each_map (λ x. P x × (test x ≡ true)) P (λ x both. both.0) (those test xs) (those_each P test xs h)

pub among_map : {A B : Type 0} (f : A → B) (y : B) (xs : List A) → Among (λ x. f x ≡ y) xs → Among (λ z. z ≡ y) (map f xs)
among_map f y [] m = elim m [ ]
among_map f y (x ∷ xs) (inl e) = inl e
among_map f y (x ∷ xs) (inr m) = inr (among_map f y xs m)

pub map_among : {A B : Type 0} (f : A → B) (xs : List A) → Each (λ y. Among (λ x. f x ≡ y) xs) (map f xs)
map_among f [] = tt
map_among f (x ∷ xs) = (
  inl refl,
  each_map (λ y. Among (λ z. f z ≡ y) xs) (λ y. Among (λ z. f z ≡ y) (x ∷ xs)) (λ y m. inr m)
      (map f xs) (map_among f xs),
)

pub empty_means : {A : Type 0} (xs : List A) → is_empty xs ≡ true → xs ≡ []
empty_means [] e = refl
empty_means (x ∷ xs) e = cc
