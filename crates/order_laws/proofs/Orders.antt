use Rattle.std.proofs.Common.{◌≡◌, Bool, true, false, cond, List, [], ◌∷◌, inl, inr, refl, subst, sym, map}
use Rattle.mdb_base.specs.Words.{Each, those}
use Rattle.order_laws.specs.Chains.{In, Distinct, Chain, Acyclic}
use Rattle.order_laws.specs.Orders.{Before, Union}
use Rattle.order_laws.proofs.Chains.{acyclic_map}
use Rattle.order_laws.proofs.Lists.{those_in, in_those, among_map, map_among, among_weaker}

-- who stands before another, and that other, are items of the list
pub before_in : {A : Type 0} (xs : List A) (a b : A) → Before xs a b → In a xs × In b xs
before_in [] a b h = absurd h
before_in (x ∷ xs) a b (inl h) = (inl h.0, inr h.1)
before_in (x ∷ xs) a b (inr h) = let i = before_in xs a b h in (inr i.0, inr i.1)

-- where no item stands twice, none stands before itself
pub not_before_itself : {A : Type 0} (xs : List A) (a : A) → Distinct xs → Before xs a a → ⊥
not_before_itself [] a d h = h
not_before_itself (x ∷ xs) a d (inl h) = d.0 (subst (λ y. In y xs) (sym h.0) h.1)
not_before_itself (x ∷ xs) a d (inr h) = not_before_itself xs a d.1 h

-- and what stands before what stands before a third stands before that one
pub before_through : {A : Type 0} (xs : List A) (a b c : A) → Distinct xs → Before xs a b → Before xs b c → Before xs a c
before_through [] a b c d h k = h
before_through (x ∷ xs) a b c d (inl h) (inl k) = inl (h.0, k.1)
before_through (x ∷ xs) a b c d (inl h) (inr k) = inl (h.0, (before_in xs b c k).1)
before_through (x ∷ xs) a b c d (inr h) (inl k) = absurd (d.0 (subst (λ y. In y xs) (sym k.0) (before_in xs a b h).1))
before_through (x ∷ xs) a b c d (inr h) (inr k) = inr (before_through xs a b c d.1 h k)

line_chain : {A : Type 0} (o : List A) → Distinct o → (a : A) (xs : List A) (b : A) → Chain (Before o) a xs b → Before o a b
line_chain o d a [] b p = p
line_chain o d a (x ∷ xs) b p = before_through o a x b d p.0 (line_chain o d x xs b p.1)

-- a list in which no item stands twice is an order without a cycle
pub line_acyclic : {A : Type 0} (o : List A) → Distinct o → Acyclic (Before o)
line_acyclic o d a xs p = not_before_itself o a d (line_chain o d a xs a p)

those_before_step : {A : Type 0} (test : A → Bool) (x : A) (xs : List A) (a b : A) (v : Bool) → test x ≡ v →
    Before (x ∷ xs) a b → test a ≡ true → test b ≡ true → (Before xs a b → Before (those test xs) a b) →
    Before (cond v (x ∷ those test xs) (those test xs)) a b
those_before_step test x xs a b true e (inl h) f g ih = inl (h.0, in_those test b xs h.1 g)
those_before_step test x xs a b true e (inr h) f g ih = inr (ih h)
those_before_step test x xs a b false e (inl h) f g ih = let k : test a ≡ false = subst (λ y. test y ≡ false) h.0 e in cc
those_before_step test x xs a b false e (inr h) f g ih = ih h

-- those that a test holds of stand in the order of the list
pub those_before : {A : Type 0} (test : A → Bool) (xs : List A) (a b : A) → Before xs a b → test a ≡ true → test b ≡ true → Before (those test xs) a b
those_before test [] a b h f g = h
those_before test (x ∷ xs) a b h f g = those_before_step test x xs a b (test x) refl h f g (λ k. those_before test xs a b k f g)

before_those_step : {A : Type 0} (test : A → Bool) (x : A) (xs : List A) (a b : A) (v : Bool) →
    Before (cond v (x ∷ those test xs) (those test xs)) a b → (Before (those test xs) a b → Before xs a b) → Before (x ∷ xs) a b
before_those_step test x xs a b true (inl h) ih = inl (h.0, (those_in test b xs h.1).0)
before_those_step test x xs a b true (inr h) ih = inr (ih h)
before_those_step test x xs a b false h ih = inr (ih h)

-- and among them none stands otherwise than in the list
pub before_those : {A : Type 0} (test : A → Bool) (xs : List A) (a b : A) → Before (those test xs) a b → Before xs a b
before_those test [] a b h = h
before_those test (x ∷ xs) a b h = before_those_step test x xs a b (test x) h (before_those test xs a b)

-- orders that are cut down to some items put no one otherwise than before
pub union_those : {A : Type 0} (test : A → Bool) (orders : List (List A)) (a b : A) → Union (map (those test) orders) a b → Union orders a b
union_those test orders a b h =
    among_weaker (λ ts. Before (those test ts) a b) (λ ts. Before ts a b) (λ ts. before_those test ts a b) orders
    (among_map (λ ts. Before ts a b) (those test) orders h)

-- and they put those items as before
pub those_union : {A : Type 0} (test : A → Bool) (orders : List (List A)) (a b : A) →
    Union orders a b → test a ≡ true → test b ≡ true → Union (map (those test) orders) a b
those_union test orders a b h f g =
    map_among (λ ts. Before ts a b) (those test) orders
    (among_weaker (λ ts. Before ts a b) (λ ts. Before (those test ts) a b) (λ ts k. those_before test ts a b k f g) orders h)

-- the first item stands before each that stands behind it, and no other way does an item have one before it
pub before_rest : {A : Type 0} (x : A) (xs : List A) (a b : A) → Before (x ∷ xs) a b → In b xs
before_rest x xs a b (inl h) = h.1
before_rest x xs a b (inr h) = (before_in xs a b h).1

-- edges that all lead forwards in a list have no cycle
pub ordered_acyclic : {A : Type 0} (E : A → A → Type 0) (o : List A) → Distinct o → ((a b : A) → E a b → Before o a b) → Acyclic E
ordered_acyclic {A} E o d h = acyclic_map E (Before o) (λ (a : A). a) h (line_acyclic o d)

distinct_when : {A : Type 0} (xs : List A) → ((a : A) → Before xs a a → ⊥) → Distinct xs
distinct_when [] h = tt
distinct_when (x ∷ xs) h = (λ i. h x (inl (refl, i)), distinct_when xs (λ a k. h a (inr k)))

-- orders without a cycle name no item twice
pub acyclic_distinct : {A : Type 0} (orders : List (List A)) → Acyclic (Union orders) → Each Distinct orders
acyclic_distinct [] none = tt
acyclic_distinct {A} (ts ∷ orders) none = (
  distinct_when ts (λ a h. none a [] (inl h)),
  acyclic_distinct orders (acyclic_map (Union orders) (Union (ts ∷ orders)) (λ (a : A). a) (λ a b u. inr u) none),
)
