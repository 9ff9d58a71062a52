-- The least and the greatest of a list.
use Rattle.std.proofs.Common.{◌≡◌, ℕ, ◌≤◌, nat_lt, Option, Some, None, List, [], ◌∷◌, inl, inr, refl, sym, ap, ◌∙◌, subst, arith}
use Rattle.std.proofs.lemmas.Bool.{cond-true, cond-false, cases_Bool, ltb-true, ltb-false}
use Rattle.mdb_base.specs.Words.{lesser, least, greater, greatest}
use Rattle.run_book.proofs.Members.{Is}

-- an item with the least measure
pub record IsLeast {A : Type 0} (measure : A → ℕ) (xs : List A) (x : A) : Type 0 where
  pub is : Is x xs
  pub below : (y : A) → Is y xs → measure x ≤ measure y

pub record IsGreatest {A : Type 0} (measure : A → ℕ) (xs : List A) (x : A) : Type 0 where
  pub is : Is x xs
  pub above : (y : A) → Is y xs → measure y ≤ measure x

least-of_cons : {A : Type 0} (m : A → ℕ) (y x : A) (ys : List A) (o : Option A) → ((z : A) → o ≡ Some z → IsLeast m ys z) → (o ≡ None → (z : A) → Is z ys → ⊥) → lesser m y o ≡ x → IsLeast m (y ∷ ys) x
least-of_cons m y x ys None some none made = record {
  is = inl made;
  below = λ z h. elim h [ inl e ↦ let k : m x ≡ m z = ap m (sym made ∙ e) in omega arith | inr r ↦ absurd (none refl z r) ];
}
least-of_cons m y x ys (Some z) some none made =
    let best = some z refl in
    elim (cases_Bool (nat_lt (m z) (m y))) [
      | inl e ↦
          let zx : z ≡ x = sym (cond-true _ _ _ e) ∙ made in
          let lt = ltb-true (m z) (m y) e in
          record {
            is = inr (subst (λ (a : _). Is a ys) zx best.is);
            below = λ w h.
                let mx : m z ≡ m x = ap m zx in
                elim h [ inl f ↦ let k : m y ≡ m w = ap m f in omega arith | inr r ↦ let b = best.below w r in omega arith ];
          }
      | inr e ↦
          let yx : y ≡ x = sym (cond-false _ _ _ e) ∙ made in
          let ge = ltb-false (m z) (m y) e in
          record {
            is = inl yx;
            below = λ w h.
                let mx : m y ≡ m x = ap m yx in
                elim h [ inl f ↦ let k : m y ≡ m w = ap m f in omega arith | inr r ↦ let b = best.below w r in omega arith ];
          }
    ]

pub least-none : {A : Type 0} (m : A → ℕ) (xs : List A) → least m xs ≡ None → (z : A) → Is z xs → ⊥
least-none m [] e z h = h
least-none m (x ∷ xs) e z h = cc

pub least-is : {A : Type 0} (m : A → ℕ) (xs : List A) (x : A) → least m xs ≡ Some x → IsLeast m xs x
least-is m [] x e = cc
least-is m (y ∷ ys) x e =
    let made : lesser m y (least m ys) ≡ x = cc in
    least-of_cons m y x ys (least m ys) (least-is m ys) (least-none m ys) made

greatest-of_cons : {A : Type 0} (m : A → ℕ) (y x : A) (ys : List A) (o : Option A) → ((z : A) → o ≡ Some z → IsGreatest m ys z) → (o ≡ None → (z : A) → Is z ys → ⊥) → greater m y o ≡ x → IsGreatest m (y ∷ ys) x
greatest-of_cons m y x ys None some none made = record {
  is = inl made;
  above = λ z h. elim h [ inl e ↦ let k : m x ≡ m z = ap m (sym made ∙ e) in omega arith | inr r ↦ absurd (none refl z r) ];
}
greatest-of_cons m y x ys (Some z) some none made =
    let best = some z refl in
    elim (cases_Bool (nat_lt (m y) (m z))) [
      | inl e ↦
          let zx : z ≡ x = sym (cond-true _ _ _ e) ∙ made in
          let lt = ltb-true (m y) (m z) e in
          record {
            is = inr (subst (λ (a : _). Is a ys) zx best.is);
            above = λ w h.
                let mx : m z ≡ m x = ap m zx in
                elim h [ inl f ↦ let k : m y ≡ m w = ap m f in omega arith | inr r ↦ let b = best.above w r in omega arith ];
          }
      | inr e ↦
          let yx : y ≡ x = sym (cond-false _ _ _ e) ∙ made in
          let ge = ltb-false (m y) (m z) e in
          record {
            is = inl yx;
            above = λ w h.
                let mx : m y ≡ m x = ap m yx in
                elim h [ inl f ↦ let k : m y ≡ m w = ap m f in omega arith | inr r ↦ let b = best.above w r in omega arith ];
          }
    ]

pub greatest-none : {A : Type 0} (m : A → ℕ) (xs : List A) → greatest m xs ≡ None → (z : A) → Is z xs → ⊥
greatest-none m [] e z h = h
greatest-none m (x ∷ xs) e z h = cc

pub greatest-is : {A : Type 0} (m : A → ℕ) (xs : List A) (x : A) → greatest m xs ≡ Some x → IsGreatest m xs x
greatest-is m [] x e = cc
greatest-is m (y ∷ ys) x e =
    let made : greater m y (greatest m ys) ≡ x = cc in
    greatest-of_cons m y x ys (greatest m ys) (greatest-is m ys) (greatest-none m ys) made

-- no two items of the list have one measure
abbrev pub TellsApart : {A : Type 0} → (A → ℕ) → List A → Type 0
TellsApart {A} m xs = (a b : A) → Is a xs → Is b xs → m a ≡ m b → a ≡ b

least-only : {A : Type 0} (m : A → ℕ) (xs : List A) (x : A) (o : Option A) → TellsApart m xs → IsLeast m xs x → least m xs ≡ o → o ≡ Some x
least-only m xs x None apart l e = absurd (least-none m xs e x l.is)
least-only m xs x (Some y) apart l e =
    let r = least-is m xs y e in
    let xy = l.below y r.is in let yx = r.below x l.is in
    let one : m y ≡ m x = omega arith in
    ap (λ (z : _). Some z) (apart y x r.is l.is one)

-- the item with the least measure is the least, where the measure tells them apart
pub least-found : {A : Type 0} (m : A → ℕ) (xs : List A) (x : A) → TellsApart m xs → IsLeast m xs x → least m xs ≡ Some x
least-found m xs x apart l = least-only m xs x (least m xs) apart l refl

greatest-only : {A : Type 0} (m : A → ℕ) (xs : List A) (x : A) (o : Option A) → TellsApart m xs → IsGreatest m xs x → greatest m xs ≡ o → o ≡ Some x
greatest-only m xs x None apart l e = absurd (greatest-none m xs e x l.is)
greatest-only m xs x (Some y) apart l e =
    let r = greatest-is m xs y e in
    let xy = l.above y r.is in let yx = r.above x l.is in
    let one : m y ≡ m x = omega arith in
    ap (λ (z : _). Some z) (apart y x r.is l.is one)

-- and the item with the greatest measure is the greatest
pub greatest-found : {A : Type 0} (m : A → ℕ) (xs : List A) (x : A) → TellsApart m xs → IsGreatest m xs x → greatest m xs ≡ Some x
greatest-found m xs x apart l = greatest-only m xs x (greatest m xs) apart l refl

-- nothing is the least of an empty list
pub least-empty : {A : Type 0} (m : A → ℕ) (xs : List A) → ((x : A) → Is x xs → ⊥) → least m xs ≡ None
least-empty m [] none = refl
least-empty m (x ∷ xs) none = absurd (none x (inl refl))

pub greatest-empty : {A : Type 0} (m : A → ℕ) (xs : List A) → ((x : A) → Is x xs → ⊥) → greatest m xs ≡ None
greatest-empty m [] none = refl
greatest-empty m (x ∷ xs) none = absurd (none x (inl refl))
