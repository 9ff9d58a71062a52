use Rattle.std.proofs.Common.{◌≡◌, Bool, true, false, cond, Option, Some, None, List, [], ◌∷◌, ◌++◌, inl, inr, refl, subst}
use Rattle.order_laws.specs.Chains.{In}
use Rattle.order_laws.specs.Orders.{Ranks}
use Rattle.order_laws.specs.Least.{earlier, earliest}
use Rattle.order_laws.proofs.Lists.{bool_is, in_front, in_last, in_either}

-- nothing is before itself
pub not_before_self : {A : Type 0} (before : A → A → Bool) → Ranks before → (a : A) → before a a ≡ false
not_before_self before law a =
    elim (bool_is (before a a)) [ inl e ↦ law.one_way a a e | inr e ↦ e ]

-- this one is an item of the list, and none is before it
pub record IsEarliest {A : Type 0} (before : A → A → Bool) (xs : List A) (t : A) : Type 0 where
  pub item : In t xs
  pub least : (u : A) → In u xs → before u t ≡ false

-- what isn't before y isn't before x where x isn't after y
pub later_too : {A : Type 0} (before : A → A → Bool) → Ranks before → (x y u : A) → before y x ≡ false → before u y ≡ false → before u x ≡ false
later_too before law x y u e f =
    elim (bool_is (before u x)) [
      | inr g ↦ g
      | inl g ↦ elim (bool_is (before y u)) [
        | inl h ↦ let k : before y x ≡ true = law.onward y u x h g in cc
        | inr h ↦ let k : before y x ≡ true = subst (λ z. before z x ≡ true) (law.total u y f h) g in cc
      ]
    ]

earliest_step : {A : Type 0} (before : A → A → Bool) → Ranks before → (x : A) (xs : List A) (y : A) → IsEarliest before xs y →
    (b : Bool) → before y x ≡ b → IsEarliest before (x ∷ xs) (cond b y x)
earliest_step before law x xs y h true e =
    record {
      item = inr h.item;
      least = λ u i. elim i [ inl p ↦ subst (λ z. before z y ≡ false) p (law.one_way y x e) | inr j ↦ h.least u j ];
    }
earliest_step before law x xs y h false e =
    record {
      item = inl refl;
      least = λ u i. elim i [
        | inl p ↦ subst (λ z. before z x ≡ false) p (not_before_self before law x)
        | inr j ↦ later_too before law x y u e (h.least u j)
      ];
    }

earliest_some : {A : Type 0} (before : A → A → Bool) → Ranks before → (x : A) (xs : List A) (best : Option A) → earliest before xs ≡ best →
    ((y : A) → earliest before xs ≡ Some y → IsEarliest before xs y) → (earliest before xs ≡ None → xs ≡ []) →
    IsEarliest before (x ∷ xs) (earlier before x best)
earliest_some before law x xs None e h n =
    let only : xs ≡ [] = n e in
    record {
      item = inl refl;
      least = λ u i. elim i [
        | inl p ↦ subst (λ z. before z x ≡ false) p (not_before_self before law x)
        | inr j ↦ absurd (subst (In u) only j)
      ];
    }
earliest_some before law x xs (Some y) e h n = earliest_step before law x xs y (h y e) (before y x) refl

-- only a list of nothing has no earliest item
pub earliest_none : {A : Type 0} (before : A → A → Bool) (xs : List A) → earliest before xs ≡ None → xs ≡ []
earliest_none before [] e = refl
earliest_none before (x ∷ xs) e = cc

-- what is found is the earliest item
pub earliest_is : {A : Type 0} (before : A → A → Bool) → Ranks before → (xs : List A) (t : A) → earliest before xs ≡ Some t → IsEarliest before xs t
earliest_is before law [] t e = cc
earliest_is before law (x ∷ xs) t e =
    let is : earlier before x (earliest before xs) ≡ t = cc in
    subst (IsEarliest before (x ∷ xs)) is
    (earliest_some before law x xs (earliest before xs) refl (earliest_is before law xs) (earliest_none before xs))

earliest_push_step : {A : Type 0} (before : A → A → Bool) → Ranks before → (xs : List A) (y t : A) → IsEarliest before xs t → (b : Bool) → before t y ≡ b →
    IsEarliest before (xs ++ y ∷ []) (cond b t y)
earliest_push_step before law xs y t h true e =
    record {
      item = in_front t y xs h.item;
      least = λ u i. elim (in_either u y xs i) [
        | inl j ↦ h.least u j
        | inr p ↦ subst (λ z. before z t ≡ false) p (law.one_way t y e)
      ];
    }
earliest_push_step before law xs y t h false e =
    record {
      item = in_last y xs;
      least = λ u i. elim (in_either u y xs i) [
        | inl j ↦ later_too before law y t u e (h.least u j)
        | inr p ↦ subst (λ z. before z y ≡ false) p (not_before_self before law y)
      ];
    }

-- the earliest of a list with one more behind it
pub earliest_push : {A : Type 0} (before : A → A → Bool) → Ranks before → (xs : List A) (y t : A) → IsEarliest before xs t →
    IsEarliest before (xs ++ y ∷ []) (cond (before t y) t y)
earliest_push before law xs y t h = earliest_push_step before law xs y t h (before t y) refl
