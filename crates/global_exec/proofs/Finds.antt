-- What a look-up finds: one item more, and another item in the place of the only one that passes a test.
use Rattle.std.proofs.Common.{◌≡◌, ℕ, zero, suc, ◌+◌, ◌<◌, Bool, true, false, cond, Option, Some, None, option_to_list, List, [], ◌∷◌, ◌++◌, length, get_or, take, refl, sym, ap, ap₂, ◌∙◌, arith, add-one}
use Rattle.mdb_base.specs.Words.{Each, found, with_some}
use Rattle.mdb_base.proofs.ForCallers.{each_map}
use Rattle.global_exec.specs.Firsts.{replaced}
use Rattle.global_exec.specs.Pasts.{IsOnly}

module _ {A B : Type 0} (look : A → Option B) where
  one : (o : Option B) → with_some o [] ≡ option_to_list o
  one None = refl
  one (Some b) = refl

  behind : (o : Option B) (xs ys : List B) → with_some o (xs ++ ys) ≡ with_some o xs ++ ys
  behind None xs ys = refl
  behind (Some b) xs ys = refl

  found_suc : (xs : List A) (i : ℕ) (d : A) → i < length xs → found look (take (suc i) xs) ≡ found look (take i xs) ++ option_to_list (look (get_or xs i d))
  found_suc [] i d lt = absurd (omega arith)
  found_suc (x ∷ xs) zero d lt = one (look x)
  found_suc (x ∷ xs) (suc i) d lt =
      ap (with_some (look x)) (found_suc xs i d (omega arith)) ∙ behind (look x) (found look (take i xs)) (option_to_list (look (get_or xs i d)))

  pub found_more : (xs : List A) (i : ℕ) (d : A) → i < length xs → found look (take i xs) ++ option_to_list (look (get_or xs i d)) ≡ found look (take (i + 1) xs)
  found_more xs i d lt = sym (found_suc xs i d lt) ∙ ap (λ (n : ℕ). found look (take n xs)) (sym (add-one i))

-- where each item gives the same, the same is found
found_same : {A B : Type 0} (look other : A → Option B) (xs : List A) → Each (λ x. look x ≡ other x) xs → found look xs ≡ found other xs
found_same look other [] h = refl
found_same {A} {B} look other (x ∷ xs) h = ap₂ (λ (o : Option B) (bs : List B). with_some o bs) h.0 (found_same look other xs h.1)

-- another look-up at the only item that passes finds what this one does with another item there
pub found_replaced : {A B : Type 0} (test : A → Bool) (change : A → A) (look other : A → Option B)
    → ((x : A) → test x ≡ true → look (change x) ≡ other x) → ((x : A) → test x ≡ false → look x ≡ other x)
    → (xs : List A) → IsOnly test xs → found look (replaced test change xs) ≡ found other xs
found_replaced test change look other hit miss [] only = refl
found_replaced {A} {B} test change look other hit miss (x ∷ xs) only = by_test (test x) refl (found_replaced test change look other hit miss xs only.1)
  where
    by_test : (b : Bool) → test x ≡ b → found look (replaced test change xs) ≡ found other xs
        → found look (cond b (change x ∷ xs) (x ∷ replaced test change xs)) ≡ found other (x ∷ xs)
    by_test true e rest =
        ap₂ (λ (o : Option B) (bs : List B). with_some o bs) (hit x e) (found_same look other xs (each_map (λ y. test y ≡ false) (λ y. look y ≡ other y) miss xs (only.0 e)))
    by_test false e rest = ap₂ (λ (o : Option B) (bs : List B). with_some o bs) (miss x e) rest
