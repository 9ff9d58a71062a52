-- The first item that a test holds of: where it stands, and what a write or a removal there comes to.
use Rattle.std.proofs.Common.{◌≡◌, ℕ, zero, suc, ◌<◌, Bool, true, false, cond, Option, Some, None, List, [], ◌∷◌, length, get_or, slice_get, slice_set, take, refl, sym, ap, subst, ◌∙◌, ◌+◌, ◌++◌, arith, add-one, map}
use Rattle.std.specs.Prelude.{reverse}
use Rattle.std.proofs.lemmas.List.{map-append, reverse-append}
use Rattle.std.specs.List.{remove}
use Rattle.mdb_base.specs.Words.{Each, first_where, map_some}
use Rattle.mdb_base.proofs.ForCallers.{take_none}
use Rattle.global_exec.specs.Firsts.{place_where, replaced, taken_out}

module _ {A : Type 0} (test : A → Bool) where
  -- what stands at the place
  pub record Stands (xs : List A) (i : ℕ) : Type 0 where
    pub within : i < length xs
    pub first : (d : A) → first_where test xs ≡ Some (get_or xs i d)
    pub set : (d : A) (change : A → A) → slice_set xs i (change (get_or xs i d)) ≡ replaced test change xs
    pub out : remove xs i ≡ taken_out test xs

  stands_first : (x : A) (xs : List A) → test x ≡ true → Stands (x ∷ xs) 0
  stands_first x xs is = record {
    within = omega arith;
    first = λ d. ap (λ b. cond b (Some x) (first_where test xs)) is;
    set = λ d change. sym (ap (λ b. cond b (change x ∷ xs) (x ∷ replaced test change xs)) is);
    out = sym (ap (λ b. cond b xs (x ∷ taken_out test xs)) is);
  }

  stands_later : (x : A) (xs : List A) (i : ℕ) → test x ≡ false → Stands xs i → Stands (x ∷ xs) (suc i)
  stands_later x xs i is s = record {
    within = omega (arith, s.within);
    first = λ d. ap (λ b. cond b (Some x) (first_where test xs)) is ∙ s.first d;
    set = λ d change. ap (λ ys. x ∷ ys) (s.set d change) ∙ sym (ap (λ b. cond b (change x ∷ xs) (x ∷ replaced test change xs)) is);
    out = ap (λ ys. x ∷ ys) s.out ∙ sym (ap (λ b. cond b xs (x ∷ taken_out test xs)) is);
  }

  pub stands : (xs : List A) (i : ℕ) → place_where test xs ≡ Some i → Stands xs i
  stands [] i e = cc
  stands (x ∷ xs) i e = by_test (test x) refl e (stands xs)
    where
      later : (o : Option ℕ) → map_some (λ n. suc n) o ≡ Some i → test x ≡ false → ((j : ℕ) → o ≡ Some j → Stands xs j) → Stands (x ∷ xs) i
      later None e is rest = cc
      later (Some j) e is rest = let same : suc j ≡ i = cc in subst (Stands (x ∷ xs)) same (stands_later x xs j is (rest j refl))

      by_test : (b : Bool) → test x ≡ b → cond b (Some 0) (map_some (λ n. suc n) (place_where test xs)) ≡ Some i → ((j : ℕ) → place_where test xs ≡ Some j → Stands xs j) → Stands (x ∷ xs) i
      by_test true is e rest = let same : 0 ≡ i = cc in subst (Stands (x ∷ xs)) same (stands_first x xs is)
      by_test false is e rest = later (place_where test xs) e is rest

  -- where there is none
  pub record IsMissing (xs : List A) : Type 0 where
    pub first : first_where test xs ≡ None
    pub set : (change : A → A) → replaced test change xs ≡ xs
    pub out : taken_out test xs ≡ xs

  pub missing : (xs : List A) → place_where test xs ≡ None → IsMissing xs
  missing [] e = record { first = refl; set = λ change. refl; out = refl }
  missing (x ∷ xs) e = by_test (test x) refl e (missing xs)
    where
      none : (o : Option ℕ) → map_some (λ n. suc n) o ≡ None → o ≡ None
      none None e = refl
      none (Some j) e = cc

      by_test : (b : Bool) → test x ≡ b → cond b (Some 0) (map_some (λ n. suc n) (place_where test xs)) ≡ None → (place_where test xs ≡ None → IsMissing xs) → IsMissing (x ∷ xs)
      by_test true is e rest = cc
      by_test false is e rest =
          let m = rest (none (place_where test xs) e) in
          record {
            first = ap (λ b. cond b (Some x) (first_where test xs)) is ∙ m.first;
            set = λ change. ap (λ b. cond b (change x ∷ xs) (x ∷ replaced test change xs)) is ∙ ap (λ ys. x ∷ ys) (m.set change);
            out = ap (λ b. cond b xs (x ∷ taken_out test xs)) is ∙ ap (λ ys. x ∷ ys) m.out;
          }

  -- the test fails on the first ones, and holds of the next
  pub place_there : (xs : List A) (i : ℕ) (d : A) → Each (λ x. test x ≡ false) (take i xs) → i < length xs → test (get_or xs i d) ≡ true → place_where test xs ≡ Some i
  place_there [] i d h lt is = absurd (omega arith)
  place_there (x ∷ xs) zero d h lt is = ap (λ b. cond b (Some 0) (map_some (λ n. suc n) (place_where test xs))) is
  place_there (x ∷ xs) (suc i) d h lt is =
      ap (λ b. cond b (Some 0) (map_some (λ n. suc n) (place_where test xs))) h.0
      ∙ ap (map_some (λ n. suc n)) (place_there xs i d h.1 (omega arith) is)

  pub place_nowhere : (xs : List A) → Each (λ x. test x ≡ false) xs → place_where test xs ≡ None
  place_nowhere [] h = refl
  place_nowhere (x ∷ xs) h =
      ap (λ b. cond b (Some 0) (map_some (λ n. suc n) (place_where test xs))) h.0
      ∙ ap (map_some (λ n. suc n)) (place_nowhere xs h.1)

  each_suc : (xs : List A) (i : ℕ) (d : A) → Each (λ x. test x ≡ false) (take i xs) → i < length xs → test (get_or xs i d) ≡ false → Each (λ x. test x ≡ false) (take (suc i) xs)
  each_suc [] i d h lt is = absurd (omega arith)
  each_suc (x ∷ xs) zero d h lt is = (is, tt)
  each_suc (x ∷ xs) (suc i) d h lt is = (h.0, each_suc xs i d h.1 (omega arith) is)

  -- one more that it fails on
  pub each_more : (xs : List A) (i : ℕ) (d : A) → Each (λ x. test x ≡ false) (take i xs) → i < length xs → test (get_or xs i d) ≡ false → Each (λ x. test x ≡ false) (take (i + 1) xs)
  each_more xs i d h lt is = subst (λ (n : ℕ). Each (λ x. test x ≡ false) (take n xs)) (sym (add-one i)) (each_suc xs i d h lt is)

-- a write of what stands there changes nothing
pub set_same : {A : Type 0} (xs : List A) (i : ℕ) (d : A) → slice_set xs i (get_or xs i d) ≡ xs
set_same [] i d = refl
set_same (x ∷ xs) zero d = refl
set_same (x ∷ xs) (suc i) d = ap (λ ys. x ∷ ys) (set_same xs i d)

take_whole : {A : Type 0} (ys zs : List A) → take (length ys) (ys ++ zs) ≡ ys
take_whole [] zs = take_none zs
take_whole (y ∷ ys) zs = ap (λ xs. y ∷ xs) (take_whole ys zs)

-- what was written over the whole list
pub take_written : {A : Type 0} (n : ℕ) (ys zs : List A) → length ys ≡ n → take n (ys ++ zs) ≡ ys
take_written n ys zs e = subst (λ (m : ℕ). take m (ys ++ zs) ≡ ys) e (take_whole ys zs)

pub length-replaced : {A : Type 0} (test : A → Bool) (change : A → A) (xs : List A) → length (replaced test change xs) ≡ length xs
length-replaced test change [] = refl
length-replaced test change (x ∷ xs) = by_test (test x) (length-replaced test change xs)
  where
    by_test : (b : Bool) → length (replaced test change xs) ≡ length xs → length (cond b (change x ∷ xs) (x ∷ replaced test change xs)) ≡ length (x ∷ xs)
    by_test true rest = refl
    by_test false rest = ap suc rest

-- a write where the test first holds
pub set-replaced : {A : Type 0} (test : A → Bool) (xs : List A) (i : ℕ) (change : A → A) (x new : A) → Stands test xs i → x ≡ get_or xs i x → new ≡ change x → slice_set xs i new ≡ replaced test change xs
set-replaced test xs i change x new s read made = ap (slice_set xs i) (made ∙ ap change read) ∙ s.set x change

-- what is read there
pub first-read : {A : Type 0} (test : A → Bool) (xs : List A) (i : ℕ) (x : A) → Stands test xs i → x ≡ get_or xs i x → first_where test xs ≡ Some x
first-read test xs i x s read = s.first x ∙ ap (λ y. Some y) (sym read)

-- the last of some items and one more
pub last_more : {A B : Type 0} (test : B → Bool) (f : A → B) (xs : List A) (i : ℕ) (d : A) → i < length xs
    → first_where test (reverse (map f (take (i + 1) xs))) ≡ cond (test (f (get_or xs i d))) (Some (f (get_or xs i d))) (first_where test (reverse (map f (take i xs))))
last_more test f xs i d lt =
    ap (λ (ys : List _). first_where test (reverse (map f ys))) (more xs i lt)
    ∙ ap (λ (ys : List _). first_where test (reverse ys)) (map-append f (take i xs) (get_or xs i d ∷ []))
    ∙ ap (first_where test) (reverse-append (map f (take i xs)) (f (get_or xs i d) ∷ []))
  where
    more : (ys : List _) (j : ℕ) → j < length ys → take (j + 1) ys ≡ take j ys ++ get_or ys j d ∷ []
    more ys j l = ap (λ (m : ℕ). take m ys) (add-one j) ∙ inner ys j l where
      inner : (zs : List _) (k : ℕ) → k < length zs → take (suc k) zs ≡ take k zs ++ get_or zs k d ∷ []
      inner [] k m = absurd (omega arith)
      inner (z ∷ zs) zero m = ap (λ ws. z ∷ ws) (take_none zs)
      inner (z ∷ zs) (suc k) m = ap (λ ws. z ∷ ws) (inner zs k (omega arith))

-- what is read at a place stands there
pub read_there : {A : Type 0} (xs : List A) (i : ℕ) (x : A) → slice_get xs i ≡ Some x → (i < length xs) × (get_or xs i x ≡ x)
read_there [] i x e = cc
read_there (y ∷ ys) zero x e = (omega arith, cc)
read_there (y ∷ ys) (suc i) x e =
    let rest = read_there ys i x e in
    (omega (arith, rest.0), rest.1)
