-- Bytes that end with a line feed.
use Rattle.std.proofs.Common.{◌≡◌, ℕ, Bool, true, false, ◌&&◌, eqb, List, [], ◌∷◌, ◌++◌, length, refl, sym, ap, ◌∙◌, arith}
use Rattle.std.proofs.lemmas.Bool.Decides.{nat_tests}
use Rattle.std.specs.Str.{bytes_eq}

-- the last byte is compared last
by_last : (bs front : List ℕ) (last : ℕ) → bytes_eq (bs ++ 10 ∷ []) (front ++ last ∷ []) ≡ (bytes_eq bs front && eqb 10 last)
by_last [] [] last = by_test (eqb 10 last) where
  by_test : (b : Bool) → (b && true) ≡ b
  by_test true = refl
  by_test false = refl
by_last [] (f ∷ []) last = by_test (eqb 10 f) where
  by_test : (b : Bool) → (b && false) ≡ false
  by_test true = refl
  by_test false = refl
by_last [] (f ∷ g ∷ front) last = by_test (eqb 10 f) where
  by_test : (b : Bool) → (b && false) ≡ false
  by_test true = refl
  by_test false = refl
by_last (b ∷ []) [] last = by_test (eqb b last) where
  by_test : (t : Bool) → (t && false) ≡ false
  by_test true = refl
  by_test false = refl
by_last (b ∷ c ∷ bs) [] last = by_test (eqb b last) where
  by_test : (t : Bool) → (t && false) ≡ false
  by_test true = refl
  by_test false = refl
by_last (b ∷ bs) (f ∷ front) last = ap (λ t. eqb b f && t) (by_last bs front last) ∙ by_test (eqb b f) where
  by_test : (t : Bool) → (t && (bytes_eq bs front && eqb 10 last)) ≡ ((t && bytes_eq bs front) && eqb 10 last)
  by_test true = refl
  by_test false = refl

-- no line has no bytes
pub no_bytes : (ended : Bool) (bs bytes : List ℕ) → length bytes ≡ 0 → false ≡ (ended && bytes_eq (bs ++ 10 ∷ []) bytes)
no_bytes true [] [] e = refl
no_bytes true (b ∷ bs) [] e = refl
no_bytes true bs (c ∷ cs) e = absurd (omega (arith, e))
no_bytes false bs bytes e = refl

module _ (bs bytes front : List ℕ) (last : ℕ) (is : bytes ≡ front ++ last ∷ []) where
  -- the last one isn't a line feed
  pub other_byte : (ended : Bool) → (last ≡ 10 → ⊥) → false ≡ (ended && bytes_eq (bs ++ 10 ∷ []) bytes)
  other_byte false other = refl
  other_byte true other =
      let no : eqb 10 last ≡ false = grind (arith, nat_tests) in
      sym (ap (bytes_eq (bs ++ 10 ∷ [])) is ∙ (by_last bs front last ∙ (ap (λ b. bytes_eq bs front && b) no ∙ by_test (bytes_eq bs front))))
    where
      by_test : (t : Bool) → (t && false) ≡ false
      by_test true = refl
      by_test false = refl

  -- or it is
  pub bytes_before : (ended : Bool) → ended ≡ true → last ≡ 10 → bytes_eq bs front ≡ (ended && bytes_eq (bs ++ 10 ∷ []) bytes)
  bytes_before false e feed = cc
  bytes_before true e feed =
      let yes : eqb 10 last ≡ true = grind (arith, nat_tests) in
      sym (ap (bytes_eq (bs ++ 10 ∷ [])) is ∙ (by_last bs front last ∙ (ap (λ b. bytes_eq bs front && b) yes ∙ by_test (bytes_eq bs front))))
    where
      by_test : (t : Bool) → (t && true) ≡ t
      by_test true = refl
      by_test false = refl
