-- Two texts with a mark between them, and what is read of each.
use Rattle.std.proofs.Common.{◌≡◌, ℕ, ◌<◌, Bool, IsTrue, List, [], ◌∷◌, ◌++◌, Some, None, ap, ◌∙◌}
use Rattle.std.specs.Borrow.{Bor}
use Rattle.std.proofs.lemmas.Str.Pattern.{IsSplitOnceResult, split_after, split_parts}
use Rattle.mdb_base.proofs.ForCallers.{is_true_both, is_true_parts}
use Rattle.trace_lines.specs.Lexing.{Spells, are_both, pair_text}
use Rattle.trace_lines.proofs.Bytes.{Lacks, lacks_at}

-- the first mark parts the bytes in one way
pub one_parting : (c : ℕ) (xs xs' ys ys' : List ℕ) → Lacks c xs → Lacks c xs' → xs ++ c ∷ ys ≡ xs' ++ c ∷ ys' → (xs ≡ xs') × (ys ≡ ys')
one_parting c [] [] ys ys' h h' e = (cc, cc)
one_parting c [] (x' ∷ xs') ys ys' h h' e = absurd (h'.0 cc)
one_parting c (x ∷ xs) [] ys ys' h h' e = absurd (h.0 cc)
one_parting c (x ∷ xs) (x' ∷ xs') ys ys' h h' e =
    let first : x ≡ x' = cc in
    let others : xs ++ c ∷ ys ≡ xs' ++ c ∷ ys' = cc in
    let more = one_parting c xs xs' ys ys' h.1 h'.1 others in
    (let same : xs ≡ xs' = more.0 in cc, more.1)

module _ {A B : Type 0} (is_a : A → Bool) (text_a : A → List ℕ) (is_b : B → Bool) (text_b : B → List ℕ) (c : ℕ) (ascii : c < 128) (lacks : (a : A) → IsTrue (is_a a) → Lacks c (text_a a)) (bs : List ℕ) where
  -- there is no mark
  pub no_mark : IsSplitOnceResult c bs None → Spells (are_both is_a is_b) (pair_text text_a c text_b) bs None
  no_mark h pair holds spelled =
      split_after c bs (text_a pair.0) (text_b pair.1) None h ascii spelled (lacks_at c _ (lacks pair.0 (is_true_parts (is_a pair.0) (is_b pair.1) holds).0))

  -- what stands before the mark is none of the first things
  pub no_first : (x y : Bor (List ℕ)) → IsSplitOnceResult c bs (Some (x, y)) → Spells is_a text_a x.now None → Spells (are_both is_a is_b) (pair_text text_a c text_b) bs None
  no_first x y h none pair holds spelled =
      let first = (is_true_parts (is_a pair.0) (is_b pair.1) holds).0 in
      none pair.0 first (split_after c bs (text_a pair.0) (text_b pair.1) (Some (x, y)) h ascii spelled (lacks_at c _ (lacks pair.0 first))).0

  -- what stands behind the mark is none of the second things
  pub no_second : (x y : Bor (List ℕ)) → IsSplitOnceResult c bs (Some (x, y)) → Spells is_b text_b y.now None → Spells (are_both is_a is_b) (pair_text text_a c text_b) bs None
  no_second x y h none pair holds spelled =
      let tests = is_true_parts (is_a pair.0) (is_b pair.1) holds in
      none pair.1 tests.1 (split_after c bs (text_a pair.0) (text_b pair.1) (Some (x, y)) h ascii spelled (lacks_at c _ (lacks pair.0 tests.0))).1

  -- both stand there
  pub both_found : (x y : Bor (List ℕ)) (a : A) (b : B) → IsSplitOnceResult c bs (Some (x, y)) → Spells is_a text_a x.now (Some a) → Spells is_b text_b y.now (Some b) → Spells (are_both is_a is_b) (pair_text text_a c text_b) bs (Some (a, b))
  both_found x y a b h first second = (
    is_true_both (is_a a) (is_b b) first.0 second.0,
    (split_parts c bs (Some (x, y)) h ascii).0 ∙ ap (λ front. front ++ c ∷ y.now) first.1 ∙ ap (λ rest. text_a a ++ c ∷ rest) second.1,
  )
