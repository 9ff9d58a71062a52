-- Rows of other keys may be written in any order, and one that comes in order is written on top.
use Rattle.std.proofs.Common.{◌≡◌, ℕ, ◌<◌, ◌⊎◌, Bool, true, false, cond, ◌||◌, List, [], ◌∷◌, refl, sym, ap, ◌∙◌, subst, inl, inr, arith, ltb-true, ltb-false, lt-ltb}
use Rattle.std.proofs.lemmas.Bool.{eqb-true}
use Rattle.std.specs.Prelude.{nat_lt, ◌==◌}
use Rattle.mdb_base.specs.declared.rows.Put.{Put}
use Rattle.mdb_base.specs.Names.{same_key}
use Rattle.mdb_base.specs.Rows.{with_row, with_rows}
use Rattle.mdb_base.specs.Words.{Each}
use Rattle.mdb_base.proofs.ForCallers.{not_below, not_same_after}
use Rattle.fed_rules.specs.EngineLines.{has_row}
use Rattle.fed_rules.specs.SiteRecords.{Install, by_number, rows_after}
use Rattle.site_history.specs.Sums.{AreDisjoint, StaysBelow}

not_same : (m n : ℕ) → m < n → (m == n) ≡ false
not_same m n h = by_test (m == n) refl
  where
    by_test : (b : Bool) → (m == n) ≡ b → b ≡ false
    by_test true e = let same : m ≡ n = eqb-true m n e in let no : ⊥ = omega (arith, same, h) in absurd no
    by_test false e = refl

-- two rows of different keys
pub rows_swap : (a b : Put) (rows : List Put) → a.key.0 < b.key.0 → with_row a (with_row b rows) ≡ with_row b (with_row a rows)
rows_swap a b [] less =
    let e = not_same_after b.key.0 a.key.0 less in
    let f = not_below b.key.0 a.key.0 (omega arith) in
    let g = not_same a.key.0 b.key.0 less in
    let h = lt-ltb a.key.0 b.key.0 less in cc
rows_swap a b (y ∷ ys) less =
    by_tests (y.key.0 == a.key.0) (y.key.0 == b.key.0) (nat_lt y.key.0 a.key.0) (nat_lt y.key.0 b.key.0) refl refl refl refl (rows_swap a b ys less)
  where
    ba : (b.key.0 == a.key.0) ≡ false
    ba = not_same_after b.key.0 a.key.0 less

    bal : nat_lt b.key.0 a.key.0 ≡ false
    bal = not_below b.key.0 a.key.0 (omega arith)

    ab : (a.key.0 == b.key.0) ≡ false
    ab = not_same a.key.0 b.key.0 less

    abl : nat_lt a.key.0 b.key.0 ≡ true
    abl = lt-ltb a.key.0 b.key.0 less

    by_tests : (p q r s : Bool) → (y.key.0 == a.key.0) ≡ p → (y.key.0 == b.key.0) ≡ q → nat_lt y.key.0 a.key.0 ≡ r → nat_lt y.key.0 b.key.0 ≡ s
        → with_row a (with_row b ys) ≡ with_row b (with_row a ys)
        → with_row a (with_row b (y ∷ ys)) ≡ with_row b (with_row a (y ∷ ys))
    by_tests true true r s p q u v rest = let x : y.key.0 ≡ a.key.0 = eqb-true _ _ p in let z : y.key.0 ≡ b.key.0 = eqb-true _ _ q in let no : ⊥ = omega (arith, x, z, less) in absurd no
    by_tests true false r s p q u v rest =
        let x : y.key.0 ≡ a.key.0 = eqb-true _ _ p in
        let ybl : nat_lt y.key.0 b.key.0 ≡ true = lt-ltb _ _ (omega (arith, x, less)) in let e = ab in let f = abl in let g = ba in let h = bal in cc
    by_tests false true r s p q u v rest =
        let z : y.key.0 ≡ b.key.0 = eqb-true _ _ q in
        let yal : nat_lt y.key.0 a.key.0 ≡ false = not_below _ _ (omega (arith, z, less)) in let e = ab in let f = abl in let g = ba in let h = bal in cc
    by_tests false false true s p q u v rest =
        let yal : y.key.0 < a.key.0 = ltb-true _ _ u in
        let ybl : nat_lt y.key.0 b.key.0 ≡ true = lt-ltb _ _ (omega (arith, yal, less)) in cc
    by_tests false false false true p q u v rest = let e = ab in let f = abl in cc
    by_tests false false false false p q u v rest = let e = ab in let f = abl in let g = ba in let h = bal in cc

same_or_apart : (a b : Put) → (a.key.0 == b.key.0) ≡ false → (a.key.0 < b.key.0) ⊎ (b.key.0 < a.key.0)
same_or_apart a b apart = by_test (nat_lt a.key.0 b.key.0) refl
  where
    by_test : (t : Bool) → nat_lt a.key.0 b.key.0 ≡ t → (a.key.0 < b.key.0) ⊎ (b.key.0 < a.key.0)
    by_test true e = inl (ltb-true _ _ e)
    by_test false e = inr (by_same (nat_lt b.key.0 a.key.0) refl)
      where
        by_same : (u : Bool) → nat_lt b.key.0 a.key.0 ≡ u → b.key.0 < a.key.0
        by_same true f = ltb-true _ _ f
        by_same false f =
            let x = ltb-false _ _ e in
            let y = ltb-false _ _ f in
            let same : a.key.0 ≡ b.key.0 = omega (arith, x, y) in
            let clash : (a.key.0 == a.key.0) ≡ false = subst (λ k. (a.key.0 == k) ≡ false) (sym same) apart in
            let sure : (a.key.0 == a.key.0) ≡ true = grind arith in cc

row_swap : (a b : Put) (rows : List Put) → same_key a.key b.key ≡ false → with_row a (with_row b rows) ≡ with_row b (with_row a rows)
row_swap a b rows apart = elim (same_or_apart a b apart) [ inl h ↦ rows_swap a b rows h | inr h ↦ sym (rows_swap b a rows h) ]

-- one row among others of other keys
row_among : (a : Put) (others rows : List Put) → has_row a.key others ≡ false → with_row a (with_rows others rows) ≡ with_rows others (with_row a rows)
row_among a [] rows h = refl
row_among a (b ∷ others) rows h =
    let parts = or_parts (same_key b.key a.key) (has_row a.key others) h in
    sym (row_swap b a (with_rows others rows) parts.0) ∙ ap (with_row b) (row_among a others rows parts.1)
  where
    or_parts : (x y : Bool) → (x || y) ≡ false → (x ≡ false) × (y ≡ false)
    or_parts true y e = cc
    or_parts false y e = (refl, e)

-- rows of other keys
pub rows_commute : (writes others rows : List Put) → AreDisjoint writes others
    → with_rows writes (with_rows others rows) ≡ with_rows others (with_rows writes rows)
rows_commute [] others rows h = refl
rows_commute (a ∷ writes) others rows h =
    ap (with_row a) (rows_commute writes others rows h.1) ∙ row_among a others (with_rows writes rows) h.0

-- what comes in order is written on top
pub rows_on_top : (i : Install) (installs : List Install) (base : List Put) → Each (StaysBelow i) installs
    → rows_after base (by_number i installs) ≡ with_rows i.writes (rows_after base installs)
rows_on_top i [] base h = refl
rows_on_top i (o ∷ installs) base h = by_test (nat_lt i.number o.number) refl h.0 (rows_on_top i installs base h.1)
  where
    by_test : (b : Bool) → nat_lt i.number o.number ≡ b → StaysBelow i o
        → rows_after base (by_number i installs) ≡ with_rows i.writes (rows_after base installs)
        → rows_after base (cond b (o ∷ by_number i installs) (i ∷ o ∷ installs)) ≡ with_rows i.writes (with_rows o.writes (rows_after base installs))
    by_test true e (inl less) rest = let more = ltb-true _ _ e in let no : ⊥ = omega (arith, more, less) in absurd no
    by_test true e (inr apart) rest = ap (with_rows o.writes) rest ∙ sym (rows_commute i.writes o.writes (rows_after base installs) apart)
    by_test false e b rest = refl
