-- Marks in the order of their numbers: a stable sort and the insertion by number give the same.
use Rattle.std.proofs.Common.{◌≡◌, ℕ, suc, ◌<◌, ◌≤◌, Bool, true, false, cond, ◌==◌, nat_lt, List, [], ◌∷◌, ◌++◌, get_or, length, reverse, refl, sym, ◌∙◌, ap, subst, arith}
use Rattle.std.specs.List.{filter}
use Rattle.std.specs.List.Sorted.{IsNonDecreasingBy, IsStableByKey, ties}
use Rattle.std.specs.Ordering.{is_lt, nat_cmp}
use Rattle.std.proofs.lemmas.Bool.{eqb-true, eq-eqb, ltb-true, ltb-false}
use Rattle.std.proofs.lemmas.Bool.Decides.{nat_tests}
use Rattle.std.proofs.lemmas.List.{reverse-reverse}
use Rattle.std.proofs.lemmas.List.Sorted.{IsNonDecreasingBy-drop}
use Rattle.mdb_base.specs.Words.{Each, inserted, those}
use Rattle.mdb_base.proofs.ForCallers.{each_inserted, each_map, reverse_more}
use Rattle.session_report.specs.declared.marks.Mark.{Mark}
use Rattle.session_report.specs.Ranks.{ranked, rising_marks}

-- whether the mark has this number
abbrev has : ℕ → Mark → Bool
has n mark = mark.number == n

-- the numbers don't fall
abbrev Rises : List Mark → Type 0
Rises [] = Unit {0}
Rises (mark ∷ marks) = Each (λ other. mark.number ≤ other.number) marks × Rises marks

-- the numbers don't rise
abbrev Falls : List Mark → Type 0
Falls [] = Unit {0}
Falls (mark ∷ marks) = Each (λ other. other.number ≤ mark.number) marks × Falls marks

those_push : (test : Mark → Bool) (xs : List Mark) (m : Mark) → those test (xs ++ m ∷ []) ≡ those test xs ++ cond (test m) (m ∷ []) []
those_push test [] m = refl
those_push test (x ∷ xs) m = by_test (test x) (those_push test xs m)
  where
    by_test : (b : Bool) → those test (xs ++ m ∷ []) ≡ those test xs ++ cond (test m) (m ∷ []) []
        → cond b (x ∷ those test (xs ++ m ∷ [])) (those test (xs ++ m ∷ [])) ≡ cond b (x ∷ those test xs) (those test xs) ++ cond (test m) (m ∷ []) []
    by_test true h = ap (λ ys. x ∷ ys) h
    by_test false h = h

-- those of a list that is turned round
pub those_reverse : (test : Mark → Bool) (xs : List Mark) → those test (reverse xs) ≡ reverse (those test xs)
those_reverse test [] = refl
those_reverse test (x ∷ xs) =
    ap (those test) (reverse_more x xs) ∙ (those_push test (reverse xs) x ∙ (ap (λ ys. ys ++ cond (test x) (x ∷ []) []) (those_reverse test xs) ∙ by_test (test x)))
  where
    append_none : (ys : List Mark) → ys ++ [] ≡ ys
    append_none [] = refl
    append_none (y ∷ ys) = ap (λ zs. y ∷ zs) (append_none ys)

    by_test : (b : Bool) → reverse (those test xs) ++ cond b (x ∷ []) [] ≡ reverse (cond b (x ∷ those test xs) (those test xs))
    by_test true = sym (reverse_more x (those test xs))
    by_test false = append_none (reverse (those test xs))

-- those with a number, where one is put in by its number
those_inserted : (n : ℕ) (m : Mark) (ms : List Mark) → those (has n) (inserted (λ a b. nat_lt b.number a.number) m ms) ≡ those (has n) (m ∷ ms)
those_inserted n m [] = refl
those_inserted n m (r ∷ ms) = by_test (nat_lt m.number r.number) refl (those_inserted n m ms)
  where
    swap : m.number < r.number → (a b : Bool) → has n m ≡ a → has n r ≡ b
        → cond b (r ∷ cond a (m ∷ those (has n) ms) (those (has n) ms)) (cond a (m ∷ those (has n) ms) (those (has n) ms))
        ≡ cond a (m ∷ cond b (r ∷ those (has n) ms) (those (has n) ms)) (cond b (r ∷ those (has n) ms) (those (has n) ms))
    swap lt true true p q = (let one = eqb-true m.number n p in let other = eqb-true r.number n q in absurd (omega (arith, lt, one, other)))
    swap lt true false p q = refl
    swap lt false true p q = refl
    swap lt false false p q = refl

    by_test : (b : Bool) → nat_lt m.number r.number ≡ b → those (has n) (inserted (λ a b. nat_lt b.number a.number) m ms) ≡ those (has n) (m ∷ ms)
        → those (has n) (cond b (r ∷ inserted (λ a b. nat_lt b.number a.number) m ms) (m ∷ r ∷ ms)) ≡ those (has n) (m ∷ r ∷ ms)
    by_test false e h = refl
    by_test true e h = ap (λ ys. cond (has n r) (r ∷ ys) ys) h ∙ swap (ltb-true m.number r.number e) (has n m) (has n r) refl refl

those_ranked : (n : ℕ) (ms : List Mark) → those (has n) (ranked ms) ≡ those (has n) ms
those_ranked n [] = refl
those_ranked n (m ∷ ms) = those_inserted n m (ranked ms) ∙ ap (λ ys. cond (has n m) (m ∷ ys) ys) (those_ranked n ms)

-- by number they fall
falls_inserted : (m : Mark) (ms : List Mark) → Falls ms → Falls (inserted (λ a b. nat_lt b.number a.number) m ms)
falls_inserted m [] f = (tt, tt)
falls_inserted m (r ∷ ms) f = by_test (nat_lt m.number r.number) refl (falls_inserted m ms f.1)
  where
    by_test : (b : Bool) → nat_lt m.number r.number ≡ b → Falls (inserted (λ a b. nat_lt b.number a.number) m ms) → Falls (cond b (r ∷ inserted (λ a b. nat_lt b.number a.number) m ms) (m ∷ r ∷ ms))
    by_test true e h =
        let lt = ltb-true m.number r.number e in
        (each_inserted (λ (other : Mark). other.number ≤ r.number) (λ (a b : Mark). nat_lt b.number a.number) m ms (omega (arith, lt)) f.0, h)
    by_test false e h =
        let le = ltb-false m.number r.number e in
        ((omega (arith, le), each_map (λ (other : Mark). other.number ≤ r.number) (λ (other : Mark). other.number ≤ m.number) (λ other o. omega (arith, le, o)) ms f.0), f)

falls_ranked : (ms : List Mark) → Falls (ranked ms)
falls_ranked [] = tt
falls_ranked (m ∷ ms) = falls_inserted m (ranked ms) (falls_ranked ms)

each_push : (P : Mark → Type 0) (xs : List Mark) (m : Mark) → Each P xs → P m → Each P (xs ++ m ∷ [])
each_push P [] m h p = (p, tt)
each_push P (x ∷ xs) m h p = (h.0, each_push P xs m h.1 p)

each_reverse : (P : Mark → Type 0) (xs : List Mark) → Each P xs → Each P (reverse xs)
each_reverse P [] h = tt
each_reverse P (x ∷ xs) h = subst (Each P) (sym (reverse_more x xs)) (each_push P (reverse xs) x (each_reverse P xs h.1) h.0)

rises_push : (xs : List Mark) (m : Mark) → Rises xs → Each (λ other. other.number ≤ m.number) xs → Rises (xs ++ m ∷ [])
rises_push [] m r h = (tt, tt)
rises_push (x ∷ xs) m r h = (each_push (λ other. x.number ≤ other.number) xs m r.0 h.0, rises_push xs m r.1 h.1)

rises_reverse : (xs : List Mark) → Falls xs → Rises (reverse xs)
rises_reverse [] f = tt
rises_reverse (x ∷ xs) f = subst Rises (sym (reverse_more x xs)) (rises_push (reverse xs) x (rises_reverse xs f.1) (each_reverse (λ other. other.number ≤ x.number) xs f.0))

-- of marks with greater numbers none has this one
none_has : (n : ℕ) (xs : List Mark) → Each (λ other. n < other.number) xs → those (has n) xs ≡ []
none_has n [] h = refl
none_has n (x ∷ xs) h = by_test (has n x) refl (none_has n xs h.1)
  where
    by_test : (b : Bool) → has n x ≡ b → those (has n) xs ≡ [] → cond b (x ∷ those (has n) xs) (those (has n) xs) ≡ []
    by_test true e k = (let same = eqb-true x.number n e in let lt = h.0 in absurd (omega (arith, same, lt)))
    by_test false e k = k

own : (m : Mark) (ms : List Mark) → those (has m.number) (m ∷ ms) ≡ m ∷ those (has m.number) ms
own m ms = ap (λ b. cond b (m ∷ those (has m.number) ms) (those (has m.number) ms)) (eq-eqb m.number m.number refl)

abbrev first_of : Mark → List Mark → Mark
first_of m [] = m
first_of m (x ∷ xs) = x

abbrev rest_of : List Mark → List Mark
rest_of [] = []
rest_of (x ∷ xs) = xs

-- a lesser first number stands in the other list too, which it can't
not_less : (y z : Mark) (ys zs : List Mark) → Rises (z ∷ zs) → those (has y.number) (y ∷ ys) ≡ those (has y.number) (z ∷ zs) → y.number < z.number → ⊥
not_less y z ys zs r e lt =
    let none = none_has y.number (z ∷ zs) (lt, each_map (λ (other : Mark). z.number ≤ other.number) (λ (other : Mark). y.number < other.number) (λ other le. omega (arith, le, lt)) zs r.0) in
    let clash = sym (own y ys) ∙ (e ∙ none) in
    cc

-- lists that rise and have the same marks of each number are the same
only : (ys zs : List Mark) → Rises ys → Rises zs → ((n : ℕ) → those (has n) ys ≡ those (has n) zs) → ys ≡ zs
only [] [] r s same = refl
only [] (z ∷ zs) r s same = (let clash = same z.number ∙ own z zs in cc)
only (y ∷ ys) [] r s same = (let clash = sym (own y ys) ∙ same y.number in cc)
only (y ∷ ys) (z ∷ zs) r s same = by_order (nat_lt y.number z.number) (nat_lt z.number y.number) refl refl (only ys zs r.1 s.1)
  where
    by_number : y.number ≡ z.number → (((n : ℕ) → those (has n) ys ≡ those (has n) zs) → ys ≡ zs) → y ∷ ys ≡ z ∷ zs
    by_number e k =
        let here : y ∷ those (has y.number) ys ≡ z ∷ those (has y.number) zs =
        sym (own y ys) ∙ (same y.number ∙ (ap (λ n. those (has n) (z ∷ zs)) e ∙ (own z zs ∙ ap (λ n. z ∷ those (has n) zs) (sym e)))) in
        let first : y ≡ z = ap (first_of y) here in
        let behind : (n : ℕ) (b : Bool) → has n y ≡ b → those (has n) ys ≡ those (has n) zs = λ n. by_test n first here in
        let rest = k (λ n. behind n (has n y) refl) in
        (λ i. first i ∷ rest i)
      where
        by_test : (n : ℕ) → y ≡ z → y ∷ those (has y.number) ys ≡ z ∷ those (has y.number) zs → (b : Bool) → has n y ≡ b → those (has n) ys ≡ those (has n) zs
        by_test n first here true q = (let at = eqb-true y.number n q in subst (λ k. those (has k) ys ≡ those (has k) zs) at (ap rest_of here))
        by_test n first here false q =
            sym (ap (λ b. cond b (y ∷ those (has n) ys) (those (has n) ys)) q)
            ∙ (same n ∙ ap (λ b. cond b (z ∷ those (has n) zs) (those (has n) zs)) (ap (has n) (sym first) ∙ q))

    by_order : (a b : Bool) → nat_lt y.number z.number ≡ a → nat_lt z.number y.number ≡ b → (((n : ℕ) → those (has n) ys ≡ those (has n) zs) → ys ≡ zs) → y ∷ ys ≡ z ∷ zs
    by_order true b p q k = absurd (not_less y z ys zs s (same y.number) (ltb-true y.number z.number p))
    by_order false true p q k = absurd (not_less z y zs ys r (sym (same z.number)) (ltb-true z.number y.number q))
    by_order false false p q k = (let le = ltb-false y.number z.number p in let ge = ltb-false z.number y.number q in by_number (omega (arith, le, ge)) k)

-- a sorted list rises
rises_sorted : (xs : List Mark) → IsNonDecreasingBy (λ m. m.number) xs → Rises xs
rises_sorted [] order = tt
rises_sorted (x ∷ xs) order = (behind xs (λ k d lt. order 0 (suc k) d (omega arith) (omega (arith, lt))), rises_sorted xs (IsNonDecreasingBy-drop (λ m. m.number) 1 (x ∷ xs) order))
  where
    behind : (ys : List Mark) → ((k : ℕ) (d : Mark) → k < length ys → x.number ≤ (get_or ys k d).number) → Each (λ other. x.number ≤ other.number) ys
    behind [] h = tt
    behind (y ∷ ys) h = (h 0 y (omega arith), behind ys (λ k d lt. h (suc k) d (omega (arith, lt))))

-- marks that tie have one number
ties_number : (x y : Mark) → ties (λ (a b : Mark). is_lt (nat_cmp a.number b.number)) x y ≡ has x.number y
ties_number x y = grind (arith, nat_tests)

those_ties : (x : Mark) (ys : List Mark) → filter (ties (λ (a b : Mark). is_lt (nat_cmp a.number b.number)) x) ys ≡ those (has x.number) ys
those_ties x [] = refl
those_ties x (y ∷ ys) =
    ap (λ b. cond b (y ∷ filter (ties (λ (a b : Mark). is_lt (nat_cmp a.number b.number)) x) ys) (filter (ties (λ (a b : Mark). is_lt (nat_cmp a.number b.number)) x) ys)) (ties_number x y)
    ∙ ap (λ zs. cond (has x.number y) (y ∷ zs) zs) (those_ties x ys)

-- a stable sort by number
pub sorted_marks : (xs ys : List Mark) → IsNonDecreasingBy (λ m. m.number) ys → IsStableByKey (λ (m : Mark). m.number) nat_cmp xs ys → ys ≡ rising_marks xs
sorted_marks xs ys order stable = only ys (rising_marks xs) (rises_sorted ys order) (rises_reverse (ranked (reverse xs)) (falls_ranked (reverse xs))) same
  where
    with_number : ℕ → Mark
    with_number n = record { tid = record { tx = record { 0 = 0 }; attempt = 0 }; number = n }

    same : (n : ℕ) → those (has n) ys ≡ those (has n) (rising_marks xs)
    same n =
        sym (those_ties (with_number n) ys) ∙ (stable (with_number n) ∙ (those_ties (with_number n) xs
        ∙ sym (those_reverse (has n) (ranked (reverse xs)) ∙ (ap reverse (those_ranked n (reverse xs) ∙ those_reverse (has n) xs) ∙ reverse-reverse (those (has n) xs)))))
