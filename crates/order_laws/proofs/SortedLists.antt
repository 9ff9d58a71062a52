-- Attempts put into a list one by one are those that a sort and a merge give.
use Rattle.std.proofs.Common.{◌≡◌, ◌==◌, ℕ, suc, ◌+◌, ◌<◌, Bool, true, false, cond, List, [], ◌∷◌, ◌++◌, length, get_or, reverse, refl, sym, subst, ap, ap₂, ◌∙◌, ◌⊎◌, inl, inr, arith}
use Rattle.std.specs.List.{sum_by}
use Rattle.std.specs.List.Sorted.{IsPermutation, IsSorted}
use Rattle.std.specs.Ordering.{is_lt}
use Rattle.std.proofs.lemmas.Bool.{eqb-true}
use Rattle.std.proofs.lemmas.Bool.Decides.{nat_tests}
use Rattle.std.proofs.lemmas.List.{append_assoc, append-nil}
use Rattle.std.proofs.lemmas.List.Sorted.{IsPermutation-reverse, sum_by-IsPermutation}
use Rattle.std.proofs.lemmas.List.Sums.{sum_by-cons}
use Rattle.mdb_base.specs.declared.names.Tid.{Tid}
use Rattle.mdb_base.specs.Names.{same_tid, tid_before, tid_cmp}
use Rattle.mdb_base.specs.Words.{Each, inserted}
use Rattle.mdb_base.proofs.ForCallers.{before_itself, each_inserted, each_map, not_before_onward, same_tid-refl}
use Rattle.order_laws.proofs.Names.{ranks_tids}
use Rattle.order_laws.specs.SortedLists.{also, merged}

pushed : {A B : Type 0} (f : A → B) (b : Bool) (x y : A) → f (cond b x y) ≡ cond b (f x) (f y)
pushed f true x y = refl
pushed f false x y = refl

merged-none : (first : List Tid) → merged first [] ≡ first
merged-none [] = refl
merged-none (x ∷ xs) = refl

stays_behind : (b y x : Tid) → tid_before b y ≡ false → tid_before y x ≡ false → tid_before b x ≡ true → ⊥
stays_behind b y x e g f = grind arith

-- an attempt may be put into the second list
merged-inserted : (first : List Tid) (x : Tid) (ys : List Tid) → inserted tid_before x (merged first ys) ≡ merged first (inserted tid_before x ys)
merged-inserted [] x ys = refl
merged-inserted (b ∷ bs) x [] = ap (λ rest. cond (tid_before b x) (b ∷ rest) (x ∷ b ∷ bs)) (ap (inserted tid_before x) (sym (merged-none bs)) ∙ merged-inserted bs x [])
merged-inserted (b ∷ bs) x (y ∷ ys) =
    pushed (inserted tid_before x) (tid_before b y) (b ∷ merged bs (y ∷ ys)) (y ∷ merged (b ∷ bs) ys)
    ∙ by_tests (tid_before b y) refl (tid_before b x) refl (tid_before y x) refl (merged-inserted bs x (y ∷ ys)) (merged-inserted (b ∷ bs) x ys)
    ∙ sym (pushed (merged (b ∷ bs)) (tid_before y x) (y ∷ inserted tid_before x ys) (x ∷ y ∷ ys))
  where
    in_first : List Tid
    in_first = merged bs (y ∷ ys)

    in_second : List Tid
    in_second = merged (b ∷ bs) ys

    by_tests : (p : Bool) → tid_before b y ≡ p → (q : Bool) → tid_before b x ≡ q → (r : Bool) → tid_before y x ≡ r →
        inserted tid_before x in_first ≡ merged bs (cond r (y ∷ inserted tid_before x ys) (x ∷ y ∷ ys)) →
        inserted tid_before x in_second ≡ merged (b ∷ bs) (inserted tid_before x ys) →
        cond p (cond q (b ∷ inserted tid_before x in_first) (x ∷ b ∷ in_first)) (cond r (y ∷ inserted tid_before x in_second) (x ∷ y ∷ in_second))
        ≡ cond r (cond p (b ∷ merged bs (y ∷ inserted tid_before x ys)) (y ∷ merged (b ∷ bs) (inserted tid_before x ys)))
        (cond q (b ∷ merged bs (x ∷ y ∷ ys)) (x ∷ cond p (b ∷ in_first) (y ∷ in_second)))
    by_tests true e true f true g h k = ap (λ zs. b ∷ zs) h
    by_tests true e false f true g h k = (let on = ranks_tids.onward b y x e g in cc)
    by_tests false e q f true g h k = ap (λ zs. y ∷ zs) k
    by_tests true e true f false g h k = ap (λ zs. b ∷ zs) h
    by_tests true e false f false g h k = refl
    by_tests false e true f false g h k = absurd (stays_behind b y x e g f)
    by_tests false e false f false g h k = refl

-- put one by one into a list, they may be put into an empty one first
also-merged : (first tids : List Tid) → also first tids ≡ merged first (also [] tids)
also-merged first [] = sym (merged-none first)
also-merged first (tid ∷ tids) = ap (inserted tid_before tid) (also-merged first tids) ∙ merged-inserted first tid (also [] tids)

-- none stands before one that it is behind
abbrev Rises : List Tid → Type 0
Rises [] = Unit {0}
Rises (x ∷ xs) = Each (λ y. tid_before y x ≡ false) xs × Rises xs

rises-inserted : (x : Tid) (ys : List Tid) → Rises ys → Rises (inserted tid_before x ys)
rises-inserted x [] up = (tt, tt)
rises-inserted x (y ∷ ys) up = by_test (tid_before y x) refl (rises-inserted x ys up.1)
  where
    by_test : (b : Bool) → tid_before y x ≡ b → Rises (inserted tid_before x ys) → Rises (cond b (y ∷ inserted tid_before x ys) (x ∷ y ∷ ys))
    by_test true is rest = (each_inserted (λ z. tid_before z y ≡ false) tid_before x ys (ranks_tids.one_way y x is) up.0, rest)
    by_test false is rest =
        ((is, each_map (λ z. tid_before z y ≡ false) (λ z. tid_before z x ≡ false) (λ z f. not_before_onward x y z is f) ys up.0), up)

rises-also : (tids : List Tid) → Rises (also [] tids)
rises-also [] = tt
rises-also (tid ∷ tids) = rises-inserted tid (also [] tids) (rises-also tids)

is_lt-tid_cmp : (a b : Tid) → is_lt (tid_cmp a b) ≡ tid_before a b
is_lt-tid_cmp a b = grind (arith, nat_tests)

-- what a sort leaves
rises-sorted : (tids : List Tid) → IsSorted tid_cmp tids → Rises tids
rises-sorted [] sorted = tt
rises-sorted (x ∷ []) sorted = (tt, tt)
rises-sorted (x ∷ y ∷ ys) sorted = with_first (rises-sorted (y ∷ ys) (λ k d low few. behind_first k d (sorted (suc k) d (omega arith) (omega arith))))
  where
    behind_first : (k : ℕ) (d : Tid) → is_lt (tid_cmp (get_or (x ∷ y ∷ ys) (suc k + 1) d) (get_or (y ∷ ys) k d)) ≡ false →
        is_lt (tid_cmp (get_or (y ∷ ys) (k + 1) d) (get_or (y ∷ ys) k d)) ≡ false
    behind_first k d is =
        let one_more : suc k + 1 ≡ suc (k + 1) = omega arith in
        subst (λ n. is_lt (tid_cmp (get_or (x ∷ y ∷ ys) n d) (get_or (y ∷ ys) k d)) ≡ false) one_more is

    first : tid_before y x ≡ false
    first = sym (is_lt-tid_cmp y x) ∙ sorted 0 x (omega arith) (omega arith)

    with_first : Rises (y ∷ ys) → Rises (x ∷ y ∷ ys)
    with_first rest = ((first, each_map (λ z. tid_before z y ≡ false) (λ z. tid_before z x ≡ false) (λ z f. not_before_onward x y z first f) ys rest.0), rest)

abbrev tally : Bool → ℕ
tally true = 1
tally false = 0

-- how often the attempt stands in the list
abbrev count : Tid → List Tid → ℕ
count tid tids = sum_by (λ other. tally (same_tid tid other)) tids

count-cons : (tid x : Tid) (xs : List Tid) → count tid (x ∷ xs) ≡ tally (same_tid tid x) + count tid xs
count-cons tid x xs = sum_by-cons (λ other. tally (same_tid tid other)) x xs

count-inserted : (tid x : Tid) (ys : List Tid) → count tid (inserted tid_before x ys) ≡ count tid (x ∷ ys)
count-inserted tid x [] = refl
count-inserted tid x (y ∷ ys) = by_test (tid_before y x) (count-inserted tid x ys)
  where
    by_test : (b : Bool) → count tid (inserted tid_before x ys) ≡ count tid (x ∷ ys) → count tid (cond b (y ∷ inserted tid_before x ys) (x ∷ y ∷ ys)) ≡ count tid (x ∷ y ∷ ys)
    by_test true rest =
        let a = count-cons tid y (inserted tid_before x ys) in
        let b = count-cons tid x ys in
        let c = count-cons tid x (y ∷ ys) in
        let d = count-cons tid y ys in
        omega (arith, a, b, c, d, rest)
    by_test false rest = refl

count-also : (tid : Tid) (tids : List Tid) → count tid (also [] tids) ≡ count tid tids
count-also tid [] = refl
count-also tid (x ∷ xs) =
    count-inserted tid x (also [] xs) ∙ count-cons tid x (also [] xs) ∙ ap (λ n. tally (same_tid tid x) + n) (count-also tid xs) ∙ sym (count-cons tid x xs)

none_counted : (tid : Tid) (tids : List Tid) → Each (λ other. same_tid tid other ≡ false) tids → count tid tids ≡ 0
none_counted tid [] h = refl
none_counted tid (x ∷ xs) h =
    let here = count-cons tid x xs in let none = ap tally h.0 in let rest = none_counted tid xs h.1 in omega (arith, here, none, rest)

one_counted : (tid : Tid) (tids : List Tid) → 0 < count tid (tid ∷ tids)
one_counted tid tids =
    let all = count-cons tid tid tids in let here = ap tally (same_tid-refl tid) in omega (arith, all, here)

before_differs : (x y z : Tid) → tid_before x y ≡ true → tid_before z y ≡ false → same_tid x z ≡ false
before_differs x y z e f = grind arith

-- one that is before the first one of a rising list doesn't stand there
not_counted : (x y : Tid) (ys : List Tid) → tid_before x y ≡ true → Rises (y ∷ ys) → count x (y ∷ ys) ≡ 0
not_counted x y ys less up =
    none_counted x (y ∷ ys)
    (before_differs x y y less (before_itself y), each_map (λ z. tid_before z y ≡ false) (λ z. same_tid x z ≡ false) (λ z f. before_differs x y z less f) ys up.0)

-- two rising lists in which each attempt stands as often are one
same_lists : (xs ys : List Tid) → Rises xs → Rises ys → ((tid : Tid) → count tid xs ≡ count tid ys) → xs ≡ ys
same_lists [] [] up above same = refl
same_lists [] (y ∷ ys) up above same = let some = one_counted y ys in let none = same y in absurd (omega (arith, some, none))
same_lists (x ∷ xs) [] up above same = let some = one_counted x xs in let none = same x in absurd (omega (arith, some, none))
same_lists (x ∷ xs) (y ∷ ys) up above same = by_tests (tid_before x y) refl (tid_before y x) refl (same_lists xs ys up.1 above.1)
  where
    by_tests : (p : Bool) → tid_before x y ≡ p → (q : Bool) → tid_before y x ≡ q → (((tid : Tid) → count tid xs ≡ count tid ys) → xs ≡ ys) → x ∷ xs ≡ y ∷ ys
    by_tests true e q f rest =
        let some = one_counted x xs in let here = same x in let none = not_counted x y ys e above in absurd (omega (arith, some, here, none))
    by_tests false e true f rest =
        let some = one_counted y ys in let here = same y in let none = not_counted y x xs f up in absurd (omega (arith, some, here, none))
    by_tests false e false f rest =
        let one : x ≡ y = ranks_tids.total x y e f in
        ap₂ (λ z zs. z ∷ zs) one (rest (λ tid.
        let a = count-cons tid x xs in
        let b = count-cons tid y ys in
        let c = same tid in
        let d = ap (λ z. tally (same_tid tid z)) one in
        omega (arith, a, b, c, d)))

-- so sorted and then merged they are as put one by one
pub all_put : (first newer sorted : List Tid) → IsPermutation newer sorted → IsSorted tid_cmp sorted → merged first sorted ≡ also first (reverse newer)
all_put first newer sorted moves order =
    ap (merged first) (same_lists sorted (also [] (reverse newer)) (rises-sorted sorted order) (rises-also (reverse newer))
    (λ tid.
    let f = λ (other : Tid). tally (same_tid tid other) in
    sum_by-IsPermutation f newer sorted moves ∙ sym (count-also tid (reverse newer) ∙ sum_by-IsPermutation f newer (reverse newer) (IsPermutation-reverse newer))))
    ∙ sym (also-merged first (reverse newer))

-- where one of the lists is at its end, the rest is what is left of the other one
pub rest_merged : (all left right : List Tid) → (length left < 1) ⊎ (length right < 1) → (all ++ left) ++ right ≡ all ++ merged left right
rest_merged all [] right end = append_assoc all [] right
rest_merged all (x ∷ xs) right (inl end) = absurd (omega (arith, end))
rest_merged all (x ∷ xs) [] (inr end) = append-nil (all ++ x ∷ xs)
rest_merged all (x ∷ xs) (y ∷ ys) (inr end) = absurd (omega (arith, end))

pub zero_below_one : (n : ℕ) → true ≡ (n == 0) → n < 1
zero_below_one n e = let none = eqb-true n 0 (sym e) in omega (arith, none)
