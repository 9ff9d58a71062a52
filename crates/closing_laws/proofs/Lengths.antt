-- How long lists are: those that are sorted, found and picked out, those of different numbers, and the commands that each item of a list adds.
use Rattle.std.proofs.Common.{◌≡◌, ℕ, zero, suc, ◌+◌, ◌*◌, ◌≤◌, ◌<◌, ◌⊎◌, Bool, true, false, cond, not, ◌||◌, Option, Some, None, List, [], ◌∷◌, map, length, inl, inr, refl, sym, ap, subst, ◌∙◌, arith}
use Rattle.std.proofs.lemmas.Bool.{and_parts}
use Rattle.std.proofs.Math.Nat.{mul-suc}
use Rattle.mdb_base.specs.declared.names.Tid.{Tid}
use Rattle.mdb_base.specs.Names.{tid_before}
use Rattle.mdb_base.specs.Words.{found, inserted, some_of, those, with_some}
use Rattle.order_laws.specs.Chains.{Distinct, In}
use Rattle.fed_rules.specs.declared.commands.Command.{Command}
use Rattle.fed_rules.specs.Closing.{for_each, rising}
use Rattle.fed_rules.specs.Plans.{all_differ}
use Rattle.fed_rules.specs.SiteRecords.{Held, by_tid, held_before}

-- those of which the test holds, and the others
pub length_parts : {A : Type 0} (test : A → Bool) (xs : List A) → length (those (λ x. not (test x)) xs) + length (those test xs) ≤ length xs
length_parts test [] = omega arith
length_parts {A = A} test (x ∷ xs) = by_test (test x) (length_parts test xs) where
  by_test : (b : Bool) → length (those (λ y. not (test y)) xs) + length (those test xs) ≤ length xs
      → length (cond (not b) (x ∷ those (λ y. not (test y)) xs) (those (λ y. not (test y)) xs)) + length (cond b (x ∷ those test xs) (those test xs)) ≤ suc (length xs)
  by_test true h = omega (arith, h)
  by_test false h = omega (arith, h)

pub length_found : {A B : Type 0} (look : A → Option B) (xs : List A) → length (found look xs) ≤ length xs
length_found look [] = omega arith
length_found {A = A} {B = B} look (x ∷ xs) = by_look (look x) (length_found look xs) where
  by_look : (o : Option B) → length (found look xs) ≤ length xs → length (with_some o (found look xs)) ≤ suc (length xs)
  by_look None h = omega (arith, h)
  by_look (Some y) h = omega (arith, h)

pub length_inserted : {A : Type 0} (before : A → A → Bool) (x : A) (ys : List A) → length (inserted before x ys) ≡ suc (length ys)
length_inserted before x [] = refl
length_inserted {A = A} before x (y ∷ ys) = by_test (before y x) (length_inserted before x ys) where
  by_test : (b : Bool) → length (inserted before x ys) ≡ suc (length ys) → length (cond b (y ∷ inserted before x ys) (x ∷ y ∷ ys)) ≡ suc (suc (length ys))
  by_test true h = ap suc h
  by_test false h = refl

pub length_sorted : (helds : List Held) → length (by_tid helds) ≡ length helds
length_sorted [] = refl
length_sorted (held ∷ helds) = length_inserted held_before held (by_tid helds) ∙ ap suc (length_sorted helds)

pub length_rising : (tids : List Tid) → length (rising tids) ≡ length tids
length_rising [] = refl
length_rising (tid ∷ tids) = length_inserted tid_before tid (rising tids) ∙ ap suc (length_rising tids)

-- an item taken out of a list
record IsTakenOut {A : Type 0} (x : A) (ys : List A) : Type 0 where
  others : List A
  shorter : length ys ≡ suc (length others)
  there : (z : A) → In z ys → (x ≡ z) ⊎ In z others

take_out : {A : Type 0} (x : A) (ys : List A) → In x ys → IsTakenOut x ys
take_out x [] i = absurd i
take_out x (y ∷ ys) (inl e) = record { others = ys; shorter = refl; there = λ z i. elim i [ inl f ↦ inl (sym e ∙ f) | inr j ↦ inr j ] }
take_out x (y ∷ ys) (inr i) =
    let rest = take_out x ys i in
    record {
      others = y ∷ rest.others;
      shorter = ap suc rest.shorter;
      there = λ z j. elim j [ inl f ↦ inr (inl f) | inr k ↦ elim (rest.there z k) [ inl f ↦ inl f | inr m ↦ inr (inr m) ] ];
    }

-- different items for which something is found, all in another list, are no more than it has
pub found_in_others : {A B : Type 0} (look : A → Option B) (xs ys : List A) → Distinct xs → ((x : A) (y : B) → In x xs → look x ≡ Some y → In x ys)
    → length (found look xs) ≤ length ys
found_in_others look [] ys apart there = omega arith
found_in_others {A = A} {B = B} look (x ∷ xs) ys apart there =
    by_look (look x) refl (found_in_others look xs ys apart.1 (λ z y i e. there z y (inr i) e)) (λ zs k. found_in_others look xs zs apart.1 k)
  where
    by_look : (o : Option B) → look x ≡ o → length (found look xs) ≤ length ys
        → ((zs : List A) → ((z : A) (y : B) → In z xs → look z ≡ Some y → In z zs) → length (found look xs) ≤ length zs)
        → length (with_some o (found look xs)) ≤ length ys
    by_look None e rest behind = rest
    by_look (Some y) e rest behind =
        let out = take_out x ys (there x y (inl refl) e) in
        let short = out.shorter in
        let h = behind out.others (λ z w i f. elim (out.there z (there z w (inr i) f)) [
          | inl same ↦ absurd (apart.0 (subst (λ t. In t xs) (sym same) i))
          | inr k ↦ k
        ]) in
        omega (arith, short, h)

pub distinct_in_others : {A : Type 0} (xs ys : List A) → Distinct xs → ((x : A) → In x xs → In x ys) → length xs ≤ length ys
distinct_in_others {A = A} xs ys apart there = subst (λ n. n ≤ length ys) (all xs) (found_in_others (λ (x : A). Some x) xs ys apart (λ x y i e. there x i)) where
  all : (zs : List A) → length (found (λ (x : A). Some x) zs) ≡ length zs
  all [] = refl
  all (z ∷ zs) = ap suc (all zs)

-- the numbers from this one down to 1
up_to : ℕ → List ℕ
up_to zero = []
up_to (suc n) = suc n ∷ up_to n

up_to_length : (n : ℕ) → length (up_to n) ≡ n
unfolding up_to
up_to_length zero = refl
up_to_length (suc n) = ap suc (up_to_length n)

pub least_or_less : (k n : ℕ) → k ≤ suc n → (suc n ≡ k) ⊎ (k ≤ n)
least_or_less zero n h = inr (omega arith)
least_or_less (suc k) zero h = inl (let e : 1 ≡ suc k = omega (arith, h) in e)
least_or_less (suc k) (suc n) h = elim (least_or_less k n (omega (arith, h))) [ inl e ↦ inl (ap suc e) | inr l ↦ inr (omega (arith, l)) ]

in_up_to : (n k : ℕ) → 0 < k → k ≤ n → In k (up_to n)
unfolding up_to
in_up_to zero k some most = absurd (omega (arith, some, most))
in_up_to (suc n) k some most = elim (least_or_less k n most) [ inl e ↦ inl e | inr l ↦ inr (in_up_to n k some l) ]

-- different numbers from 1 to n are at most n
pub few_numbers : (xs : List ℕ) (n : ℕ) → Distinct xs → ((k : ℕ) → In k xs → (0 < k) × (k ≤ n)) → length xs ≤ n
few_numbers xs n apart range =
    subst (λ m. length xs ≤ m) (up_to_length n) (distinct_in_others xs (up_to n) apart (λ k i. in_up_to n k (range k i).0 (range k i).1))

-- items that differ have different numbers
pub numbers_differ : {A : Type 0} (alike : A → A → Bool) (number : A → ℕ) → ((a b : A) → number a ≡ number b → alike a b ≡ true) → (xs : List A)
    → all_differ alike xs ≡ true → Distinct (map number xs)
numbers_differ alike number same [] e = tt
numbers_differ {A = A} alike number same (x ∷ xs) e =
    let parts = and_parts (not (some_of (alike x) xs)) (all_differ alike xs) e in
    ((λ i. absurd (again xs i parts.0)), numbers_differ alike number same xs parts.1)
  where
    again : (ys : List A) → In (number x) (map number ys) → not (some_of (alike x) ys) ≡ true → ⊥
    again [] i f = i
    again (y ∷ ys) (inl p) f = let here = same x y (sym p) in let no : not (true || some_of (alike x) ys) ≡ true = subst (λ b. not (b || some_of (alike x) ys) ≡ true) here f in cc
    again (y ∷ ys) (inr i) f = by_test (alike x y) f (again ys i) where
      by_test : (b : Bool) → not (b || some_of (alike x) ys) ≡ true → (not (some_of (alike x) ys) ≡ true → ⊥) → ⊥
      by_test true g k = cc
      by_test false g k = k g

-- where each item of a list adds so many commands at most, the list adds as many for each
pub adds_each : {A : Type 0} (add : A → List Command → List Command) (most : ℕ) (xs : List A)
    → ((x : A) (commands : List Command) → In x xs → length (add x commands) ≤ most + length commands) → (commands : List Command)
    → length (for_each add xs commands) ≤ most * length xs + length commands
adds_each add most [] each commands = omega arith
adds_each add most (x ∷ xs) each commands =
    let here = each x commands (inl refl) in
    let rest = adds_each add most xs (λ y cs i. each y cs (inr i)) (add x commands) in
    let one = mul-suc most (length xs) in omega (arith, here, rest, one)
