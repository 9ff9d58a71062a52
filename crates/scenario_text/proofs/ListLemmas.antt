-- Words on lists, at a list with one more item at its end, and as std says them.
use Rattle.std.proofs.Common.{◌≡◌, ℕ, suc, Bool, true, false, cond, not, ◌||◌, ◌&&◌, IsTrue, List, [], ◌∷◌, ◌++◌, refl, ap, ◌∙◌}
use Rattle.std.proofs.lemmas.Bool.{or_parts}
use Rattle.mdb_base.specs.Words.{some_of, each_of, how_many}
use Rattle.mdb_base.proofs.ForCallers.{and_true, is_true_both, some_of-push}
use Rattle.fed_rules.specs.Plans.{all_differ}

-- ---- one more item at the end

and_assoc : (a b c : Bool) → (a && (b && c)) ≡ ((a && b) && c)
and_assoc true b c = refl
and_assoc false b c = refl

pub each_of-push : {A : Type 0} (test : A → Bool) (xs : List A) (y : A) → each_of test (xs ++ y ∷ []) ≡ (each_of test xs && test y)
each_of-push test [] y = and_true (test y)
each_of-push test (x ∷ xs) y = ap (λ b. test x && b) (each_of-push test xs y) ∙ and_assoc (test x) (each_of test xs) (test y)

count_step : (a : Bool) (t : Bool) (n : ℕ) → cond a (suc (cond t (suc n) n)) (cond t (suc n) n) ≡ cond t (suc (cond a (suc n) n)) (cond a (suc n) n)
count_step true true n = refl
count_step true false n = refl
count_step false true n = refl
count_step false false n = refl

pub how_many-push : {A : Type 0} (test : A → Bool) (xs : List A) (y : A) → how_many test (xs ++ y ∷ []) ≡ cond (test y) (suc (how_many test xs)) (how_many test xs)
how_many-push test [] y = refl
how_many-push test (x ∷ xs) y = ap (λ n. cond (test x) (suc n) n) (how_many-push test xs y) ∙ count_step (test x) (test y) (how_many test xs)

-- ---- tests that follow from one another

pub some_of-same : {A : Type 0} (p q : A → Bool) → ((x : A) → p x ≡ q x) → (xs : List A) → some_of p xs ≡ some_of q xs
some_of-same p q same [] = refl
some_of-same p q same (x ∷ xs) = ap (λ b. b || some_of p xs) (same x) ∙ ap (λ b. q x || b) (some_of-same p q same xs)

pub first : (a b : Bool) → IsTrue (a && b) → IsTrue a
first true b p = refl
first false b p = absurd cc

pub second : (a b : Bool) → IsTrue (a && b) → IsTrue b
second true b p = p
second false b p = absurd cc

pub each_of-weaker : {A : Type 0} (p q : A → Bool) → ((x : A) → IsTrue (p x) → IsTrue (q x)) → (xs : List A) → IsTrue (each_of p xs) → IsTrue (each_of q xs)
each_of-weaker p q weaker [] h = refl
each_of-weaker p q weaker (x ∷ xs) h = is_true_both _ _ (weaker x (first _ _ h)) (each_of-weaker p q weaker xs (second (p x) (each_of p xs) h))

pub each_of-more : {A : Type 0} (p : A → Bool) (xs : List A) (y : A) → IsTrue (each_of p xs) → IsTrue (p y) → IsTrue (each_of p (xs ++ y ∷ []))
each_of-more p xs y h k = each_of-push p xs y ∙ is_true_both _ _ h k

-- ---- lists whose items differ

nor : (a b : Bool) → IsTrue (not a) → b ≡ false → IsTrue (not (a || b))
nor true b h k = absurd cc
nor false b h k = ap not k

pub all_differ-more : {A : Type 0} (alike : A → A → Bool) (xs : List A) (y : A) → IsTrue (all_differ alike xs) → some_of (λ x. alike x y) xs ≡ false
    → IsTrue (all_differ alike (xs ++ y ∷ []))
all_differ-more alike [] y h new = refl
all_differ-more alike (x ∷ xs) y h new =
    let apart = or_parts (alike x y) (some_of (λ x. alike x y) xs) new in
    is_true_both _ _
    (ap not (some_of-push (alike x) xs y) ∙ nor (some_of (alike x) xs) (alike x y) (first _ _ h) apart.0)
    (all_differ-more alike xs y (second (not (some_of (alike x) xs)) (all_differ alike xs) h) apart.1)
