-- What a made scenario has of each, and so its summary.
use Rattle.std.proofs.Common.{◌≡◌, ℕ, zero, suc, ◌+◌, ◌-◌, ◌/◌, ◌%◌, Bool, true, false, cond, ◌&&◌, is_none, is_some, List, [], ◌∷◌, ◌++◌, length, refl, sym, ap, ap₂, ◌∙◌, arith, eqb-true}
use Rattle.std.proofs.lemmas.Bool.{eqb-false}
use Rattle.std.proofs.lemmas.List.Sums.{sum_by_push}
use Rattle.std.specs.Prelude.{◌==◌, count_by, nat_le}
use Rattle.fed_rules.specs.declared.scenario.TxLine.{TxLine}
use Rattle.scenario_maker.specs.Made.{behind_sites, behind_transactions, is_global, made, made_global, made_local, made_transaction, made_transactions}
use Rattle.scenario_maker.proofs.ForCallers.{made_is_scenario}
use Rattle.made_laws.specs.Counted.{CommitsAreCounted, MadeSummariesAreFixed, made_globals}
use Rattle.made_laws.specs.Moves.{MadeTotalsStay}
use Rattle.made_laws.proofs.MadeRows.{made_many}

many : (count n x : ℕ) → length (made_transactions count n x) ≡ n
many count zero x = refl
many count (suc n) x = pushed (made_transactions count n x) (made_transaction count (suc n) (behind_transactions count n x)) ∙ ap suc (many count n x)
  where
    pushed : (ls : List TxLine) (l : TxLine) → length (ls ++ l ∷ []) ≡ suc (length ls)
    pushed [] l = refl
    pushed (k ∷ ls) l = ap suc (pushed ls l)

abbrev roams : TxLine → Bool
roams line = is_none line.home

abbrev stays : TxLine → Bool
stays line = is_some line.home

abbrev one_if : Bool → ℕ
one_if b = cond b 1 0

record IsKind (count t x : ℕ) : Type 0 where
  roaming : one_if (is_none (made_transaction count t x).home) ≡ one_if (is_global count t)
  either : one_if (is_none (made_transaction count t x).home) + one_if (is_some (made_transaction count t x).home) ≡ 1

kind : (count t x : ℕ) → IsKind count t x
kind count t x = record { roaming = by_kind (is_global count t); either = by_either (is_global count t) }
  where
    by_kind : (b : Bool) → one_if (is_none (cond b (made_global count t x) (made_local count t x)).home) ≡ one_if b
    by_kind true = refl
    by_kind false = refl

    by_either : (b : Bool) → one_if (is_none (cond b (made_global count t x) (made_local count t x)).home) + one_if (is_some (cond b (made_global count t x) (made_local count t x)).home) ≡ 1
    by_either true = refl
    by_either false = refl

-- every second one
half : (n : ℕ) → suc n / 2 ≡ n / 2 + cond (suc n % 2 == 0) 1 0
half n = by_test (suc n % 2 == 0) refl
  where
    by_test : (b : Bool) → (suc n % 2 == 0) ≡ b → suc n / 2 ≡ n / 2 + cond b 1 0
    by_test true e = let even : suc n % 2 ≡ 0 = eqb-true (suc n % 2) 0 e in omega (arith, even)
    by_test false e = let odd = eqb-false (suc n % 2) 0 e in uneven n odd
      where
        uneven : (n : ℕ) → (suc n % 2 ≡ 0 → ⊥) → suc n / 2 ≡ n / 2 + 0
        uneven n odd = grind arith

globals : (count n x : ℕ) → count_by roams (made_transactions count n x) ≡ made_globals count n
globals count zero x = by_two (nat_le 2 count)
  where
    by_two : (b : Bool) → 0 ≡ cond b (0 / 2) 0
    by_two true = refl
    by_two false = refl
globals count (suc n) x =
    let k = (kind count (suc n) (behind_transactions count n x)).roaming in
    sum_by_push (λ l. cond (roams l) 1 0) (made_transactions count n x) (made_transaction count (suc n) (behind_transactions count n x))
    ∙ (ap₂ (λ a b. a + b) (globals count n x) k ∙ by_two (nat_le 2 count))
  where
    by_two : (b : Bool) → cond b (n / 2) 0 + cond (b && (suc n % 2 == 0)) 1 0 ≡ cond b (suc n / 2) 0
    by_two true = sym (half n)
    by_two false = refl

both : (count n x : ℕ) → count_by roams (made_transactions count n x) + count_by stays (made_transactions count n x) ≡ n
both count zero x = refl
both count (suc n) x =
    let a = sum_by_push (λ l. cond (roams l) 1 0) (made_transactions count n x) (made_transaction count (suc n) (behind_transactions count n x)) in
    let b = sum_by_push (λ l. cond (stays l) 1 0) (made_transactions count n x) (made_transaction count (suc n) (behind_transactions count n x)) in
    let k = (kind count (suc n) (behind_transactions count n x)).either in
    joined (count_by roams (made_transactions count (suc n) x)) (count_by stays (made_transactions count (suc n) x)) (count_by roams (made_transactions count n x)) (count_by stays (made_transactions count n x)) _ _ a b k (both count n x)
  where
    joined : (p q r s c d : ℕ) → p ≡ r + c → q ≡ s + d → c + d ≡ 1 → r + s ≡ n → p + q ≡ suc n
    joined p q r s c d a b k e = omega (arith, a, b, k, e)

pub made_fixed : MadeTotalsStay → CommitsAreCounted → MadeSummariesAreFixed
made_fixed totals counted number count transactions some few most commands rest done = record {
  sites = made_many count number;
  globals = globals count transactions (behind_sites count number);
  locals =
      let g = globals count transactions (behind_sites count number) in
      let b = both count transactions (behind_sites count number) in
      left (count_by roams (made_transactions count transactions (behind_sites count number))) (count_by stays (made_transactions count transactions (behind_sites count number))) (made_globals count transactions) transactions g b;
  committed = counted (made number count transactions) (made_is_scenario number count transactions some few most) commands done ∙ many count transactions (behind_sites count number);
  total = totals number count transactions some few most commands rest;
}
  where
    left : (g l m n : ℕ) → g ≡ m → g + l ≡ n → l ≡ n - m
    left g l m n a b = omega (arith, a, b)
