-- A set of sites with one more.
use Rattle.std.proofs.Common.{ℕ, zero, suc, ◌≡◌, ◌≢◌, ◌-◌, ◌*◌, ◌%◌, ◌<◌, ◌≤◌, ◌==◌, ◌||◌, max, Bool, true, false, refl, sym, ap, ◌∙◌, arith}
use Rattle.std.specs.Prelude.{◌^◌}
use Rattle.std.specs.Int.{bit_at}
use Rattle.std.specs.Int.RustNames.{bit_or}
use Rattle.std.proofs.lemmas.Nat.Bits.{bit_at_or, bit_at-pow_same, bit_at-pow_other, bit_at-lt}
use Rattle.mdb_base.proofs.ForCallers.{or_false, or_true}

small_power : (s : ℕ) → 1 ≤ s → s ≤ 8 → 1 * 2 ^ (s - 1) % 256 ≡ 2 ^ (s - 1)
small_power zero a b = absurd (omega arith)
small_power (suc zero) a b = refl
small_power (suc (suc zero)) a b = refl
small_power (suc (suc (suc zero))) a b = refl
small_power (suc (suc (suc (suc zero)))) a b = refl
small_power (suc (suc (suc (suc (suc zero))))) a b = refl
small_power (suc (suc (suc (suc (suc (suc zero)))))) a b = refl
small_power (suc (suc (suc (suc (suc (suc (suc zero))))))) a b = refl
small_power (suc (suc (suc (suc (suc (suc (suc (suc zero)))))))) a b = refl
small_power (suc (suc (suc (suc (suc (suc (suc (suc (suc s))))))))) a b = absurd (omega arith)

pub with_site : (a s o : ℕ) → 1 ≤ s → s ≤ 8 → 1 ≤ o → o ≤ 8 →
    (bit_at (bit_or a (1 * 2 ^ (s - 1) % 256)) (o - 1) == 1) ≡ ((bit_at a (o - 1) == 1) || (s == o))
with_site a s o p q u v =
    ap (λ n. bit_at (bit_or a n) (o - 1) == 1) (small_power s p q) ∙ (ap (λ n. n == 1) (bit_at_or a (2 ^ (s - 1)) (o - 1)) ∙ by_test (s == o) refl)
  where
    one : (x : ℕ) → x < 2 → (max x 1 == 1) ≡ true
    one zero h = refl
    one (suc zero) h = refl
    one (suc (suc x)) h = absurd (omega arith)

    none : (x : ℕ) → max x 0 ≡ x
    none x = omega arith

    by_test : (b : Bool) → (s == o) ≡ b → (max (bit_at a (o - 1)) (bit_at (2 ^ (s - 1)) (o - 1)) == 1) ≡ ((bit_at a (o - 1) == 1) || b)
    by_test true e =
        let same : s - 1 ≡ o - 1 = grind arith in
        let bit : bit_at (2 ^ (s - 1)) (o - 1) ≡ 1 = ap (bit_at (2 ^ (s - 1))) (sym same) ∙ bit_at-pow_same (s - 1) in
        ap (λ n. max (bit_at a (o - 1)) n == 1) bit ∙ (one (bit_at a (o - 1)) (bit_at-lt a (o - 1)) ∙ sym (or_true (bit_at a (o - 1) == 1)))
    by_test false e =
        let other : o - 1 ≢ s - 1 = λ h. (let same : s ≡ o = omega arith in let on : (s == o) ≡ true = grind arith in cc) in
        let bit : bit_at (2 ^ (s - 1)) (o - 1) ≡ 0 = bit_at-pow_other (s - 1) (o - 1) other in
        ap (λ n. max (bit_at a (o - 1)) n == 1) bit ∙ (ap (λ n. n == 1) (none (bit_at a (o - 1))) ∙ sym (or_false (bit_at a (o - 1) == 1)))
