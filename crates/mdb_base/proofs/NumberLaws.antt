-- Laws of numbers and of how they are compared.
use Rattle.std.specs.Ordering.{ordering_then, is_eq, nat_cmp, is_gt}
use Rattle.std.specs.declared.cmp.Ordering.{Ordering}
use Rattle.std.specs.declared.cmp.Ordering.TheVariants.{Less, Equal}
use Rattle.std.specs.Cmp.{ranked}
use Rattle.std.specs.Prelude.{◌==◌, nat_lt}
use Rattle.std.proofs.Common.{◌≡◌, ◌&&◌, refl, Less, Equal, Greater, ℕ, nat_eq, arith, ◌<◌, sym, ◌==◌, false, zero, suc, ◌≤◌, Bool, true, le-ltb}
use Rattle.std.proofs.lemmas.Bool.Decides.{nat_tests}
use Rattle.std.proofs.lemmas.Bool.{cond-true, lt-ltb, eqb-true}

pub is_eq-then : (o p : Ordering) → is_eq (ordering_then o p) ≡ (is_eq o && is_eq p)
is_eq-then Less p = refl
is_eq-then Equal p = refl
is_eq-then Greater p = refl

pub is_eq-nat_cmp : (x y : ℕ) → is_eq (nat_cmp x y) ≡ nat_eq x y
is_eq-nat_cmp x y = grind (arith, nat_tests)

pub nat_cmp-less : (x y : ℕ) → nat_cmp x y ≡ Less → x < y
nat_cmp-less x y h = ranked x y Less (sym h)

pub positive : (n : ℕ) → (n == 0) ≡ false → 0 < n
positive zero e = cc
positive (suc n) e = omega arith

pub less-nat_cmp : (x y : ℕ) → x < y → nat_cmp x y ≡ Less
less-nat_cmp x y h = cond-true _ _ _ (lt-ltb x y h)

pub le-nat_cmp : (x y : ℕ) → x ≤ y → is_gt (nat_cmp x y) ≡ false
le-nat_cmp x y h = grind (arith, nat_tests, h)

pub suc_not_zero : (n : ℕ) → (suc n == 0) ≡ false
suc_not_zero n = grind (arith, nat_tests)

pub nat_cmp-same : (x : ℕ) → nat_cmp x x ≡ Equal
nat_cmp-same x = grind (arith, nat_tests)

pub not_equal : (x y : ℕ) → (x ≡ y → ⊥) → nat_eq x y ≡ false
not_equal x y apart = by_test (nat_eq x y) refl
  where
    by_test : (b : Bool) → nat_eq x y ≡ b → b ≡ false
    by_test true e = absurd (apart (eqb-true x y e))
    by_test false e = refl

pub nat_cmp-equal : (x y : ℕ) → nat_cmp x y ≡ Equal → x ≡ y
nat_cmp-equal x y h = ranked x y Equal (sym h)

pub not_same_after : (m n : ℕ) → n < m → (m == n) ≡ false
not_same_after m n h = by_test (m == n) refl
  where
    by_test : (b : Bool) → (m == n) ≡ b → b ≡ false
    by_test true e = let same : m ≡ n = eqb-true m n e in let no : ⊥ = omega (arith, same, h) in absurd no
    by_test false e = refl

pub not_below : (m n : ℕ) → n ≤ m → nat_lt m n ≡ false
not_below m n h = le-ltb m n h
