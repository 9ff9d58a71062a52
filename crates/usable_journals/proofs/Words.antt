-- Words on truth values, on numbers that are compared, and on awaited attempts.
use Rattle.std.proofs.Common.{◌≡◌, ℕ, Bool, true, false, cond, not, ◌&&◌, ◌||◌, List, [], ◌∷◌, refl, ap, ap₂, arith}
use Rattle.std.proofs.lemmas.Bool.Decides.{nat_tests}
use Rattle.std.specs.Ordering.{is_eq, nat_cmp}
use Rattle.mdb_base.specs.declared.names.Tid.{Tid}
use Rattle.mdb_base.specs.Words.{each_of}
use Rattle.fed_rules.specs.declared.sums.OpenAttempt.{OpenAttempt}
use Rattle.fed_rules.specs.CoordRecords.{class_of, ends_at_once}
use Rattle.usable_journals.specs.CoordTests.{is_awaited_by}

-- ---- truth values

pub or_second : (a b : Bool) → b ≡ true → (a || b) ≡ true
or_second true b e = refl
or_second false b e = e

pub choice : (a b c : Bool) → a ≡ b → cond a true c ≡ (b || c)
choice true b c e = ap (λ (x : Bool). x || c) e
choice false b c e = ap (λ (x : Bool). x || c) e

-- ---- numbers

pub is_eq-nat : (a b : ℕ) → is_eq (nat_cmp a b) ≡ true → a ≡ b
is_eq-nat a b e = grind (arith, nat_tests)

-- ---- awaited attempts

-- the same committed attempts say the same of open ones
pub awaited_same : (f g : Tid → Bool) → ((tid : Tid) → f tid ≡ g tid) → (xs : List OpenAttempt) → each_of (is_awaited_by f) xs ≡ each_of (is_awaited_by g) xs
awaited_same f g same [] = refl
awaited_same f g same (x ∷ xs) = ap₂ (λ a b. a && b) (ap (λ t. not (t && ends_at_once (class_of x.participants))) (same x.tid)) (awaited_same f g same xs)
