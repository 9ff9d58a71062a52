-- The younger one of two runs, and ages that a run's age bounds.
use Rattle.std.proofs.Common.{◌≡◌, ℕ, ◌≤◌, ◌⊎◌, Bool, true, false, cond, nat_lt, Option, Some, None, inl, inr, refl, arith}
use Rattle.std.proofs.lemmas.Bool.{ltb-true, ltb-false}
use Rattle.run_book.specs.declared.rival.Rival.{Rival}
use Rattle.run_book.specs.Ages.{younger_of}

-- there is a run, and this age isn't above its age
abbrev pub IsUpTo : ℕ → Option Rival → Type 0
IsUpTo age None = ⊥
IsUpTo age (Some rival) = age ≤ rival.rank

pub up_left : (age : ℕ) (o p : Option Rival) → IsUpTo age o → IsUpTo age (younger_of o p)
up_left age None p h = absurd h
up_left age (Some a) None h = h
up_left age (Some a) (Some b) h = by_test (nat_lt a.rank b.rank) refl
  where
    by_test : (x : Bool) → nat_lt a.rank b.rank ≡ x → age ≤ (cond x b a).rank
    by_test true e = let lt = ltb-true a.rank b.rank e in omega (arith, h)
    by_test false e = h

pub up_right : (age : ℕ) (o p : Option Rival) → IsUpTo age p → IsUpTo age (younger_of o p)
up_right age None p h = h
up_right age (Some a) None h = absurd h
up_right age (Some a) (Some b) h = by_test (nat_lt a.rank b.rank) refl
  where
    by_test : (x : Bool) → nat_lt a.rank b.rank ≡ x → age ≤ (cond x b a).rank
    by_test true e = h
    by_test false e = let ge = ltb-false a.rank b.rank e in omega (arith, h)

-- it is one of the two
pub one_of : (o p : Option Rival) (r : Rival) → younger_of o p ≡ Some r → (o ≡ Some r) ⊎ (p ≡ Some r)
one_of None p r h = inr h
one_of (Some a) None r h = inl h
one_of (Some a) (Some b) r h = by_test (nat_lt a.rank b.rank) h
  where
    by_test : (x : Bool) → Some (cond x b a) ≡ Some r → (Some a ≡ Some r) ⊎ (Some b ≡ Some r)
    by_test true h = inr h
    by_test false h = inl h
