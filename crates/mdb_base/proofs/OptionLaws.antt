-- Laws of values that may be missing.
use Rattle.std.specs.Prelude.{ℕ, Option, Some, None, is_some}
use Rattle.std.specs.Borrow.{MutBor}
use Rattle.std.specs.Option.{option_copied_mut}
use Rattle.std.proofs.Common.{Option, Some, None, IsSome, refl, ◌≡◌, false, is_some, ℕ, true, Bool, cond, is_none, ap}
use Rattle.mdb_base.specs.Words.{given, map_some}

abbrev pub first_of : Option ℕ → Option ℕ → Option ℕ
first_of None older = older
first_of (Some ticket) older = Some ticket

-- what was lent is there
pub lent : {A : Type 0} (o : Option (MutBor A)) → IsSome (option_copied_mut o) → IsSome o
lent None there = cc
lent (Some r) there = refl

pub none_left : {A : Type 0} (o : Option A) → ((x : A) → o ≡ Some x → ⊥) → o ≡ None
none_left None e = refl
none_left (Some x) e = absurd (e x refl)

pub nothing_is : {A : Type 0} (p : Option A) → is_some p ≡ false → p ≡ None
nothing_is None e = refl
nothing_is (Some a) e = cc

pub some_parts : {A : Type 0} {x y : A} → Some x ≡ Some y → x ≡ y
some_parts e = cc

pub no_number : (o : Option ℕ) → is_some o ≡ false → o ≡ None
no_number None h = refl
no_number (Some n) h = absurd cc

pub some_number : (o : Option ℕ) → is_some o ≡ true → (n : ℕ) × (o ≡ Some n)
some_number None e = cc
some_number (Some n) e = (n, refl)

pub cond_some : {A : Type 0} (b : Bool) (x y : A) → cond b (Some x) None ≡ Some y → (b ≡ true) × (x ≡ y)
cond_some true x y e = (refl, cc)
cond_some false x y e = cc

pub is_none-true : {A : Type 0} (o : Option A) → is_none o ≡ true → o ≡ None
is_none-true None e = refl
is_none-true (Some a) e = cc

pub is_some-true : {A : Type 0} (o : Option A) → is_some o ≡ true → IsSome o
is_some-true None e = cc
is_some-true (Some x) e = refl

-- a value that is there decides a branch
pub given_some : {A B : Type 0} (o : Option A) (none : B) (some : A → B) (x : A) → o ≡ Some x → given o some none ≡ some x
unfolding given
given_some o none some x e = ap (λ q. given q some none) e

-- a value that isn't there decides a branch
pub given_none : {A B : Type 0} (o : Option A) (none : B) (some : A → B) → o ≡ None → given o some none ≡ none
unfolding given
given_none o none some e = ap (λ q. given q some none) e

pub some_mapped : {A B : Type 0} (f : A → B) (o : Option A) → is_some (map_some f o) ≡ is_some o
some_mapped f None = refl
some_mapped f (Some a) = refl

pub none_from : {A B : Type 0} (f : A → B) (o : Option A) → map_some f o ≡ None → o ≡ None
none_from f None h = refl
none_from f (Some x) h = cc

pub by_given : {A B : Type 0} (P : B → Type 0) (o : Option A) (x : B) (f : A → B) → P x → ((v : A) → o ≡ Some v → P (f v)) → P (given o f x)
unfolding given
by_given P None x f p q = p
by_given P (Some v) x f p q = q v refl
