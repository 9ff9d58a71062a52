-- Laws of tests and of their joins.
use Rattle.std.proofs.Common.{◌≡◌, Bool, true, false, ◌&&◌, refl, ◌||◌, IsTrue, cond, not, sym, ◌∙◌}
use Rattle.mdb_base.specs.Words.{when}

pub and_false : (b : Bool) → (b && false) ≡ false
and_false true = refl
and_false false = refl

pub or_false : (b : Bool) → (b || false) ≡ b
or_false true = refl
or_false false = refl

pub and_true : (a : Bool) → (a && true) ≡ a
and_true true = refl
and_true false = refl

pub or_true : (b : Bool) → (b || true) ≡ true
or_true true = refl
or_true false = refl

pub is_true_both : (x y : Bool) → IsTrue x → IsTrue y → IsTrue (x && y)
is_true_both x y h k = rw (h, k)

pub not_both : (a : Bool) → a ≡ true → a ≡ false → ⊥
not_both a e f = cc

pub cond_same : {A : Type 0} (b : Bool) (x : A) → cond b x x ≡ x
cond_same true x = refl
cond_same false x = refl

pub not_true : (a : Bool) → IsTrue (not a) → a ≡ false
not_true true h = absurd cc
not_true false h = refl

pub is_true_parts : (a b : Bool) → IsTrue (a && b) → IsTrue a × IsTrue b
is_true_parts true b h = (refl, h)
is_true_parts false b h = absurd cc

pub or_swap : (a b c : Bool) → (a || (b || c)) ≡ (b || (a || c))
or_swap true true c = refl
or_swap true false c = refl
or_swap false b c = refl

pub when_either : {A : Type 0} (P : A → Type 0) (b : Bool) (x y : A) → P x → P y → P (when b x y)
unfolding when
when_either P true x y p q = p
when_either P false x y p q = q

pub or_swapped : (a b : Bool) → (a || b) ≡ (b || a)
or_swapped true b = sym (or_true b)
or_swapped false b = sym (or_false b)

pub and_fails : (a b : Bool) → b ≡ false → (a && b) ≡ false
and_fails true b e = e
and_fails false b e = refl

pub or_fails : (a b : Bool) → (a || b) ≡ false → (a ≡ false) × (b ≡ false)
or_fails true b e = cc
or_fails false b e = (refl, e)

-- a test has one answer
pub never : {A : Type 0} (b : Bool) → b ≡ false → b ≡ true → A
never b no_so so = let clash : true ≡ false = sym so ∙ no_so in cc
