-- Readings one behind another.
use Rattle.std.proofs.Common.{◌≡◌, ℕ, ◌<◌, ◌^◌, Bool, true, false, cond, List, ◌++◌, Option, Some, None, refl, sym, ap, ◌∙◌}
use Rattle.std.proofs.lemmas.List.{append_assoc}
use Rattle.byte_numbers.specs.Numbers.{number, number_at, ◌>>=◌}
use Rattle.byte_numbers.proofs.ForCallers.{Takes, number_again}

-- a reading behind another one found something, so the first one did
pub bind_some : {A B : Type 0} (o : Option A) (f : A → Option B) (y : B) → (o >>= f) ≡ Some y → (x : A) × (o ≡ Some x) × (f x ≡ Some y)
bind_some None f y e = cc
bind_some (Some x) f y e = (x, refl, e)

-- what is found only where a test holds
pub tested_some : {A : Type 0} (b : Bool) (o : Option A) (y : A) → cond b o None ≡ Some y → (b ≡ true) × (o ≡ Some y)
tested_some true o y e = (refl, e)
tested_some false o y e = cc

-- two texts from the front, one behind the other
pub takes_both : (bytes first rest second end : List ℕ) → Takes bytes first rest → Takes rest second end → Takes bytes (first ++ second) end
takes_both bytes first rest second end one two =
    record { parts = one.parts ∙ ap (λ x. first ++ x) two.parts ∙ sym (append_assoc first second end); fits = two.fits }

-- a number that was written is read, and then what stands behind it
pub number_then : {B : Type 0} (n x : ℕ) (rest : List ℕ) (f : ℕ × List ℕ → Option B) → x < 256 ^ n → (number_at n (number n x ++ rest) >>= f) ≡ f (x, rest)
number_then n x rest f low = ap (λ o. o >>= f) (number_again n x rest low)
