-- What the bytes of decimal numbers are, and what a list of bytes lacks.
use Rattle.std.proofs.Common.{◌≡◌, ◌≢◌, ◌⊎◌, inl, inr, ℕ, zero, suc, ◌<◌, ◌^◌, List, [], ◌∷◌, length, get_or, decimal, ap, arith, rules}
use Rattle.std.specs.Int.{IsInRange}
use Rattle.std.specs.List.{AllByRecursion}
use Rattle.std.specs.Str.Parse.{digits_value}
use Rattle.std.proofs.lemmas.Str.Parse.{IsNumeralModel, numerals_by_value}
use Rattle.std.proofs.lemmas.Fmt.{digits_decimal, digits_value-decimal, decimal_digit, first_decimal}

-- a weaker fact holds of each item too
pub all_weaker : {A : Type 0} (P Q : A → Type 0) (xs : List A) → ((x : A) → P x → Q x) → AllByRecursion P xs → AllByRecursion Q xs
all_weaker P Q [] f h = tt
all_weaker P Q (x ∷ xs) f h = (f x h.0, all_weaker P Q xs f h.1)

-- the bytes of decimal digits
abbrev pub AreDigits : List ℕ → Type 0
AreDigits = AllByRecursion (IsInRange 48 57)

pub own : IsNumeralModel AreDigits (digits_value 10)
own = numerals_by_value AreDigits (search rules)

pub digits-decimal : (n : ℕ) → n < 2 ^ 64 → AreDigits (decimal n)
digits-decimal n h = digits_decimal own n h

pub value-decimal : (n : ℕ) → n < 2 ^ 64 → digits_value 10 (decimal n) ≡ n
value-decimal n h = digits_value-decimal own n h

-- a number begins with `0` only where that stands alone
pub decimal_leads : (n : ℕ) → n < 2 ^ 64 → (48 < get_or (decimal n) 0 0) ⊎ (length (decimal n) ≡ 1)
decimal_leads zero small = inr (ap length (decimal_digit 0 (omega arith)))
decimal_leads (suc n) small = inl (first_decimal (suc n) (omega arith) small)

-- a byte that doesn't stand in the list
abbrev pub Lacks : ℕ → List ℕ → Type 0
Lacks c = AllByRecursion (λ b. b ≢ c)

-- the same by places
pub lacks_at : (c : ℕ) (bs : List ℕ) → Lacks c bs → (i : ℕ) → i < length bs → get_or bs i 0 ≢ c
lacks_at c [] h i l = absurd (omega arith)
lacks_at c (b ∷ bs) h zero l = h.0
lacks_at c (b ∷ bs) h (suc i) l = lacks_at c bs h.1 i (omega arith)

-- a number lacks what is no digit
pub lacks-decimal : (c n : ℕ) → (c < 48) ⊎ (57 < c) → n < 2 ^ 64 → Lacks c (decimal n)
lacks-decimal c n outside h = all_weaker (IsInRange 48 57) (λ b. b ≢ c) (decimal n) (λ b digit. omega arith) (digits-decimal n h)
