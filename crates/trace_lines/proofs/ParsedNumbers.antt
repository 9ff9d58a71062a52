-- A number is read where it is printed so.
use Rattle.std.proofs.Common.{◌≡◌, ℕ, ◌<◌, ◌^◌, ◌⊎◌, inl, inr, IsTrue, List, length, get_or, Option, None, Result, Ok, Err, decimal, sym, ◌∙◌, ap, subst, arith}
use Rattle.std.specs.Int.{IsInRange}
use Rattle.std.specs.Result.{result_ok}
use Rattle.std.specs.Str.Parse.{ParsesUnsigned}
use Rattle.std.proofs.lemmas.Bool.{ltb-true, lt-ltb}
use Rattle.std.proofs.lemmas.Fmt.{parse-decimal, decimal-digits_value, decimal_nonempty}
use Rattle.std.proofs.lemmas.Option.{none-some}
use Rattle.std.proofs.lemmas.Str.Parse.{digit_at, parse_plain}
use Rattle.line_text.specs.Range.{is_large}
use Rattle.trace_lines.specs.Lexing.{Spells}
use Rattle.trace_lines.proofs.Bytes.{own, digits-decimal, decimal_leads}

-- a text begins as a number does: with a digit, and with `0` only where that stands alone
abbrev pub Begins : List ℕ → Type 0
Begins text = IsInRange 48 57 (get_or text 0 0) × (get_or text 0 0 ≡ 48 → length text ≡ 1)

-- each number does
number_begins : (n : ℕ) → n < 2 ^ 64 → Begins (decimal n)
number_begins n small = (digit_at (decimal n) 0 (own.to (decimal n) (digits-decimal n small)) (decimal_nonempty n small), alone (decimal_leads n small))
  where
    alone : (48 < get_or (decimal n) 0 0) ⊎ (length (decimal n) ≡ 1) → get_or (decimal n) 0 0 ≡ 48 → length (decimal n) ≡ 1
    alone (inl above) zero = absurd (omega (arith, above, zero))
    alone (inr one) zero = one

-- a text that doesn't spells none
pub unbegun : (text : List ℕ) → (Begins text → ⊥) → Spells is_large decimal text None
unbegun text other = λ n large spelled. other (subst Begins (sym spelled) (number_begins n (ltb-true n (2 ^ 64) large)))

-- what is parsed of a text that does is the number that it spells
pub parsed : {E : Type 0} (text : List ℕ) (r : Result ℕ E) (o : Option ℕ) → Begins text → ParsesUnsigned 64 10 text r → o ≡ result_ok r
    → Spells is_large decimal text o
parsed {E} text (Ok n) o begins p h =
    let read = parse_plain own {E = E} 64 text (Ok n) p (λ plus. omega (arith, begins.0.0, plus)) in
    let large = subst (λ m. IsTrue (is_large m)) (sym read.1) (lt-ltb _ (2 ^ 64) read.0.2) in
    rw h (large, sym (decimal-digits_value own text read.0.0 read.0.1 begins.1 read.0.2) ∙ ap decimal (sym read.1))
parsed {E} text (Err e) o begins p h =
    rw h (λ n large spelled. let small = ltb-true n (2 ^ 64) large in none-some n (ap result_ok (parse-decimal 64 n text (Err e) small small spelled p)))
