-- What a text begins with: digits, and the number that they are.
use Rattle.std.proofs.Common.{◌≡◌, ℕ, ◌+◌, ◌-◌, ◌*◌, ◌^◌, ◌<◌, IsTrue, List, [], ◌∷◌, ◌++◌, length, take, drop, get_or, decimal, sym, ap, subst, ◌∙◌, arith}
use Rattle.std.specs.Int.{IsInRange}
use Rattle.std.specs.Str.Parse.{digits_value}
use Rattle.std.proofs.lemmas.Bool.{lt-ltb}
use Rattle.std.proofs.lemmas.Fmt.{decimal-digits_value}
use Rattle.std.proofs.lemmas.Int.Digits.{digits_value_more}
use Rattle.std.proofs.lemmas.List.{take-append-drop, take_more}
use Rattle.std.proofs.lemmas.Str.{digit_value_digit}
use Rattle.line_text.specs.Range.{is_large}
use Rattle.trace_lines.proofs.Bytes.{AreDigits, own}

digits_push : (ds : List ℕ) (d : ℕ) → AreDigits ds → IsInRange 48 57 d → AreDigits (ds ++ d ∷ [])
digits_push [] d h k = (k, tt)
digits_push (e ∷ ds) d h k = (h.0, digits_push ds d h.1 k)

-- one digit more
pub digits_more : (text : List ℕ) (i : ℕ) → i < length text → IsInRange 48 57 (get_or text i 0) → AreDigits (take i text) → AreDigits (take (i + 1) text)
digits_more text i here digit h = subst AreDigits (sym (take_more text i 0 here)) (digits_push (take i text) (get_or text i 0) h digit)

-- and its number
pub number_more : (text : List ℕ) (i n d : ℕ) → i < length text → IsInRange 48 57 (get_or text i 0) → d ≡ get_or text i 0 - 48 → digits_value 10 (take i text) ≡ n
    → digits_value 10 (take (i + 1) text) ≡ n * 10 + d
number_more text i n d here digit is h =
    let worth = digit_value_digit (get_or text i 0) digit in
    digits_value_more 10 text i here ∙ omega (arith, worth, is, h)

-- digits that don't begin with `0` but where it stands alone are the number that they spell
pub front_number : (text : List ℕ) (i n : ℕ) → AreDigits (take i text) → digits_value 10 (take i text) ≡ n → n < 2 ^ 64 → 0 < length (take i text)
    → (get_or (take i text) 0 0 ≡ 48 → length (take i text) ≡ 1) → IsTrue (is_large n) × (text ≡ decimal n ++ drop i text)
front_number text i n digits value small some lead =
    let spelled = decimal-digits_value own (take i text) digits some lead (omega (arith, value, small)) in
    (lt-ltb n (2 ^ 64) small, sym (take-append-drop i text) ∙ ap (λ front. front ++ drop i text) (sym spelled ∙ ap decimal value))
