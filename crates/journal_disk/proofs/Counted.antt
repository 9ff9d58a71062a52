-- The two bytes of a payload's length stand before it.
use Rattle.std.proofs.Common.{◌≡◌, ℕ, ◌+◌, ◌-◌, ◌≤◌, List, ◌++◌, length, take, drop, Some, refl, sym, ap, ◌∙◌, arith}
use Rattle.std.proofs.lemmas.List.{length-take, take_rest, drop-drop, drop_at}
use Rattle.byte_numbers.specs.Numbers.{IsBytes, number, number_at}
use Rattle.byte_numbers.proofs.ForCallers.{IsBytes-drop, length-number, number_takes}
use Rattle.journal_disk.specs.Spans.{between, IsCounted}
use Rattle.journal_disk.specs.declared.reading.Span.{Span}
use Rattle.journal_disk.proofs.Whole.{take-past}

-- at this place two bytes of a length stand, and behind them so many bytes
counted_from : (bytes : List ℕ) (place n : ℕ) (rest : List ℕ) → IsBytes bytes → number_at 2 (drop place bytes) ≡ Some (n, rest) → n ≤ length rest
    → between bytes place ((place + 2) + n) ≡ number 2 (length (between bytes (place + 2) ((place + 2) + n))) ++ between bytes (place + 2) ((place + 2) + n)
counted_from bytes place n rest fits from long =
    let t = number_takes 2 (drop place bytes) (n, rest) (IsBytes-drop place bytes fits) from in
    let two : length (number 2 n) ≡ 2 = length-number 2 n in
    let behind : drop (place + 2) bytes ≡ rest = sym (drop-drop 2 place bytes) ∙ ap (drop 2) t.0.parts ∙ drop_at (number 2 n) rest 2 two in
    let all : (place + 2) + n - place ≡ 2 + n = omega arith in
    let count : (place + 2) + n - (place + 2) ≡ n = omega arith in
    let left : 2 + n - length (number 2 n) ≡ n = omega arith in
    let payload : between bytes (place + 2) ((place + 2) + n) ≡ take n rest = rw (count, behind) refl in
    let size : length (take n rest) ≡ n = omega (arith, length-take n rest) in
    ap (λ (k : ℕ). take k (drop place bytes)) all ∙ ap (take (2 + n)) t.0.parts ∙ take-past (2 + n) (number 2 n) rest (omega arith)
    ∙ ap (λ (k : ℕ). number 2 n ++ take k rest) left
    ∙ sym (ap (λ (x : List ℕ). number 2 (length x) ++ x) payload ∙ ap (λ (k : ℕ). number 2 k ++ take n rest) size)

-- so the payload of a span behind them is counted
pub is_counted : (bytes : List ℕ) (span : Span) (place n : ℕ) (rest : List ℕ) → IsBytes bytes → number_at 2 (take (length bytes - place) (drop place bytes)) ≡ Some (n, rest)
    → n ≤ length rest → span.start ≡ place + 2 → span.end ≡ (place + 2) + n → IsCounted bytes span
is_counted bytes span place n rest fits e long start end =
    let back : span.start - 2 ≡ place = omega arith in
    let same : between bytes span.start span.end ≡ between bytes (place + 2) ((place + 2) + n) = ap (λ (k : ℕ). between bytes k span.end) start ∙ ap (between bytes (place + 2)) end in
    record {
      room = omega arith;
      is = ap (λ (k : ℕ). between bytes k span.end) back ∙ ap (between bytes place) end ∙ counted_from bytes place n rest fits (rw take_rest at e) long
          ∙ sym (ap (λ (x : List ℕ). number 2 (length x) ++ x) same);
    }
