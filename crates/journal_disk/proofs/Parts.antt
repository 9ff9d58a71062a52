-- What stands at the front of some bytes: a whole frame, or a proper prefix of one.
use Rattle.std.proofs.Common.{◌≡◌, ℕ, zero, suc, ◌+◌, ◌-◌, ◌<◌, ◌≤◌, ◌^◌, List, [], ◌∷◌, ◌++◌, length, take, drop, replicate, Some, None, refl, sym, ap, ◌∙◌, arith, append_assoc}
use Rattle.std.proofs.lemmas.List.{take-append-drop, length-append, length-replicate, length-take, length-drop, take_all, take_rest, drop-drop, drop_at}
use Rattle.byteorder.specs.Endian.{big_number}
use Rattle.byteorder.specs.Numbers.{big_from-lt}
use Rattle.byte_numbers.specs.Numbers.{IsBytes, number, number_at}
use Rattle.byte_numbers.proofs.ForCallers.{IsBytes-drop, length-number, number-big_number, number_none, number_takes}
use Rattle.journal_disk.specs.Frames.{Old, New, frame_bytes, IsPartOfFrame}
use Rattle.journal_disk.specs.Spans.{frame_at, BeginsNew}
use Rattle.journal_disk.specs.declared.frames.Version.TheVariants.{First, Second}
use Rattle.journal_disk.specs.declared.reading.Span.{Span}

-- so many zeros
abbrev zeros_of : ℕ → List ℕ
zeros_of n = replicate n 0

length-zeros_of : (n : ℕ) → length (zeros_of n) ≡ n
length-zeros_of n = length-replicate n 0

pair_fits : (a b : ℕ) → a < 256 → b < 256 → IsBytes (a ∷ b ∷ [])
pair_fits a b low_a low_b zero = low_a
pair_fits a b low_a low_b (suc zero) = low_b
pair_fits a b low_a low_b (suc (suc i)) = omega arith

-- ---- version 1

-- two bytes of a length that isn't 0, and their payload of zeros, behind a front of those two
old_front : (front back : List ℕ) → IsBytes (front ++ back) → length (front ++ back) ≡ 2 → 0 < length back → 0 < big_number 2 (front ++ back) → IsPartOfFrame front
old_front front back fits two some positive =
    let n = big_number 2 (front ++ back) in
    let low : n < 2 ^ 16 = big_from-lt 0 2 (front ++ back) fits in
    let payload = zeros_of n in
    let size : length payload ≡ n = length-zeros_of n in
    let spelled : number 2 n ≡ front ++ back = number-big_number 2 (front ++ back) fits (omega arith) ∙ take_all 2 (front ++ back) (omega arith) in
    record {
      whole = Old payload;
      is_frame = (omega arith, omega arith);
      lacking = back ++ payload;
      lacks_some = omega (arith, length-append back payload);
      parts = sym (append_assoc front back payload) ∙ ap (λ (x : List ℕ). x ++ payload) (sym spelled) ∙ ap (λ (k : ℕ). number 2 k ++ payload) (sym size);
    }

-- fewer than two bytes
short_is_part : (bytes : List ℕ) → IsBytes bytes → number_at 2 bytes ≡ None → IsPartOfFrame bytes
short_is_part [] fits e = old_front [] (0 ∷ 1 ∷ []) (pair_fits 0 1 (omega arith) (omega arith)) refl (omega arith) (omega arith)
short_is_part (a ∷ []) fits e = old_front (a ∷ []) (1 ∷ []) (pair_fits a 1 (fits 0) (omega arith)) refl (omega arith) (omega arith)
short_is_part (a ∷ b ∷ bytes) fits e = absurd (omega (arith, number_none 2 (a ∷ b ∷ bytes) e))

-- fewer bytes than the length says
open_is_part : (bytes : List ℕ) (n : ℕ) (rest : List ℕ) → IsBytes bytes → number_at 2 bytes ≡ Some (n, rest) → length rest < n → IsPartOfFrame bytes
open_is_part bytes n rest fits e short =
    let t = number_takes 2 bytes (n, rest) fits e in
    let zeros = zeros_of (n - length rest) in
    let size : length (rest ++ zeros) ≡ n = omega (arith, length-append rest zeros, length-zeros_of (n - length rest)) in
    record {
      whole = Old (rest ++ zeros);
      is_frame = (omega arith, omega (arith, t.1));
      lacking = zeros;
      lacks_some = omega (arith, length-zeros_of (n - length rest));
      parts = ap (λ (x : List ℕ). x ++ zeros) t.0.parts ∙ append_assoc (number 2 n) rest zeros ∙ ap (λ (k : ℕ). number 2 k ++ (rest ++ zeros)) (sym size);
    }

-- as many bytes as the length says, or more
whole_frame : (bytes : List ℕ) (n : ℕ) (rest : List ℕ) → IsBytes bytes → number_at 2 bytes ≡ Some (n, rest) → n ≤ length rest → bytes ≡ frame_bytes (Old (take n rest)) ++ drop n rest
whole_frame bytes n rest fits e long =
    let t = number_takes 2 bytes (n, rest) fits e in
    let size : length (take n rest) ≡ n = omega (arith, length-take n rest) in
    t.0.parts ∙ ap (λ (x : List ℕ). number 2 n ++ x) (sym (take-append-drop n rest)) ∙ sym (append_assoc (number 2 n) (take n rest) (drop n rest)) ∙ ap (λ (k : ℕ). (number 2 k ++ take n rest) ++ drop n rest) (sym size)

-- the same from a place on
pub whole_at : (bytes : List ℕ) (place n : ℕ) (rest : List ℕ) → IsBytes bytes → number_at 2 (take (length bytes - place) (drop place bytes)) ≡ Some (n, rest) → n ≤ length rest
    → let span : Span = record { version = First; start = place + 2; end = (place + 2) + n; next = (place + 2) + n } in drop place bytes ≡ frame_bytes (frame_at bytes span) ++ drop span.next bytes
whole_at bytes place n rest fits e long =
    let from : number_at 2 (drop place bytes) ≡ Some (n, rest) = rw take_rest at e in
    let t = number_takes 2 (drop place bytes) (n, rest) (IsBytes-drop place bytes fits) from in
    let behind : drop (place + 2) bytes ≡ rest = sym (drop-drop 2 place bytes) ∙ ap (drop 2) t.0.parts ∙ drop_at (number 2 n) rest 2 (length-number 2 n) in
    let count : (place + 2) + n - (place + 2) ≡ n = omega arith in
    let taken : take ((place + 2) + n - (place + 2)) (drop (place + 2) bytes) ≡ take n rest = rw (count, behind) refl in
    let left : drop ((place + 2) + n) bytes ≡ drop n rest = sym (drop-drop n (place + 2) bytes) ∙ ap (drop n) behind in
    rw (taken, left) (whole_frame (drop place bytes) n rest (IsBytes-drop place bytes fits) from long)

pub short_at : (bytes : List ℕ) (place : ℕ) → IsBytes bytes → number_at 2 (take (length bytes - place) (drop place bytes)) ≡ None → IsPartOfFrame (drop place bytes)
short_at bytes place fits e = short_is_part (drop place bytes) (IsBytes-drop place bytes fits) (rw take_rest at e)

pub open_at : (bytes : List ℕ) (place n : ℕ) (rest : List ℕ) → IsBytes bytes → number_at 2 (take (length bytes - place) (drop place bytes)) ≡ Some (n, rest) → length rest < n → IsPartOfFrame (drop place bytes)
open_at bytes place n rest fits e short = open_is_part (drop place bytes) n rest (IsBytes-drop place bytes fits) (rw take_rest at e) short

-- two bytes of 0 at the front, if their number is 0
pub begins_new : (bytes : List ℕ) (place : ℕ) (rest : List ℕ) → IsBytes bytes → number_at 2 (take (length bytes - place) (drop place bytes)) ≡ Some (0, rest) → BeginsNew (drop place bytes)
begins_new bytes place rest fits e =
    let t = number_takes 2 (drop place bytes) (0, rest) (IsBytes-drop place bytes fits) (rw take_rest at e) in
    let parts : drop place bytes ≡ 0 ∷ 0 ∷ rest = t.0.parts in
    parts ∙ ap (λ (x : List ℕ). 0 ∷ 0 ∷ x) (sym (ap (drop 2) parts))

-- ---- version 2

-- two bytes of a length, a payload of zeros and a digest of zeros, behind a front of those two
new_front : (front back : List ℕ) → IsBytes (front ++ back) → length (front ++ back) ≡ 2 → IsPartOfFrame (0 ∷ 0 ∷ front)
new_front front back fits two =
    let n = big_number 2 (front ++ back) in
    let low : n < 2 ^ 16 = big_from-lt 0 2 (front ++ back) fits in
    let payload = zeros_of n in
    let digest = zeros_of 32 in
    let size : length payload ≡ n = length-zeros_of n in
    let spelled : number 2 n ≡ front ++ back = number-big_number 2 (front ++ back) fits (omega arith) ∙ take_all 2 (front ++ back) (omega arith) in
    record {
      whole = New payload digest;
      is_frame = (omega arith, length-zeros_of 32);
      lacking = back ++ (payload ++ digest);
      lacks_some = omega (arith, length-append back (payload ++ digest), length-append payload digest, length-zeros_of 32);
      parts = ap (λ (x : List ℕ). 0 ∷ 0 ∷ x) (sym (append_assoc front back (payload ++ digest)) ∙ ap (λ (x : List ℕ). x ++ (payload ++ digest)) (sym spelled) ∙ ap (λ (k : ℕ). number 2 k ++ (payload ++ digest)) (sym size));
    }

new_short_is_part : (rest : List ℕ) → IsBytes rest → number_at 2 rest ≡ None → IsPartOfFrame (0 ∷ 0 ∷ rest)
new_short_is_part [] fits e = new_front [] (0 ∷ 0 ∷ []) (pair_fits 0 0 (omega arith) (omega arith)) refl
new_short_is_part (a ∷ []) fits e = new_front (a ∷ []) (0 ∷ []) (pair_fits a 0 (fits 0) (omega arith)) refl
new_short_is_part (a ∷ b ∷ rest) fits e = absurd (omega (arith, number_none 2 (a ∷ b ∷ rest) e))

-- fewer bytes than the payload and a digest have
new_open_is_part : (rest : List ℕ) (n : ℕ) (tail : List ℕ) → IsBytes rest → number_at 2 rest ≡ Some (n, tail) → length tail < n + 32 → IsPartOfFrame (0 ∷ 0 ∷ rest)
new_open_is_part rest n tail fits e short =
    let t = number_takes 2 rest (n, tail) fits e in
    let zeros = zeros_of (n + 32 - length tail) in
    let full = tail ++ zeros in
    let long : length full ≡ n + 32 = omega (arith, length-append tail zeros, length-zeros_of (n + 32 - length tail)) in
    let size : length (take n full) ≡ n = omega (arith, length-take n full) in
    record {
      whole = New (take n full) (drop n full);
      is_frame = (omega (arith, t.1), omega (arith, length-drop n full));
      lacking = zeros;
      lacks_some = omega (arith, length-zeros_of (n + 32 - length tail));
      parts = ap (λ (x : List ℕ). 0 ∷ 0 ∷ x) (ap (λ (x : List ℕ). x ++ zeros) t.0.parts ∙ append_assoc (number 2 n) tail zeros ∙ ap (λ (x : List ℕ). number 2 n ++ x) (sym (take-append-drop n full)) ∙ ap (λ (k : ℕ). number 2 k ++ (take n full ++ drop n full)) (sym size));
    }

-- as many as they have, or more
new_whole_frame : (rest : List ℕ) (n : ℕ) (tail : List ℕ) → IsBytes rest → number_at 2 rest ≡ Some (n, tail) → n + 32 ≤ length tail
    → 0 ∷ 0 ∷ rest ≡ frame_bytes (New (take n tail) (take 32 (drop n tail))) ++ drop 32 (drop n tail)
new_whole_frame rest n tail fits e long =
    let t = number_takes 2 rest (n, tail) fits e in
    let payload = take n tail in
    let digest = take 32 (drop n tail) in
    let behind = drop 32 (drop n tail) in
    let size : length payload ≡ n = omega (arith, length-take n tail) in
    let split : tail ≡ payload ++ (digest ++ behind) = sym (take-append-drop n tail) ∙ ap (λ (x : List ℕ). payload ++ x) (sym (take-append-drop 32 (drop n tail))) in
    let grouped : number 2 n ++ (payload ++ (digest ++ behind)) ≡ (number 2 (length payload) ++ (payload ++ digest)) ++ behind =
    ap (λ (x : List ℕ). number 2 n ++ x) (sym (append_assoc payload digest behind)) ∙ sym (append_assoc (number 2 n) (payload ++ digest) behind) ∙ ap (λ (k : ℕ). (number 2 k ++ (payload ++ digest)) ++ behind) (sym size) in
    ap (λ (x : List ℕ). 0 ∷ 0 ∷ x) (t.0.parts ∙ ap (λ (x : List ℕ). number 2 n ++ x) split ∙ grouped)

module _ (bytes : List ℕ) (place : ℕ) (fits : IsBytes bytes) (zeros : BeginsNew (drop place bytes)) where
  -- what stands behind the zeros
  behind_zeros : drop place bytes ≡ 0 ∷ 0 ∷ drop (place + 2) bytes
  behind_zeros = zeros ∙ ap (λ (x : List ℕ). 0 ∷ 0 ∷ x) (drop-drop 2 place bytes)

  pub new_short_at : number_at 2 (take (length bytes - (place + 2)) (drop (place + 2) bytes)) ≡ None → IsPartOfFrame (drop place bytes)
  new_short_at e = rw behind_zeros (new_short_is_part (drop (place + 2) bytes) (IsBytes-drop (place + 2) bytes fits) (rw take_rest at e))

  pub new_open_at : (n : ℕ) (tail : List ℕ) → number_at 2 (take (length bytes - (place + 2)) (drop (place + 2) bytes)) ≡ Some (n, tail) → length tail < n + 32 → IsPartOfFrame (drop place bytes)
  new_open_at n tail e short = rw behind_zeros (new_open_is_part (drop (place + 2) bytes) n tail (IsBytes-drop (place + 2) bytes fits) (rw take_rest at e) short)

  pub new_whole_at : (n : ℕ) (tail : List ℕ) → number_at 2 (take (length bytes - (place + 2)) (drop (place + 2) bytes)) ≡ Some (n, tail) → n + 32 ≤ length tail
      → let span : Span = record { version = Second; start = place + 4; end = (place + 4) + n; next = ((place + 4) + n) + 32 } in drop place bytes ≡ frame_bytes (frame_at bytes span) ++ drop span.next bytes
  new_whole_at n tail e long =
      let rest = drop (place + 2) bytes in
      let from : number_at 2 rest ≡ Some (n, tail) = rw take_rest at e in
      let t = number_takes 2 rest (n, tail) (IsBytes-drop (place + 2) bytes fits) from in
      let four : (place + 2) + 2 ≡ place + 4 = omega arith in
      let behind : drop (place + 4) bytes ≡ tail = ap (λ (k : ℕ). drop k bytes) (sym four) ∙ sym (drop-drop 2 (place + 2) bytes) ∙ ap (drop 2) t.0.parts ∙ drop_at (number 2 n) tail 2 (length-number 2 n) in
      let later : drop ((place + 4) + n) bytes ≡ drop n tail = sym (drop-drop n (place + 4) bytes) ∙ ap (drop n) behind in
      let left : drop (((place + 4) + n) + 32) bytes ≡ drop 32 (drop n tail) = sym (drop-drop 32 ((place + 4) + n) bytes) ∙ ap (drop 32) later in
      let count : (place + 4) + n - (place + 4) ≡ n = omega arith in
      let digest : ((place + 4) + n) + 32 - ((place + 4) + n) ≡ 32 = omega arith in
      let taken : take ((place + 4) + n - (place + 4)) (drop (place + 4) bytes) ≡ take n tail = rw (count, behind) refl in
      let signed : take (((place + 4) + n) + 32 - ((place + 4) + n)) (drop ((place + 4) + n) bytes) ≡ take 32 (drop n tail) = rw (digest, later) refl in
      rw (taken, signed, left) (behind_zeros ∙ new_whole_frame rest n tail (IsBytes-drop (place + 2) bytes fits) from long)
