-- What is read is spelled so, and what is spelled so is read again.
use Rattle.std.proofs.Common.{◌≡◌, ℕ, zero, suc, ◌+◌, ◌*◌, ◌/◌, ◌%◌, ◌^◌, ◌<◌, ◌≤◌, Bool, true, false, cond, ltb, List, [], ◌∷◌, ◌++◌, length, get_or, take, drop, Option, Some, None, refl, sym, ap, subst, ◌∙◌, arith, pow-add}
use Rattle.std.specs.Int.{byte_at, bytes_high_first}
use Rattle.std.proofs.Math.Nat.{mul-add-div_right, mul-add-mod_self_right, mod-eq_of_lt, div-eq_of_lt, mul_assoc, pow-succ', div-one, one-le-pow}
use Rattle.std.proofs.lemmas.Bool.{ltb-true, ltb-false, le-ltb}
use Rattle.std.proofs.lemmas.List.{take_at, drop_at, take-append-drop, length-append, drop_more, get_or-drop}
use Rattle.std.proofs.Math.Seq.{drop-cons}
use Rattle.byteorder.specs.Endian.{big_from, big_number, big_bytes}
use Rattle.byteorder.specs.Numbers.{big_from-lt, big_number-reads_back, length-bytes_high_first}
use Rattle.byte_numbers.specs.Numbers.{IsBytes, number, number_at}
pub use Rattle.byte_numbers.specs.Numbers.{Takes}

-- a byte of a number, by its place
byte_at-pow : (k x : ℕ) → byte_at k x ≡ x / 256 ^ k % 256
byte_at-pow zero x = ap (λ (y : ℕ). y % 256) (sym (div-one x))
byte_at-pow (suc k) x = refl

pow_pos256 : (n : ℕ) → zero < 256 ^ n
pow_pos256 n = let h = one-le-pow n 256 (omega arith) in omega arith

-- what stands above a byte doesn't change it
byte_at-above : (k d a r : ℕ) → byte_at k (a * 256 ^ (d + suc k) + r) ≡ byte_at k r
byte_at-above k d a r =
    let moved : a * 256 ^ (d + suc k) ≡ a * 256 ^ d * 256 * 256 ^ k = rw (pow-add, pow-succ', mul_assoc, mul_assoc) refl in
    let divided : (a * 256 ^ (d + suc k) + r) / 256 ^ k ≡ a * 256 ^ d * 256 + r / 256 ^ k = rw moved (mul-add-div_right (pow_pos256 k) (a * 256 ^ d * 256) r) in
    byte_at-pow k (a * 256 ^ (d + suc k) + r) ∙ ap (λ (y : ℕ). y % 256) divided ∙ mul-add-mod_self_right (a * 256 ^ d) 256 (r / 256 ^ k) ∙ sym (byte_at-pow k r)

-- what stands above the lowest bytes doesn't change them
bytes-above : (k m d a r : ℕ) → m ≡ d + k → bytes_high_first k (a * 256 ^ m + r) ≡ bytes_high_first k r
bytes-above zero m d a r e = refl
bytes-above (suc k) m d a r e =
    let first : byte_at k (a * 256 ^ m + r) ≡ byte_at k r = rw e (byte_at-above k d a r) in
    let others = bytes-above k m (suc d) a r (omega arith) in
    cc

-- the bytes of the number that n bytes spell are those bytes
number-big_from : (n i : ℕ) (bytes : List ℕ) → IsBytes bytes → i + n ≤ length bytes → bytes_high_first n (big_from i n bytes) ≡ take n (drop i bytes)
number-big_from zero i bytes fits long = refl
number-big_from (suc n) i bytes fits long =
    let a = get_or bytes i 0 in
    let r = big_from (suc i) n bytes in
    let low : r < 256 ^ n = big_from-lt (suc i) n bytes fits in
    let byte : a < 256 = fits i in
    let high : byte_at n (a * 256 ^ n + r) ≡ a = byte_at-pow n (a * 256 ^ n + r) ∙ ap (λ (y : ℕ). y % 256) (mul-add-div_right (pow_pos256 n) a r ∙ ap (λ (y : ℕ). a + y) (div-eq_of_lt low) ∙ omega arith) ∙ mod-eq_of_lt byte in
    let others : bytes_high_first n (a * 256 ^ n + r) ≡ take n (drop (suc i) bytes) = bytes-above n n 0 a r (omega arith) ∙ number-big_from n (suc i) bytes fits (omega arith) in
    let opened : drop i bytes ≡ a ∷ drop (suc i) bytes = drop-cons bytes i 0 (omega arith) in
    rw (high, others, opened) refl

-- the bytes of the number at the front are the bytes at the front
pub number-big_number : (n : ℕ) (bytes : List ℕ) → IsBytes bytes → n ≤ length bytes → number n (big_number n bytes) ≡ take n bytes
number-big_number n bytes fits long = number-big_from n 0 bytes fits (omega arith)

pub length-number : (n x : ℕ) → length (number n x) ≡ n
length-number = length-bytes_high_first

pub IsBytes-drop : (n : ℕ) (bytes : List ℕ) → IsBytes bytes → IsBytes (drop n bytes)
IsBytes-drop n bytes fits i = rw get_or-drop (fits (n + i))

-- a reading behind a test that found something
pub guard_some : {A : Type 0} (failed : Bool) (x y : A) → cond failed None (Some x) ≡ Some y → (failed ≡ false) × (x ≡ y)
guard_some true x y e = absurd cc
guard_some false x y e = (refl, cc)

-- a reading behind a test that found nothing
pub guard_none : {A : Type 0} (failed : Bool) (x : A) → cond failed None (Some x) ≡ None → failed ≡ true
guard_none true x e = refl
guard_none false x e = absurd cc

pub number_takes : (n : ℕ) (bytes : List ℕ) (found : ℕ × List ℕ) → IsBytes bytes → number_at n bytes ≡ Some found → Takes bytes (number n found.0) found.1 × (found.0 < 256 ^ n)
number_takes n bytes found fits e =
    let g = guard_some (ltb (length bytes) n) (big_number n bytes, drop n bytes) found e in
    let front = number-big_number n bytes fits (ltb-false _ _ g.0) in
    let whole : Takes bytes (number n (big_number n bytes)) (drop n bytes) = record { parts = rw front (sym (take-append-drop n bytes)); fits = IsBytes-drop n bytes fits } in
    subst (λ (f : ℕ × List ℕ). Takes bytes (number n f.0) f.1 × (f.0 < 256 ^ n)) g.1 (whole, big_from-lt 0 n bytes fits)

pub number_again : (n x : ℕ) (rest : List ℕ) → x < 256 ^ n → number_at n (number n x ++ rest) ≡ Some (x, rest)
number_again n x rest low =
    let size = length-number n x in
    let long : ltb (length (number n x ++ rest)) n ≡ false = le-ltb _ _ (omega (arith, length-append (number n x) rest)) in
    rw (long, big_number-reads_back n x rest low, drop_at (number n x) rest n size) refl

-- nothing is read exactly where bytes are missing
pub number_none : (n : ℕ) (bytes : List ℕ) → number_at n bytes ≡ None → length bytes < n
number_none n bytes e = ltb-true (length bytes) n (guard_none (ltb (length bytes) n) (big_number n bytes, drop n bytes) e)
