-- Fields of records as bytes: how a field is spelled, what is read from the front of some bytes, and what can be written.
use Rattle.std.specs.Prelude.{ℕ, ◌≡◌, ◌<◌, ◌^◌, List, [], ◌∷◌, ◌++◌, Option, Some, None}
use Rattle.byte_numbers.specs.Numbers.{IsBytes, Takes, number, number_at, ◌>>=◌}

pub record Field (A : Type 0) : Type 1 where
  pub spelling : A → List ℕ
  pub reading : List ℕ → Option (A × List ℕ)
  pub Fits : A → Type 0

-- what is read is spelled so, and what is spelled is read again, whatever follows it
pub record IsExact {A : Type 0} (field : Field A) : Type 0 where
  pub takes : (bytes : List ℕ) (found : A × List ℕ) → IsBytes bytes → field.reading bytes ≡ Some found → Takes bytes (field.spelling found.0) found.1 × field.Fits found.0
  pub again : (x : A) (rest : List ℕ) → field.Fits x → field.reading (field.spelling x ++ rest) ≡ Some (x, rest)

-- a number of n bytes
abbrev pub a_number : ℕ → Field ℕ
a_number n = record { spelling = number n; reading = number_at n; Fits = λ x. x < 256 ^ n }

-- a value with the bytes behind it
abbrev pub with_rest : {A : Type 0} → Option A → List ℕ → Option (A × List ℕ)
with_rest None rest = None
with_rest (Some x) rest = Some (x, rest)

-- a value that a number of n bytes stands for
abbrev pub coded : {A : Type 0} → ℕ → (A → ℕ) → (ℕ → Option A) → (A → Type 0) → Field A
coded n code value_of Fits =
    record {
      spelling = λ x. number n (code x);
      reading = λ bytes. number_at n bytes >>= λ found. with_rest (value_of found.0) found.1;
      Fits = Fits;
    }

-- one field behind the other
abbrev pub both : {A B : Type 0} → Field A → Field B → Field (A × B)
both first second =
    record {
      spelling = λ x. first.spelling x.0 ++ second.spelling x.1;
      reading = λ bytes. first.reading bytes >>= λ a. second.reading a.1 >>= λ b. Some ((a.0, b.0), b.1);
      Fits = λ x. first.Fits x.0 × second.Fits x.1;
    }

-- the same field, of values that are made of these
abbrev pub made : {A B : Type 0} → (A → B) → (B → A) → Field A → Field B
made make parts field =
    record {
      spelling = λ x. field.spelling (parts x);
      reading = λ bytes. field.reading bytes >>= λ found. Some (make found.0, found.1);
      Fits = λ x. field.Fits (parts x);
    }

-- the value, where no bytes stand behind it
abbrev pub at_end : {A : Type 0} → A → List ℕ → Option A
at_end x [] = Some x
at_end x (byte ∷ rest) = None

-- a value that all the bytes spell
abbrev pub whole_of : {A : Type 0} → Option (A × List ℕ) → Option A
whole_of read = read >>= λ found. at_end found.0 found.1
