-- Numbers as bytes, the highest byte first, and reading from the front of a list of bytes.
-- A reading is a value with the bytes behind it, or none where the front spells no value.
use Rattle.std.specs.Prelude.{ℕ, ◌≡◌, ◌<◌, List, ◌++◌, length, drop, slice_index, Option, Some, None, option_and_then, nat_lt, if◌then◌else◌}
use Rattle.std.specs.Borrow.{Bor}
use Rattle.byteorder.specs.Endian.{big_bytes, big_number}

-- each item is a byte
abbrev pub IsBytes : List ℕ → Type 0
IsBytes bytes = (i : ℕ) → slice_index bytes i < 256

-- the lowest n bytes of a number, the highest of them first
abbrev pub number : ℕ → ℕ → List ℕ
number n x = big_bytes n x

-- a number of n bytes
abbrev pub number_at : ℕ → List ℕ → Option (ℕ × List ℕ)
number_at n bytes = if nat_lt (length bytes) n then None else Some (big_number n bytes, drop n bytes)

-- the next reading, of what the first one left
infixl 10 ◌>>=◌
abbrev pub ◌>>=◌ : {A B : Type 0} → Option A → (A → Option B) → Option B
o >>= f = option_and_then f o

-- a reader gave what reading gives
abbrev pub Gives : {A : Type 0} → Option (A × Bor (List ℕ)) → Option (A × List ℕ) → Type 0
Gives None read = read ≡ None
Gives (Some found) read = read ≡ Some (found.0, found.1.now)

-- what a reading took from the front, and what it left
pub record Takes (bytes text rest : List ℕ) : Type 0 where
  pub parts : bytes ≡ text ++ rest
  pub fits : IsBytes rest
