-- Rising lists as bytes: how many items there are, and then the items.
use Rattle.std.specs.Prelude.{ℕ, ◌≡◌, zero, suc, ◌<◌, ◌≤◌, ◌^◌, nat_lt, List, [], ◌∷◌, ◌++◌, length, Option, Some, None, Result, Ok, Err, Bool, true, ◌&&◌, if◌then◌else◌}
use Rattle.std.specs.List.{AllByRecursion}
use Rattle.mdb_base.specs.Rising.{IsRising}
use Rattle.byte_numbers.specs.Numbers.{number, number_at, ◌>>=◌}
use Rattle.byte_numbers.specs.declared.DecodeErr.{DecodeErr}
use Rattle.byte_numbers.specs.declared.DecodeErr.TheVariants.{NoValue, Memory}
use Rattle.record_fields.specs.Field.{Field}

-- the items, one behind the other
abbrev pub joined : {A : Type 0} → (A → List ℕ) → List A → List ℕ
joined spelling [] = []
joined spelling (x ∷ xs) = spelling x ++ joined spelling xs

-- so many items
unfoldable pub items_at : {A : Type 0} → (List ℕ → Option (A × List ℕ)) → ℕ → List ℕ → Option (List A × List ℕ)
items_at reading zero bytes = Some ([], bytes)
items_at reading (suc n) bytes = reading bytes >>= λ first. items_at reading n first.1 >>= λ others. Some (first.0 ∷ others.0, others.1)

-- whether each item's number is less than the next one's
abbrev pub rises : {A : Type 0} → (A → ℕ) → List A → Bool
rises key [] = true
rises key (x ∷ []) = true
rises key (x ∷ y ∷ ys) = nat_lt (key x) (key y) && rises key (y ∷ ys)

-- so many items, which rise
abbrev pub rising_at : {A : Type 0} → (A → ℕ) → (List ℕ → Option (A × List ℕ)) → ℕ → List ℕ → Option (List A × List ℕ)
rising_at key reading n bytes = items_at reading n bytes >>= λ found. if rises key found.0 then Some found else None

-- a rising list behind its length in n bytes
abbrev pub rising_list : {A : Type 0} → ℕ → (A → ℕ) → Field A → Field (List A)
rising_list n key item =
    record {
      spelling = λ xs. number n (length xs) ++ joined item.spelling xs;
      reading = λ bytes. number_at n bytes >>= λ count. rising_at key item.reading count.0 count.1;
      Fits = λ xs. (length xs < 256 ^ n) × IsRising key xs × AllByRecursion item.Fits xs;
    }

-- a reader gave what reading gives, unless memory ran out
abbrev pub Reads : {X A : Type 0} → (X → A) → Result X DecodeErr → Option A → Type 0
Reads view (Ok found) read = read ≡ Some (view found)
Reads view (Err NoValue) read = read ≡ None
Reads view (Err Memory) read = Unit {0}

-- the counted bytes, or none where they are more than a payload has at most
abbrev pub Counts : Option ℕ → ℕ → Type 0
Counts (Some counted) bytes = (counted ≡ bytes) × (bytes ≤ 65535)
Counts None bytes = 65535 < bytes
