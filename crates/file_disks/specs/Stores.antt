-- What contracts see of a store.
use Rattle.std.specs.Prelude.{ℕ, ◌≤◌, ◌<◌, ◌^◌, List, [], length, slice_get, unwrap_or}

-- the bytes of an actor's journal
abbrev pub journal_of : ℕ → List (List ℕ) → List ℕ
journal_of number journals = unwrap_or (slice_get journals number) []

-- a journal that may be opened has at most so many bytes: 67,108,864
abbrev pub IsNotLarge : ℕ → Type 0
IsNotLarge size = size ≤ 2 ^ 26

-- a journal of more bytes isn't opened
abbrev pub IsLarge : List ℕ → Type 0
IsLarge bytes = 2 ^ 26 < length bytes
