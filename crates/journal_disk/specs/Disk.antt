-- What a disk holds: an append-only list of bytes of which a front is synced and may be trimmed, and what each call and each stop leaves
-- of it.
use Rattle.std.specs.Prelude.{ℕ, ◌≡◌, ◌+◌, ◌-◌, ◌^◌, ◌≤◌, min, ◌⊎◌, Result, OnOk, OnErr, List, [], ◌++◌, length, take, drop}

-- the bytes in their order, and how many of them are synced
pub record Image : Type 0 where
  pub bytes : List ℕ
  pub synced : ℕ

-- what contracts see of a disk: its image, where its type tells it; how many bytes it has, and how many can be appended without memory;
-- how often it failed, which never falls; and how many calls it had that can fail: appends, syncs, cuts, trims and reads
pub record Seen : Type 0 where
  pub image : Image
  pub size : ℕ
  pub spare : ℕ
  pub faults : ℕ
  pub calls : ℕ

-- no byte
abbrev pub no_bytes : Image
no_bytes = record { bytes = []; synced = 0 }

-- at most all bytes are synced
abbrev pub IsSound : Image → Type 0
IsSound image = image.synced ≤ length image.bytes

-- a piece behind the others, not synced
abbrev pub appended : List ℕ → Image → Image
appended piece image = record { bytes = image.bytes ++ piece; synced = image.synced }

-- these bytes, all of them synced
abbrev pub synced_bytes : List ℕ → Image
synced_bytes bytes = record { bytes = bytes; synced = length bytes }

-- all bytes synced
abbrev pub all_synced : Image → Image
all_synced image = synced_bytes image.bytes

-- the first n bytes, all of them synced
abbrev pub cut_to : ℕ → Image → Image
cut_to n image = synced_bytes (take n image.bytes)

-- the bytes from this place on, which count from 0 now; the place is at most the synced length
abbrev pub trimmed_to : ℕ → Image → Image
trimmed_to place image = record { bytes = drop place image.bytes; synced = image.synced - place }

-- how many bytes a stop with this cut keeps: the synced ones and so many more
abbrev pub kept_bytes : ℕ → Image → ℕ
kept_bytes cut image = min (length image.bytes) (image.synced + cut)

-- what a stop leaves, all of it synced
abbrev pub stopped : ℕ → Image → Image
stopped cut image = cut_to (kept_bytes cut image) image

-- a failed append leaves the old bytes and some prefix of the piece, not synced
abbrev pub AppendsSome : List ℕ → Image → Image → Type 0
AppendsSome piece old new = (n : ℕ) × (n ≤ length piece) × (new ≡ appended (take n piece) old)

-- a failed sync changes no byte, and takes nothing back that was synced
pub record SyncsSome (old new : Image) : Type 0 where
  pub bytes : new.bytes ≡ old.bytes
  pub synced : old.synced ≤ new.synced

-- a failed cut has cut, or has changed nothing
abbrev pub CutsOrNot : ℕ → Image → Image → Type 0
CutsOrNot n old new = (new ≡ cut_to n old) ⊎ (new ≡ old)

-- what a stop may leave of the bytes: every prefix that has at least the synced ones
abbrev pub MayLeave : Image → List ℕ → Type 0
MayLeave image left = (n : ℕ) × (image.synced ≤ n) × (n ≤ length image.bytes) × (left ≡ take n image.bytes)

-- the bytes from this place on
abbrev pub bytes_at : (place count : ℕ) → Image → List ℕ
bytes_at place count image = take count (drop place image.bytes)

-- ---- counts of calls

-- a count is kept in 64 bits, and stays at its last value
abbrev pub in_64_bits : ℕ → ℕ
in_64_bits count = min count (2 ^ 64 - 1)

-- one call more
abbrev pub one_more : ℕ → ℕ
one_more count = in_64_bits (count + 1)

-- so many calls that can fail were made, as far as 64 bits count
abbrev pub HasCalled : ℕ → Seen → Seen → Type 0
HasCalled n old new = in_64_bits new.calls ≡ in_64_bits (old.calls + n)

-- at most so many
abbrev pub HasCalledAtMost : ℕ → Seen → Seen → Type 0
HasCalledAtMost n old new = in_64_bits new.calls ≤ in_64_bits (old.calls + n)

-- so many where all went well, and at most so many where it didn't
pub record TakesCalls {T E : Type 0} (n : ℕ) (old new : Seen) (outcome : Result T E) : Type 0 where
  pub done : OnOk outcome (HasCalled n old new)
  pub failed : OnErr outcome (HasCalledAtMost n old new)

-- how often a disk of so many bytes is read: once, and an empty one isn't
abbrev pub reads : ℕ → ℕ
reads size = min 1 size
