-- What a call leaves in the file that a journal lies in.
use Rattle.std.specs.Prelude.{ℕ, ◌≡◌, min, length, take}
use Rattle.journal_disk.specs.Disk.{Image}

-- this byte is the one behind the last
abbrev pub IsEnd : ℕ → Image → Type 0
IsEnd place image = place ≡ length image.bytes

-- the first n bytes, as far synced as they were
abbrev pub shortened : ℕ → Image → Image
shortened n image = record { bytes = take n image.bytes; synced = min n image.synced }
