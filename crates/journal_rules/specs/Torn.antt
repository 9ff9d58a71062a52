-- What stands behind the last whole frame: the first bytes of the very frame that a stop cut.
use Rattle.std.specs.Prelude.{ℕ, ◌≡◌, ◌-◌, ◌<◌, Option, Some, None, List, [], ◌++◌, length, drop}
use Rattle.fed_rules.specs.Disk.{Disk, bytes_of}
use Rattle.journal_disk.specs.Disk.{Image}
use Rattle.journal_disk.specs.Frames.{frame}

-- a proper prefix of these bytes; no byte at all is one
pub record IsPartOf (whole part : List ℕ) : Type 0 where
  pub lacking : List ℕ
  pub lacks_some : 0 < length lacking
  pub parts : part ++ lacking ≡ whole

-- the rest is part of the frame of the lost record, if that can be written, and where none was lost there is no rest. A rest that was found
-- is taken for that of a record which can't be written, so of what it is a part isn't said
abbrev pub IsRestOf : {R : Type 0} → (R → List ℕ) → (R → Type 0) → Option R → List ℕ → Type 0
IsRestOf spelling is_record None rest = rest ≡ []
IsRestOf spelling is_record (Some lost) rest = is_record lost → IsPartOf (frame (spelling lost)) rest

-- each record can
abbrev pub AnyRecord : {R : Type 0} → R → Type 0
AnyRecord entry = Unit {0}

-- the bytes behind the last whole frame
abbrev pub rest_of : {R : Type 0} → (R → ℕ) → Disk R → Image → List ℕ
rest_of size disk image = drop (bytes_of size disk.records - disk.trimmed) image.bytes

-- what stands there is part of the frame that a stop cut, as the rules say
abbrev pub IsTornBy : {R : Type 0} → (R → List ℕ) → (R → Type 0) → (R → ℕ) → Image → Disk R → Type 0
IsTornBy spelling is_record size image disk = IsRestOf spelling is_record disk.lost (rest_of size disk image)
