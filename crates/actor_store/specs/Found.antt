-- A journal that is found on a disk.
use Rattle.std.specs.Prelude.{ℕ, ◌≡◌, ◌+◌, List, length, reverse}
use Rattle.std.specs.List.{AllByRecursion}
use Rattle.fed_rules.specs.Found.{Journal}
use Rattle.journal_disk.specs.Disk.{Image}
use Rattle.frame_journal.specs.Records.{Entry, AreRecordsOf, entry_frame, spelled_size, values}

-- the journal's records stand in the bytes, in frames of either version, and its torn rest behind them; each is one of the format, and all is synced
pub record IsFoundIn {R : Type 0} (spelling : R → List ℕ) (is_record : R → Type 0) (image : Image) (journal : Journal R) : Type 0 where
  pub entries : List (Entry R)
  pub whole : AreRecordsOf (entry_frame spelling) image.bytes entries
  pub are : values entries ≡ reverse journal.records
  pub long : length image.bytes ≡ spelled_size (entry_frame spelling) entries + journal.torn
  pub synced : image.synced ≡ length image.bytes
  pub in_range : AllByRecursion is_record journal.records
