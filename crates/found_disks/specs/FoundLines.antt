-- With how many lines a session begins at its sites that goes on from disks that are read.
use Rattle.std.specs.Prelude.{ℕ, ◌≡◌, ◌≤◌, ◌<◌, ◌^◌, Some, None, List, length, slice_get}
use Rattle.fed_rules.specs.Story.{found_sites}
use Rattle.journal_disk.specs.Disk.{Image}
use Rattle.found_disks.specs.declared.reading.Journals.{Journals}
use Rattle.found_disks.specs.Finding.{NamesOf, found_in}
use Rattle.found_disks.specs.Reading.{AreRead}

-- no disk has more bytes than so many
abbrev pub AreShort : ℕ → List Image → Type 0
AreShort most images = (number : ℕ) (image : Image) → slice_get images number ≡ Some image → length image.bytes ≤ most

-- there are fewer than 2^27 where no disk has more than 67,108,864 bytes
abbrev pub FoundSessionsBeginShortly : Type 0
FoundSessionsBeginShortly =
    (images : List Image) (journals : Journals) → AreRead images journals → NamesOf journals None → AreShort (2 ^ 26) images
    → length (found_sites (found_in images journals).sites) < 2 ^ 27
