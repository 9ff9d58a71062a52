-- The bytes of a disk, of the image that stands there.
use Rattle.std.proofs.Common.{◌≡◌, ℕ, Some, List, slice_get, subst}
use Rattle.mdb_base.proofs.ForCallers.{slice_get-one}
use Rattle.journal_disk.specs.Disk.{Image}
use Rattle.found_disks.specs.Reading.{HasBytes}

-- what holds of the bytes of a disk, of the image that stands there
pub bytes_there : (images : List Image) (number : ℕ) (P : List ℕ → Type 0) → HasBytes images number P → (image : Image) → slice_get images number ≡ Some image → P image.bytes
bytes_there images number P has image at = subst (λ (z : Image). P z.bytes) (slice_get-one images number has.image image has.own at) has.holds
