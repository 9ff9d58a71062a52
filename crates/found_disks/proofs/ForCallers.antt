-- What callers cite of the disks that are read.
pub use Rattle.found_disks.proofs.BytesThere.{bytes_there}
pub use Rattle.found_disks.proofs.InRange.{found_range}
pub use Rattle.found_disks.proofs.OneAnswer.{usable_or_foreign}
pub use Rattle.found_disks.proofs.Puts.{put_calm, put_rose, same_images, same_length}
pub use Rattle.found_disks.proofs.Readings.{told_later}
pub use Rattle.found_disks.proofs.UsableFinds.{first_reversed, members_are}
