-- What callers cite of what every actor leaves on its disk.
pub use Rattle.disk_laws.proofs.AllRules.{usable_coordinators, usable_disks, usable_sites}
pub use Rattle.disk_laws.proofs.Apart.{locals_not_named}
pub use Rattle.disk_laws.proofs.CoordFormat.{HasRisingMembers, leave_members, opened_rising}
pub use Rattle.disk_laws.proofs.CoordLeft.{IsNaming, committed_names, opened_names}
pub use Rattle.disk_laws.proofs.CoordLists.{is_of_open}
pub use Rattle.disk_laws.proofs.CoordOrder.{past_ended}
pub use Rattle.disk_laws.proofs.CoordRead.{fewer_cycles, once_front, read_acyclic, read_once, sum_stands}
pub use Rattle.disk_laws.proofs.Named.{older_fit, read_first, sum_names}
pub use Rattle.disk_laws.proofs.ReadRecords.{BehindSum, Commits, committed_from, open_from}
pub use Rattle.disk_laws.proofs.Rises.{rise_inserted}
pub use Rattle.disk_laws.proofs.SiteBounds.{AreBelow, epoch_below, pasts_below}
pub use Rattle.disk_laws.proofs.SiteDrawers.{IsApartFrom, TellApart, doubt_numbers, pasts_apart}
pub use Rattle.disk_laws.proofs.SiteFormat.{HasFormat, pasts_format, sum_rises, sum_told}
pub use Rattle.disk_laws.proofs.SiteLeft.{AreHeld, counts, first_founded, first_is, held_of, marked, none_counts, owner_counts, owner_is, within}
pub use Rattle.disk_laws.proofs.SiteLists.{others, owned}
pub use Rattle.disk_laws.proofs.SiteOnce.{OneOfTx, once_carried, one_inserted}
pub use Rattle.disk_laws.proofs.SiteRead.{Behind, Counts, Whole, counts_as, doubts_read, installs_read}
pub use Rattle.disk_laws.proofs.SiteWritten.{epoch_read}
