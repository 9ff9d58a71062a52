-- What callers cite of what is read of the journals on all disks.
pub use Rattle.sum_laws.proofs.ReadAs.{coordinators_read, sites_read, some_coord_frame, some_site_frame}
