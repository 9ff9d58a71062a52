-- What callers cite of what is on the disk of an actor.
pub use Rattle.held_disks.proofs.NotFound.{before_not_found, coord_not_found, site_not_found, stopped_not_found, within_not_found}
pub use Rattle.held_disks.proofs.Stores.{coord_holds, site_holds}
