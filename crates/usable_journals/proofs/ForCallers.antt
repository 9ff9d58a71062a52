-- What callers cite of whether a session may go on from the journals on its disks.
pub use Rattle.usable_journals.proofs.Recording.{read_first}
pub use Rattle.usable_journals.proofs.SiteReflected.{first_is, split}
