-- What callers cite of a session that goes on from what another one left.
pub use Rattle.resume_laws.proofs.FoundRests.{lives_on}
pub use Rattle.resume_laws.proofs.GoesOn.{same_plan}
pub use Rattle.resume_laws.proofs.Readable.{disks_readable}
