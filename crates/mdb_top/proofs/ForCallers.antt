-- What callers cite of the top call.
pub use Rattle.mdb_top.proofs.Asking.{nothing_resumes}
