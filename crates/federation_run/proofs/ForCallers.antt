-- What callers cite of a scenario in threads.
pub use Rattle.federation_run.proofs.Places.{before_or_last}
