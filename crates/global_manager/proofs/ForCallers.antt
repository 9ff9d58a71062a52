-- What callers cite of the global transaction manager.
pub use Rattle.global_manager.proofs.Fit.{recalled}
