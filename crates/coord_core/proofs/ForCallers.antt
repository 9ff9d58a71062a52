-- What callers cite of the core of the coordinator.
pub use Rattle.coord_core.proofs.Endings.{passes_is, trip_line, usual_line}
pub use Rattle.coord_core.proofs.FoundPasts.{made_not_found, next_not_found}
pub use Rattle.coord_core.proofs.Made.{made_cause, made_err, made_ok}
pub use Rattle.coord_core.proofs.Opened.{is_opened}
