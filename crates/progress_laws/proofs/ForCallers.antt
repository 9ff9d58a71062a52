-- What callers cite of what progress is possible.
pub use Rattle.progress_laws.proofs.BegunNone.{closing_begins_nothing, keeps_all}
