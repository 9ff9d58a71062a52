-- What callers cite of fields as bytes.
pub use Rattle.field_bytes.proofs.Laws.{decision_again, decision_takes, tid_again, tid_takes}
pub use Rattle.field_bytes.proofs.Steps.{bind_some, number_then, takes_both, tested_some}
