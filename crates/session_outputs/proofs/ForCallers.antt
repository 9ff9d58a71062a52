-- What callers cite of what a command prints of its session.
pub use Rattle.session_outputs.proofs.UsedDisks.{are_empty}
