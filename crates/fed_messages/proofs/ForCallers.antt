-- What callers cite of messages as bytes.
pub use Rattle.fed_messages.proofs.Again.{act_again, kind_again, vote_again}
pub use Rattle.fed_messages.proofs.ByKind.{found_then}
