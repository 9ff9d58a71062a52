-- What callers cite of rings with a script of fates.
pub use Rattle.scripted_link.proofs.Made.{MadeTo, named, skipped}
pub use Rattle.scripted_link.proofs.Scripts.{see_places_alone, were_offered}
pub use Rattle.scripted_link.proofs.Waiting.{moved_same, moves_on, unoffered_moved}
