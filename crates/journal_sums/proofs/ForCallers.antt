-- What callers cite of what a journal says, read in one pass.
pub use Rattle.journal_sums.proofs.CoordReadingLaws.{commits_at_once}
pub use Rattle.journal_sums.proofs.DifferLaws.{apart_once}
pub use Rattle.journal_sums.proofs.DoubtLaws.{are_doubts}
pub use Rattle.journal_sums.proofs.ReadingLaws.{journal_from}
