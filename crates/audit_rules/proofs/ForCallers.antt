-- What callers cite of when a printed run agrees with its scenario.
pub use Rattle.audit_rules.proofs.AnswersAlike.{answers_alike}
pub use Rattle.audit_rules.proofs.EachMerge.{audited}
pub use Rattle.audit_rules.proofs.Endings.{merge_means, merge_passes, rest_means, rest_passes}
pub use Rattle.audit_rules.proofs.NextLine.{compared_alike}
