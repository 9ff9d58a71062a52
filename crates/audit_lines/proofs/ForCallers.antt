-- What callers cite of printed lines that are compared with the due ones.
pub use Rattle.audit_lines.proofs.Refusals.{may_is, names_up, names_yes, stands_open, taken}
pub use Rattle.audit_lines.proofs.WrongEdges.{TellsOf, tells_wrong}
