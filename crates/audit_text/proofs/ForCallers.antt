-- What callers cite of printed runs as text.
pub use Rattle.audit_text.proofs.Parts.{no_lines, nothing}
