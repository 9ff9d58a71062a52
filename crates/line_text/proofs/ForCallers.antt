-- What callers cite of lines as text.
pub use Rattle.line_text.proofs.Written.{line_parts, spaced_both}
