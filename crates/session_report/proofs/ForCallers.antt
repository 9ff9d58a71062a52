-- What callers cite of what a finished session reports.
pub use Rattle.session_report.proofs.LineForms.{IsUnmarked}
pub use Rattle.session_report.proofs.LineMarks.{line_marks_one, marked_first, marked_line}
pub use Rattle.session_report.proofs.MarkedDisks.{IsMarked}
pub use Rattle.session_report.proofs.OutcomesTold.{decision_is}
