-- The line of a summary.
use Rattle.std.specs.Prelude.{ℕ, List}
use Rattle.report_text.specs.Summaries.{summary_line}
use Rattle.session_outputs.specs.declared.summary.Summary.{Summary}

abbrev pub line_of : Summary → List ℕ
line_of summary = summary_line summary.sites summary.globals summary.locals summary.committed summary.total
