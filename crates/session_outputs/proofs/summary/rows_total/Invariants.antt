use Rattle.std.proofs.Common.{◌≡◌, ◌%◌, ◌^◌, take}
use Rattle.report_text.specs.Summaries.{rows_total}
use Rattle.session_outputs.proofs.summary.rows_total.Given as goal

abbrev pub invariant-loop-row : goal.invariant-loop-row
invariant-loop-row l = l.total ≡ rows_total (take l.row-index l.rows) % 2 ^ 64
