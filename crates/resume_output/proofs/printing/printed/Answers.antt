use Rattle.std.proofs.Common.{◌++◌, ◌∙◌, ap}
use Rattle.report_text.specs.Spelling.{rest_bytes}
use Rattle.line_text.specs.Spelling.{lines_bytes}
use Rattle.resume_output.proofs.Resumed.{found_reported}
use Rattle.resume_output.proofs.printing.printed.Goals as goal

pub report-requires : goal.report-requires
report-requires c = let r = c.requires.stood in record { session = r.session; commands = r.commands; stood = r.stood; holds = r.holds.rests }

pub returns : goal.returns
returns c session commands r resumed = record {
  lines = c.lines.result.now;
  lines_are = c.lines.ensures.right session commands r.has;
  text_is = c.in_ok-put_rest.ensures
      ∙ (ap (λ bytes. bytes ++ rest_bytes c.in_ok-report.report) (c.in_ok-put_lines.ensures ∙ ap (λ bytes. bytes ++ lines_bytes c.lines.result.now) c.new-out.ensures.items)
      ∙ ap (λ report. lines_bytes c.lines.result.now ++ rest_bytes report) (c.in_ok-report.ensures.reported session commands r resumed.rests ∙ found_reported session commands resumed.goes_on));
}
