use Rattle.std.proofs.Common.{◌++◌, ◌∙◌, ap}
use Rattle.fed_rules.specs.Sessions.{fresh}
use Rattle.report_text.specs.Spelling.{report_bytes}
use Rattle.line_text.specs.Spelling.{lines_bytes}
use Rattle.session_outputs.proofs.PlayLemmas.{lines_fit}
use Rattle.session_outputs.proofs.output.printed.Goals as goal

pub put_lines-requires : goal.put_lines-requires
put_lines-requires c =
    let r = c.requires in
    lines_fit c.right_lines_fit.ensures r.session r.commands c.lines.result.now r.holds.whole r.holds.heard (c.lines.ensures.fresh r.session r.commands r.stood.has)

pub report-requires : goal.report-requires
report-requires c = let r = c.requires in record { session = fresh r.session; commands = r.commands; stood = r.stood; holds = r.holds.rests }

pub returns : goal.returns
returns c scenario commands r = record {
  lines = c.lines.result.now;
  lines_are = c.lines.ensures.fresh scenario commands r.has;
  text_is = c.in_ok-print_report.ensures.ok
      ∙ (ap (λ bytes. bytes ++ report_bytes c.in_ok-report.report) (c.in_ok-put_lines.ensures ∙ ap (λ bytes. bytes ++ lines_bytes c.lines.result.now) c.new-out.ensures.items)
      ∙ ap (λ report. lines_bytes c.lines.result.now ++ report_bytes report) (c.in_ok-report.ensures.fresh scenario commands r));
}
