use Rattle.mdb_base.proofs.ForCallers.{is_true_parts}
use Rattle.line_text.specs.Fits.{line_fits}
use Rattle.line_text.specs.Range.{line_in_range}
use Rattle.text_tests.proofs.lines.reads_and_prints.Goals as goal

pub print_line-requires : goal.print_line-requires
print_line-requires g c = (is_true_parts (line_fits c.in_ok-line.line) (line_in_range c.in_ok-line.line) c.in_ok-line.ensures.found.0).0
