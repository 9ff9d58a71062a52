use Rattle.std.proofs.Common.{◌++◌, ◌∙◌, ap}
use Rattle.report_text.specs.Spelling.{line_bytes, outcome_words, forgotten_words, table_words}
use Rattle.report_text.proofs.Joining.{lines_bytes, in_four_parts}
use Rattle.report_text.proofs.put_rest.Goals as goal

pub returns : goal.returns
returns c =
    in_four_parts c.put_text.result c.args.report.now c.args.out.now.items _ _ _ _
    (c.in_ok-put_outcomes.ensures ∙ ap (λ outcomes. c.args.out.now.items ++ lines_bytes outcome_words outcomes) c.as_slice.ensures)
    (c.in_ok-put_forgotten.ensures ∙ ap (λ forgotten. c.put_outcomes.new.out.items ++ line_bytes (forgotten_words forgotten)) c.as_slice-2.ensures)
    (c.in_ok-put_tables.ensures ∙ ap (λ tables. c.put_forgotten.new.out.items ++ lines_bytes table_words tables) c.as_slice-3.ensures)
    c.put_text.ensures.ok
