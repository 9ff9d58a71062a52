use Rattle.std.proofs.Common.{◌++◌, ◌∙◌, ap}
use Rattle.report_text.specs.Spelling.{line_bytes, order_words, reads_words}
use Rattle.report_text.proofs.Joining.{lines_bytes, in_three_parts}
use Rattle.report_text.proofs.report_text.Goals as goal

pub returns : goal.returns
returns c =
    in_three_parts c.args.report.now _ _ _ _ c.new-text.ensures.items
    (c.in_ok-put_order.ensures ∙ ap (λ order. c.new-text.result.items ++ line_bytes (order_words order)) c.as_slice.ensures)
    (c.in_ok-put_all_reads.ensures ∙ ap (λ reads. c.put_order.new.out.items ++ lines_bytes reads_words reads) c.as_slice-2.ensures)
    c.in_ok-put_rest.ensures
