use Rattle.std.proofs.Common.{◌∷◌, ◌++◌, ◌∙◌, ap, codes, decimal, map}
use Rattle.report_text.specs.Spelling.{row_text, spaced}
use Rattle.report_text.proofs.Joining.{in_four}
use Rattle.report_text.proofs.lines.put_table.Goals as goal

pub returns : goal.returns
returns c =
    let site = c.in_ok-put_next_number.ensures ∙ ap (λ n. c.put_text.new.out.items ++ 32 ∷ decimal n) c.from.ensures in
    let rows = c.in_ok-put_rows.ensures ∙ ap (λ rows. c.put_next_number.new.out.items ++ spaced (map row_text rows)) c.as_slice.ensures.items in
    in_four _ _ _ _ _ _ (codes "table") (decimal c.args.table.now.site.0) (map row_text c.args.table.now.rows) c.in_ok-put_text.ensures.ok site rows c.put_text-2.ensures.ok
