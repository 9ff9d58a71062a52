use Rattle.std.proofs.Common.{◌++◌, ◌∙◌, ap, codes, decimal, map}
use Rattle.mdb_base.specs.Texts.{tid_text}
use Rattle.report_text.specs.Spelling.{spaced}
use Rattle.report_text.proofs.Joining.{in_four}
use Rattle.report_text.proofs.lines.put_reads.Goals as goal

pub returns : goal.returns
returns c =
    let values = c.in_ok-put_values.ensures ∙ ap (λ values. c.put_next_tid.new.out.items ++ spaced (map decimal values)) c.as_slice.ensures in
    in_four _ _ _ _ _ _ (codes "reads") (tid_text c.args.reads.now.tid) (map decimal c.args.reads.now.values) c.in_ok-put_text.ensures.ok c.in_ok-put_next_tid.ensures values c.put_text-2.ensures.ok
