use Rattle.std.proofs.Common.{codes, map}
use Rattle.mdb_base.specs.Texts.{tid_text}
use Rattle.report_text.proofs.Joining.{in_three}
use Rattle.report_text.proofs.lines.put_order.Goals as goal

pub returns : goal.returns
returns c = in_three _ _ _ _ _ (codes "order") (map tid_text c.args.order.now) c.in_ok-put_text.ensures.ok c.in_ok-put_tids.ensures c.put_text-2.ensures.ok
