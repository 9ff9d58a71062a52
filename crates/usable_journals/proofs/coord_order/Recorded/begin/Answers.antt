use Rattle.usable_journals.proofs.Recording.{begun}
use Rattle.usable_journals.proofs.coord_order.Recorded.begin.Goals as goal

pub returns : goal.returns
returns c participants =
    begun c.args.self.now c.insert.new.self c.args.tid participants c.in_ok-insert.field-0 c.in_ok-insert.ensures.added c.in_ok-insert.ensures.updates.0
