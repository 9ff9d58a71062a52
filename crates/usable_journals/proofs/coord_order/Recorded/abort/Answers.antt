use Rattle.usable_journals.proofs.Recording.{aborted}
use Rattle.usable_journals.proofs.coord_order.Recorded.abort.Goals as goal

pub returns : goal.returns
returns c participants =
    aborted c.args.self.now c.insert.new.self c.insert-2.new.self c.args.tid participants c.in_ok-insert-2.field-0 c.in_ok-insert-2.ensures.added
    c.in_ok-insert.ensures.updates.0 c.in_ok-insert-2.ensures.updates.0
