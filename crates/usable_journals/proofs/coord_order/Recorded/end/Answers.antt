use Rattle.usable_journals.proofs.Recording.{ends}
use Rattle.usable_journals.proofs.coord_order.Recorded.end.Goals as goal

pub returns : goal.returns
returns c =
    ends c.args.self.now c.insert.new.self c.insert-2.new.self c.insert-3.new.self c.args.tid c.in_ok-insert-3.field-0 c.in_ok-insert-3.ensures.added
    c.in_ok-insert.ensures.updates.0 c.in_ok-insert-2.ensures.updates.0 c.in_ok-insert-3.ensures.updates.0
