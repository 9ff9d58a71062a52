use Rattle.usable_journals.proofs.OnceLaws.{prepares}
use Rattle.usable_journals.proofs.site_once.Once.prepare.Goals as goal

pub returns : goal.returns
returns c epoch number ticket writes =
    prepares c.args.self.now c.insert-2.new.self c.insert.new.self c.args.tid epoch number ticket writes c.in_ok-insert-2.field-0 c.in_ok-insert-2.ensures.added
    c.in_ok-insert.ensures.updates.0 c.in_ok-insert-2.ensures.updates.0
