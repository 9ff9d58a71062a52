use Rattle.usable_journals.proofs.PartedLaws.{adds_global}
use Rattle.usable_journals.proofs.parted.Parted.global.Goals as goal

pub returns : goal.returns
returns c = adds_global c.args.self.now c.insert.new.self c.args.tid c.in_ok-insert.ensures.updates.0
