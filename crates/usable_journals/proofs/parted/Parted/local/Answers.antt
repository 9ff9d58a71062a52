use Rattle.usable_journals.proofs.PartedLaws.{adds_local}
use Rattle.usable_journals.proofs.parted.Parted.local.Goals as goal

pub returns : goal.returns
returns c = adds_local c.args.self.now c.insert.new.self c.args.tid c.in_ok-insert.ensures.updates.0
