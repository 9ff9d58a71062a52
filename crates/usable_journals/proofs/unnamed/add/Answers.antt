use Rattle.usable_journals.proofs.NamedLaws.{adds_one}
use Rattle.usable_journals.proofs.unnamed.add.Goals as goal

pub returns : goal.returns
returns c = adds_one c.args.names.now c.insert.new.self c.args.tid c.in_ok-insert.ensures.updates.0
