use Rattle.usable_journals.proofs.Readings.{reads_end}
use Rattle.usable_journals.proofs.coord_sums.Reading.end.Goals as goal

pub returns : goal.returns
returns c protocols = reads_end protocols c.args.self.now c.remove.new.self c.args.tid c.remove.ensures.updates.0
