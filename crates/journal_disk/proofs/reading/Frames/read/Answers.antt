use Rattle.std.proofs.Common.{rules}
use Rattle.journal_disk.specs.Frames.{AreWhole}
use Rattle.journal_disk.proofs.Whole.{no_other}
use Rattle.journal_disk.proofs.reading.Frames.read.Goals as goal

pub returns-clause-never_missed : goal.returns-clause-never_missed
returns-clause-never_missed g c = λ told at damaged.
    let bytes = (g.D.Disk.seen c.args.disk.now).image.bytes in
    let whole : AreWhole bytes c.in_ok-frames.frames = search rules in
    no_other bytes c.in_ok-frames.frames damaged.0 whole damaged.1
