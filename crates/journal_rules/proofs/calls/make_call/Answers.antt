use Rattle.journal_rules.proofs.Making.{cut_follows, done, stop_follows}
use Rattle.journal_rules.proofs.calls.make_call.Goals as goal

pub returns-in-Cut-clause-follows : goal.returns-in-Cut-clause-follows
returns-in-Cut-clause-follows g c = λ told none.
    let old = g.D.Disk.seen c.args.disk.now in
    let new = g.D.Disk.seen c.cut.new.disk in
    let image = done old.faults new.faults c.cut.result c.cut.ensures.cause none c.cut.ensures.ok told in
    rw c.in-Cut.is (cut_follows g.F.Format.spelling g.F.Format.is_record g.F.Format.frame_bytes g.met.F.Format.counts_frames g.D.Disk.tells old c.args.journal.now told (g.met.D.Disk.told_size c.args.disk.now told) c.requires.kept_on new image c.cut.ensures.called)

pub returns-in-Stop-clause-follows : goal.returns-in-Stop-clause-follows
returns-in-Stop-clause-follows g c = λ told none.
    let old = g.D.Disk.seen c.args.disk.now in
    let new = g.D.Disk.seen c.stop.new.disk in
    rw c.in-Stop.is (stop_follows g.F.Format.spelling g.F.Format.is_record g.F.Format.frame_bytes g.met.F.Format.counts_frames old new c.in-Stop.cut (c.stop.ensures.image told) c.stop.ensures.called)
