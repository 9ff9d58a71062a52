use Rattle.actor_store.specs.Store.{stored}
use Rattle.actor_store.proofs.BehindLaws.{stop_keeps}
use Rattle.actor_store.proofs.store.Store.stop.Goals as goal

pub returns-clause-stops : goal.returns-clause-stops
returns-clause-stops g c = λ old rules trip k.
    stop_keeps g.F.Format.spelling g.F.Format.reading g.F.Format.is_record g.F.Format.frame_bytes g.met.F.Format.counts_frames g.met.F.Format.spelled_is_read g.D.Disk.tells c.requires.told (g.D.Disk.seen c.args.disk.now) (g.D.Disk.seen c.stop.new.disk) (stored c.args.self.now) c.stop.new.self old rules trip c.args.cut c.stop.result
    k c.requires.sound c.stop.ensures.kept_on c.stop.ensures.count c.stop.ensures.are_records c.stop.ensures.entries c.stop.ensures.image c.stop.ensures.size
