use Rattle.actor_store.specs.Store.{stored}
use Rattle.actor_store.proofs.EndsLaws.{room_same}
use Rattle.actor_store.proofs.BehindLaws.{reserve_keeps}
use Rattle.actor_store.proofs.store.Store.make_room.Goals as goal

pub returns-clause-keeps : goal.returns-clause-keeps
returns-clause-keeps g c = λ old rules trip k.
    let same = room_same g.F.Format.frame_bytes c.args.self.now.journal c.make_room.new.self c.args.places c.args.bytes c.make_room.result c.make_room.ensures.ok c.make_room.ensures.err in
    reserve_keeps g.F.Format.spelling g.F.Format.reading g.F.Format.is_record g.F.Format.frame_bytes g.met.F.Format.counts_frames g.met.F.Format.spelled_is_read g.D.Disk.tells c.requires.told (g.D.Disk.seen c.args.disk.now) (g.D.Disk.seen c.make_room.new.disk) (stored c.args.self.now) c.make_room.new.self old rules trip k c.make_room.ensures.kept_on same.0 same.1 c.make_room.ensures.image
