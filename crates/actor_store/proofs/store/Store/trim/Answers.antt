use Rattle.fed_rules.specs.Disk.{TrimFront, after_call}
use Rattle.actor_store.specs.Store.{KeepsBehind, stored}
use Rattle.actor_store.proofs.EndsLaws.{counts_end}
use Rattle.actor_store.proofs.BehindLaws.{all_synced_there, trim_fails, trim_keeps}
use Rattle.journal_disk.proofs.ForCallers.{calls_before}
use Rattle.actor_store.proofs.store.Store.trim.Goals as goal

pub trim-requires-clause-synced : goal.trim-requires-clause-synced
trim-requires-clause-synced g c = λ told.
    let (old, (rules, trip, (k, synced, newer))) = c.requires.kept in
    all_synced_there g.F.Format.spelling g.F.Format.reading g.F.Format.is_record g.F.Format.frame_bytes g.met.F.Format.counts_frames g.met.F.Format.spelled_is_read g.D.Disk.tells c.requires.told (g.D.Disk.seen c.args.disk.now) (stored c.args.self.now) old rules trip (g.met.D.Disk.told_size c.args.disk.now c.requires.told) k c.requires.up synced

pub counted-requires-clause-kept : goal.counted-requires-clause-kept
counted-requires-clause-kept g c =
    let (old, (rules, trip, (k, synced, newer))) = c.requires.kept in (
      old,
      (
        after_call g.F.Format.frame_bytes rules TrimFront,
        trip,
        (trim_keeps g.F.Format.spelling g.F.Format.reading g.F.Format.is_record g.F.Format.frame_bytes g.met.F.Format.counts_frames g.met.F.Format.spelled_is_read g.D.Disk.tells c.requires.told g.F.Format.is_checkpoint (g.D.Disk.seen c.args.disk.now) (g.D.Disk.seen c.trim.new.disk) (stored c.args.self.now) c.trim.new.self old rules trip (g.met.D.Disk.told_size c.args.disk.now c.requires.told)
            k c.requires.up synced newer c.requires.checkpoint c.trim.ensures.kept_on c.in-Ok.ensures.ok c.in-Ok.ensures.image_ok),
      ),
    )

pub returns-in-Ok-clause-ends : goal.returns-in-Ok-clause-ends
returns-in-Ok-clause-ends g c = λ old rules trip k synced newer.
    counts_end g.F.Format.frame_bytes (KeepsBehind g.F.Format.spelling g.F.Format.is_record g.F.Format.frame_bytes g.D.Disk.tells (g.D.Disk.seen c.counted.new.disk) (stored c.counted.new.self) old) rules trip TrimFront c.counted.result
    (c.counted.ensures.ends old (after_call g.F.Format.frame_bytes rules TrimFront) trip (trim_keeps g.F.Format.spelling g.F.Format.reading g.F.Format.is_record g.F.Format.frame_bytes g.met.F.Format.counts_frames g.met.F.Format.spelled_is_read g.D.Disk.tells c.requires.told g.F.Format.is_checkpoint (g.D.Disk.seen c.args.disk.now) (g.D.Disk.seen c.trim.new.disk) (stored c.args.self.now) c.trim.new.self old rules trip (g.met.D.Disk.told_size c.args.disk.now c.requires.told)
    k c.requires.up synced newer c.requires.checkpoint c.trim.ensures.kept_on c.in-Ok.ensures.ok c.in-Ok.ensures.image_ok))

pub returns-in-Err-clause-ends : goal.returns-in-Err-clause-ends
returns-in-Err-clause-ends g c = λ old rules trip k synced newer.
    trim_fails g.F.Format.spelling g.F.Format.reading g.F.Format.is_record g.F.Format.frame_bytes g.met.F.Format.counts_frames g.met.F.Format.spelled_is_read g.D.Disk.tells c.requires.told (g.D.Disk.seen c.args.disk.now) (g.D.Disk.seen c.trim.new.disk) (stored c.args.self.now) c.trim.new.self old rules trip
    k c.requires.up synced c.trim.ensures.kept_on c.in-Err.ensures.err c.in-Err.ensures.image_err

pub returns-in-Ok-clause-called : goal.returns-in-Ok-clause-called
returns-in-Ok-clause-called g c =
    let seen = g.D.Disk.seen in
    calls_before 1 (seen c.args.disk.now) (seen c.trim.new.disk) (seen c.counted.new.disk) c.trim.ensures.called c.counted.ensures.called
