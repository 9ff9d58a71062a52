use Rattle.actor_store.specs.Store.{stored}
use Rattle.std.proofs.Common.{ap}
use Rattle.fed_rules.specs.Disk.{CutBack, after_call}
use Rattle.actor_store.specs.Store.{KeepsBehind}
use Rattle.actor_store.proofs.EndsLaws.{counts_end}
use Rattle.actor_store.proofs.BehindLaws.{cut_fails, cut_keeps}
use Rattle.journal_disk.proofs.ForCallers.{calls_before}
use Rattle.actor_store.proofs.store.Store.cut_torn.Goals as goal

pub counted-requires-clause-kept : goal.counted-requires-clause-kept
counted-requires-clause-kept g c =
    let (old, (rules, trip, k)) = c.requires.kept in (
      old,
      (
        after_call g.F.Format.frame_bytes rules CutBack,
        trip,
        cut_keeps g.F.Format.spelling g.F.Format.reading g.F.Format.is_record g.F.Format.frame_bytes g.met.F.Format.counts_frames g.met.F.Format.spelled_is_read g.D.Disk.tells c.requires.told (g.D.Disk.seen c.args.disk.now) (g.D.Disk.seen c.cut.new.disk) (stored c.args.self.now) c.cut.new.self old rules trip k c.cut.ensures.kept_on (ap (λ j. j.entries) c.cut.ensures.journal) c.in-Ok.ensures.torn c.in-Ok.ensures.ok,
      ),
    )

pub returns-in-Ok-clause-ends : goal.returns-in-Ok-clause-ends
returns-in-Ok-clause-ends g c = λ old rules trip k.
    counts_end g.F.Format.frame_bytes (KeepsBehind g.F.Format.spelling g.F.Format.is_record g.F.Format.frame_bytes g.D.Disk.tells (g.D.Disk.seen c.counted.new.disk) (stored c.counted.new.self) old) rules trip CutBack c.counted.result
    (c.counted.ensures.ends old (after_call g.F.Format.frame_bytes rules CutBack) trip
    (cut_keeps g.F.Format.spelling g.F.Format.reading g.F.Format.is_record g.F.Format.frame_bytes g.met.F.Format.counts_frames g.met.F.Format.spelled_is_read g.D.Disk.tells c.requires.told (g.D.Disk.seen c.args.disk.now) (g.D.Disk.seen c.cut.new.disk) (stored c.args.self.now) c.cut.new.self old rules trip k c.cut.ensures.kept_on (ap (λ j. j.entries) c.cut.ensures.journal) c.in-Ok.ensures.torn c.in-Ok.ensures.ok))

pub returns-in-Err-clause-ends : goal.returns-in-Err-clause-ends
returns-in-Err-clause-ends g c = λ old rules trip k.
    cut_fails g.F.Format.spelling g.F.Format.reading g.F.Format.is_record g.F.Format.frame_bytes g.met.F.Format.counts_frames g.met.F.Format.spelled_is_read g.D.Disk.tells c.requires.told (g.D.Disk.seen c.args.disk.now) (g.D.Disk.seen c.cut.new.disk) (stored c.args.self.now) c.cut.new.self old rules trip k c.requires.stopped c.cut.ensures.kept_on (ap (λ j. j.entries) c.cut.ensures.journal) c.in-Err.ensures.err

pub returns-in-Ok-clause-called : goal.returns-in-Ok-clause-called
returns-in-Ok-clause-called g c =
    let seen = g.D.Disk.seen in
    calls_before 1 (seen c.args.disk.now) (seen c.cut.new.disk) (seen c.counted.new.disk) c.cut.ensures.called c.counted.ensures.called
