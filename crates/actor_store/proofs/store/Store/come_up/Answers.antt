use Rattle.actor_store.specs.Store.{stored}
use Rattle.std.proofs.Common.{ℕ, ap, refl, subst, sym}
use Rattle.actor_store.proofs.BehindLaws.{ends_at_once, open_fails, opens, opens_synced}
use Rattle.journal_disk.specs.Disk.{HasCalled}
use Rattle.journal_disk.proofs.ForCallers.{no_call}
use Rattle.actor_store.proofs.CalledLaws.{down_calls, failed_calls}
use Rattle.actor_store.proofs.store.Store.come_up.Goals as goal

pub returns-in-Down-clause-ends : goal.returns-in-Down-clause-ends
returns-in-Down-clause-ends g c = λ old rules trip k.
    ends_at_once g.F.Format.spelling g.F.Format.reading g.F.Format.is_record g.F.Format.frame_bytes g.met.F.Format.counts_frames g.met.F.Format.spelled_is_read g.D.Disk.tells c.requires.told (g.D.Disk.seen c.args.disk.now) _ old rules trip
    (opens g.F.Format.spelling g.F.Format.reading g.F.Format.is_record g.F.Format.frame_bytes g.met.F.Format.counts_frames g.met.F.Format.spelled_is_read g.D.Disk.tells c.requires.told (g.D.Disk.seen c.args.disk.now) (stored c.args.self.now) old rules trip k c.in-Down.is c.requires.whole)

pub returns-in-Ok-clause-ends : goal.returns-in-Ok-clause-ends
returns-in-Ok-clause-ends g c = λ old rules trip k.
    ends_at_once g.F.Format.spelling g.F.Format.reading g.F.Format.is_record g.F.Format.frame_bytes g.met.F.Format.counts_frames g.met.F.Format.spelled_is_read g.D.Disk.tells c.requires.told (g.D.Disk.seen c.cut.new.disk) _ old rules trip
    (opens_synced g.F.Format.spelling g.F.Format.reading g.F.Format.is_record g.F.Format.frame_bytes g.met.F.Format.counts_frames g.met.F.Format.spelled_is_read g.D.Disk.tells c.requires.told (g.D.Disk.seen c.args.disk.now) (g.D.Disk.seen c.cut.new.disk) (stored c.args.self.now) c.cut.new.self old rules trip (g.met.D.Disk.told_size c.args.disk.now c.requires.told) k c.requires.stopped c.requires.whole c.cut.ensures.kept_on (ap (λ j. j.entries) c.cut.ensures.journal) c.in-Ok.ensures.torn c.in-Ok.ensures.ok)

pub returns-in-Err-clause-ends : goal.returns-in-Err-clause-ends
returns-in-Err-clause-ends g c = λ old rules trip k.
    open_fails g.F.Format.spelling g.F.Format.reading g.F.Format.is_record g.F.Format.frame_bytes g.met.F.Format.counts_frames g.met.F.Format.spelled_is_read g.D.Disk.tells c.requires.told (g.D.Disk.seen c.args.disk.now) (g.D.Disk.seen c.cut.new.disk) (stored c.args.self.now) c.cut.new.self old rules trip (g.met.D.Disk.told_size c.args.disk.now c.requires.told) k c.requires.stopped c.requires.whole c.cut.ensures.kept_on (ap (λ j. j.entries) c.cut.ensures.journal) c.in-Err.ensures.err

pub returns-in-Down-clause-called : goal.returns-in-Down-clause-called
returns-in-Down-clause-called g c =
    let seen = g.D.Disk.seen c.args.disk.now in
    let P : ℕ → Type 0 = λ n. HasCalled n seen seen in
    subst P (sym (down_calls (stored c.args.self.now) c.requires.whole c.in-Down.is)) (no_call seen seen refl)

pub returns-in-Ok-clause-called : goal.returns-in-Ok-clause-called
returns-in-Ok-clause-called g c =
    let P : ℕ → Type 0 = λ n. HasCalled n (g.D.Disk.seen c.args.disk.now) (g.D.Disk.seen c.cut.new.disk) in
    subst P (sym (failed_calls (stored c.args.self.now) c.requires.whole c.requires.stopped c.in_default.not-Down)) c.cut.ensures.called

pub returns-in-Err-clause-called : goal.returns-in-Err-clause-called
returns-in-Err-clause-called g c =
    let P : ℕ → Type 0 = λ n. HasCalled n (g.D.Disk.seen c.args.disk.now) (g.D.Disk.seen c.cut.new.disk) in
    subst P (sym (failed_calls (stored c.args.self.now) c.requires.whole c.requires.stopped c.in_default.not-Down)) c.cut.ensures.called
