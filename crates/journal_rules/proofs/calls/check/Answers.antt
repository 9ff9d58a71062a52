use Rattle.std.proofs.Common.{[], ◌∷◌, ◌++◌, ◌∙◌, ap, sym, arith}
use Rattle.fed_rules.specs.Disk.{Append, Sync, TrimFront}
use Rattle.frame_journal.proofs.ForCallers.{ends_with_last}
use Rattle.frame_journal.specs.Records.{as_written}
use Rattle.journal_disk.specs.Disk.{Image, all_synced, appended}
use Rattle.journal_disk.specs.Frames.{frame}
use Rattle.journal_disk.proofs.ForCallers.{calls_add, calls_behind}
use Rattle.journal_rules.specs.Calls.{NoneFailed}
use Rattle.journal_rules.proofs.Making.{check_follows, done, none_within, none_written}
use Rattle.journal_rules.proofs.calls.check.Goals as goal

pub trim-requires-clause-checkpoint : goal.trim-requires-clause-checkpoint
trim-requires-clause-checkpoint g c = rw c.in-Ok.ensures.ok (ends_with_last g.F.Format.is_checkpoint c.reserve.new.self.entries c.args.entry c.requires.checkpoint)

pub returns-then-is_torn-clause-follows : goal.returns-then-is_torn-clause-follows
returns-then-is_torn-clause-follows g c = λ told none disk is.
    none_written g.F.Format.spelling g.F.Format.is_record g.F.Format.frame_bytes g.met.F.Format.counts_frames g.D.Disk.tells (g.D.Disk.seen c.args.disk.now) c.args.journal.now told (g.met.D.Disk.told_size c.args.disk.now told) c.requires.kept_on
    disk (Append c.args.entry ∷ Sync ∷ TrimFront ∷ []) (sym c.is_torn.ensures ∙ c.if-is_torn.true) is

pub returns-clause-follows : goal.returns-clause-follows
returns-clause-follows g c = λ told none.
    let old = g.D.Disk.seen c.args.disk.now in
    let reserved = g.D.Disk.seen c.reserve.new.disk in
    let forced = g.D.Disk.seen c.force.new.disk in
    let new = g.D.Disk.seen c.trim.new.disk in
    let calm = c.in_ok-reserve.ensures.faults in
    let on = c.force.ensures.cause.later in
    let later = c.trim.ensures.cause.later in
    let here : NoneFailed forced.faults new.faults = none_within old.faults forced.faults new.faults new.faults (omega (arith, calm, on)) later (omega arith) none in
    let image = done forced.faults new.faults c.trim.result c.trim.ensures.cause here c.trim.ensures.image_ok told in
    check_follows g.F.Format.spelling g.F.Format.is_record g.F.Format.frame_bytes g.met.F.Format.counts_frames g.D.Disk.tells old c.args.journal.now told (g.met.D.Disk.told_size c.args.disk.now told) c.requires.kept_on
    c.args.entry (sym c.is_torn.ensures ∙ c.if-is_torn.false) c.requires.writable.payload c.force.ensures.is_record forced.image new c.force.new.self.entries
    (c.in-Ok.ensures.image_ok told ∙ ap (λ (i : Image). all_synced (appended (frame (g.F.Format.spelling c.args.entry)) i)) (c.in_ok-reserve.ensures.image told))
    (ap (λ j. j.entries) c.in-Ok.ensures.ok ∙ ap (λ j. j.entries ++ as_written c.args.entry ∷ []) c.in_ok-reserve.ensures.ok) image
    (calls_behind 3 old reserved new c.in_ok-reserve.ensures.called (calls_add 2 1 reserved forced new c.in-Ok.ensures.called.done c.trim.ensures.called))
