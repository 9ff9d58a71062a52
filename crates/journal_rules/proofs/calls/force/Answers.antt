use Rattle.std.proofs.Common.{[], ◌∷◌, ◌∙◌, ap, sym, arith}
use Rattle.fed_rules.specs.Disk.{Append, Sync}
use Rattle.journal_disk.specs.Disk.{Image, all_synced, appended}
use Rattle.journal_disk.specs.Frames.{frame}
use Rattle.journal_disk.proofs.ForCallers.{calls_behind}
use Rattle.journal_rules.specs.Calls.{NoneFailed}
use Rattle.journal_rules.proofs.Making.{done, force_follows, none_within, none_written}
use Rattle.journal_rules.proofs.calls.force.Goals as goal

pub returns-then-is_torn-clause-follows : goal.returns-then-is_torn-clause-follows
returns-then-is_torn-clause-follows g c = λ told none disk is.
    none_written g.F.Format.spelling g.F.Format.is_record g.F.Format.frame_bytes g.met.F.Format.counts_frames g.D.Disk.tells (g.D.Disk.seen c.args.disk.now) c.args.journal.now told (g.met.D.Disk.told_size c.args.disk.now told) c.requires.kept_on
    disk (Append c.args.entry ∷ Sync ∷ []) (sym c.is_torn.ensures ∙ c.if-is_torn.true) is

pub returns-clause-follows : goal.returns-clause-follows
returns-clause-follows g c = λ told none.
    let old = g.D.Disk.seen c.args.disk.now in
    let reserved = g.D.Disk.seen c.reserve.new.disk in
    let new = g.D.Disk.seen c.force.new.disk in
    let calm = c.in_ok-reserve.ensures.faults in
    let later = c.force.ensures.cause.later in
    let here : NoneFailed reserved.faults new.faults = none_within old.faults reserved.faults new.faults new.faults (omega (arith, calm)) later (omega arith) none in
    let image = done reserved.faults new.faults c.force.result c.force.ensures.cause here c.force.ensures.image_ok told in
    let called = done reserved.faults new.faults c.force.result c.force.ensures.cause here c.force.ensures.called.done in
    force_follows g.F.Format.spelling g.F.Format.is_record g.F.Format.frame_bytes g.met.F.Format.counts_frames g.D.Disk.tells old c.args.journal.now told (g.met.D.Disk.told_size c.args.disk.now told) c.requires.kept_on
    c.args.entry (sym c.is_torn.ensures ∙ c.if-is_torn.false) c.requires.writable.payload c.force.ensures.is_record new
    (image ∙ ap (λ (i : Image). all_synced (appended (frame (g.F.Format.spelling c.args.entry)) i)) (c.in_ok-reserve.ensures.image told))
    (calls_behind 2 old reserved new c.in_ok-reserve.ensures.called called)
