use Rattle.std.proofs.Common.{◌+◌, refl, [], ◌∷◌, sym, subst, ◌∙◌}
use Rattle.fed_rules.specs.declared.answers.Answer.TheVariants as Say
use Rattle.fed_rules.specs.declared.events.CoordStep.{CoordStep}
use Rattle.fed_rules.specs.declared.records.CoordRecord.TheVariants as Rec
use Rattle.fed_rules.specs.declared.events.CoordEvent.TheVariants as Ev
use Rattle.fed_rules.specs.declared.sums.CoordSum.{CoordSum}
use Rattle.fed_rules.specs.Disk.{Append, Sync, TrimFront}
use Rattle.fed_rules.specs.CoordPast.{disk, trip}
use Rattle.coord_journal.specs.Spelling.{IsSumInRange}
use Rattle.journal_disk.proofs.ForCallers.{none_at_most}
use Rattle.actor_store.specs.declared.errors.StepErr.TheVariants as Err_is
use Rattle.actor_store.proofs.ForCallers.{from_done, from_failed, from_kept, from_stopped}
use Rattle.coord_core.specs.Stands.{calls_for}
use Rattle.coord_core.proofs.CalledLaws.{fails_behind, steps_behind}
use Rattle.coord_core.proofs.Checks.{check_large, check_line, check_pending, checkpoint_fits, sum_is}
use Rattle.coord_core.proofs.Endings.{pending_failed, pending_made, pending_stopped}
use Rattle.coord_core.proofs.Roomed.{stands_roomed}
use Rattle.coord_core.proofs.SumRanges.{sum_in_range}
use Rattle.coord_core.proofs.coord.CoordCore.check.Goals as goal

pub returns-then-is_large-clause-answered : goal.returns-then-is_large-clause-answered
returns-then-is_large-clause-answered g c = λ terms past k can.
    let is = sum_is g.P.TakePolicy.policy c.args.self.now terms past c.records.result.now c.in-Ok.sum k.holds c.records.ensures c.in-Ok.ensures in
    check_large g.P.TakePolicy.policy g.D.Disk.tells c.silent.result c.args.self.now (g.D.Disk.seen c.args.disk.now) terms past c.in-Ok.sum k c.requires.up is (sym c.is_large.ensures ∙ c.if-is_large.true)
    c.silent.ensures.answer c.silent.ensures.sends

pub frame_len-bytes-requires : goal.frame_len-bytes-requires
frame_len-bytes-requires g c = checkpoint_fits c.in-Ok.sum (sym c.is_large.ensures ∙ c.if-is_large.false)

pub returns-in_default-make_room-clause-failed : goal.returns-in_default-make_room-clause-failed
returns-in_default-make_room-clause-failed g c = λ terms past k can. (
  stands_roomed g.P.TakePolicy.policy g.D.Disk.tells c.args.self.now c.make_room.new.self (g.D.Disk.seen c.args.disk.now) (g.D.Disk.seen c.make_room.new.disk) terms past c.make_room.ensures.keeps c.make_room.ensures.standing k,
  none_at_most (0 + calls_for terms past Ev.Check) (g.D.Disk.seen c.args.disk.now) (g.D.Disk.seen c.make_room.new.disk) c.make_room.ensures.called,
)

pub check-requires-clause-kept : goal.check-requires-clause-kept
check-requires-clause-kept g c =
    let m = c.requires.may in
    (m.stood.stored.old, (disk m.past, trip m.past, c.make_room.ensures.keeps _ _ _ m.stood.stored.behind))

pub check-requires-clause-in_range : goal.check-requires-clause-in_range
check-requires-clause-in_range g c =
    let m = c.requires.may in
    let is = sum_is g.P.TakePolicy.policy c.args.self.now m.terms m.past c.records.result.now c.in-Ok.sum m.stood.holds c.records.ensures c.in-Ok.ensures in
    subst (λ (s : CoordSum). IsSumInRange s) (sym is) (sum_in_range m.terms m.past m.stood.holds.sound m.stood.stored.behind.written)

pub check-requires-clause-payload : goal.check-requires-clause-payload
check-requires-clause-payload g c = checkpoint_fits c.in-Ok.sum (sym c.is_large.ensures ∙ c.if-is_large.false)

pub returns-in-Ok-check-clause-answered : goal.returns-in-Ok-check-clause-answered
returns-in-Ok-check-clause-answered g c = λ terms past k can.
    let old = c.args.self.now in
    let is = sum_is g.P.TakePolicy.policy old terms past c.records.result.now c.in-Ok.sum k.holds c.records.ensures c.in-Ok.ensures in
    let kept = from_kept k.stored (c.make_room.ensures.keeps _ _ _ k.stored.behind) in
    let p = check_pending g.P.TakePolicy.policy g.D.Disk.tells c.silent-in-Ok-check.result old c.make_room.new.self (g.D.Disk.seen c.args.disk.now) (g.D.Disk.seen c.make_room.new.disk) terms past c.in-Ok.sum k c.requires.up kept is
    (sym c.is_large.ensures ∙ c.if-is_large.false) c.silent-in-Ok-check.ensures.answer c.silent-in-Ok-check.ensures.sends in
    steps_behind g.P.TakePolicy.policy g.D.Disk.tells 0 (g.D.Disk.seen c.args.disk.now) (g.D.Disk.seen c.make_room.new.disk) c.silent-in-Ok-check.result (record old { store = c.check.new.self }) (g.D.Disk.seen c.check.new.disk) terms past _ c.make_room.ensures.called
    (pending_made g.P.TakePolicy.policy g.D.Disk.tells (Append (Rec.Checkpoint c.in-Ok.sum) ∷ Sync ∷ TrimFront ∷ []) c.silent-in-Ok-check.result (record old { store = c.make_room.new.self }) (record old { store = c.check.new.self })
    (g.D.Disk.seen c.make_room.new.disk) (g.D.Disk.seen c.check.new.disk) terms past Ev.Check (check_line c.in-Ok.sum) p refl refl refl refl (from_done kept (c.in-Ok-check.ensures.ends _ _ _ kept.behind)) c.in-Ok-check.ensures.standing
    (c.in-Ok-check.ensures.called _ _ _ kept.behind))

pub returns-in-Err-Stopped-clause-answered : goal.returns-in-Err-Stopped-clause-answered
returns-in-Err-Stopped-clause-answered g c = λ terms past k can.
    let old = c.args.self.now in
    let is = sum_is g.P.TakePolicy.policy old terms past c.records.result.now c.in-Ok.sum k.holds c.records.ensures c.in-Ok.ensures in
    let kept = from_kept k.stored (c.make_room.ensures.keeps _ _ _ k.stored.behind) in
    let step : CoordStep = record { answer = Say.Checked; sends = [] } in
    let p = check_pending g.P.TakePolicy.policy g.D.Disk.tells step old c.make_room.new.self (g.D.Disk.seen c.args.disk.now) (g.D.Disk.seen c.make_room.new.disk) terms past c.in-Ok.sum k c.requires.up kept is
    (sym c.is_large.ensures ∙ c.if-is_large.false) refl refl in
    let told = rw c.in-Err-Stopped.field-0-is at (c.in-Err-Stopped.ensures.ends _ _ _ kept.behind) in
    let ends = from_stopped kept told in
    let stop = rw c.in-Err-Stopped.field-0-is at (c.in-Err-Stopped.ensures.called _ _ _ kept.behind) in
    steps_behind g.P.TakePolicy.policy g.D.Disk.tells 0 (g.D.Disk.seen c.args.disk.now) (g.D.Disk.seen c.make_room.new.disk) c.silent-in-Err-Stopped.result (record old { store = c.check.new.self }) (g.D.Disk.seen c.check.new.disk) terms past _ c.make_room.ensures.called
    (pending_stopped g.P.TakePolicy.policy g.D.Disk.tells (Append (Rec.Checkpoint c.in-Ok.sum) ∷ Sync ∷ TrimFront ∷ []) step (record old { store = c.make_room.new.self }) (record old { store = c.check.new.self })
    (g.D.Disk.seen c.make_room.new.disk) (g.D.Disk.seen c.check.new.disk) terms past Ev.Check (check_line c.in-Ok.sum) p refl refl refl refl c.silent-in-Err-Stopped.result c.in-Err-Stopped.kept ends c.in-Err-Stopped.ensures.down
    c.silent-in-Err-Stopped.ensures.answer c.silent-in-Err-Stopped.ensures.sends refl stop)

pub returns-in-Err-Failed-clause-failed : goal.returns-in-Err-Failed-clause-failed
returns-in-Err-Failed-clause-failed g c = λ terms past k can.
    let old = c.args.self.now in
    let is = sum_is g.P.TakePolicy.policy old terms past c.records.result.now c.in-Ok.sum k.holds c.records.ensures c.in-Ok.ensures in
    let kept = from_kept k.stored (c.make_room.ensures.keeps _ _ _ k.stored.behind) in
    let step : CoordStep = record { answer = Say.Checked; sends = [] } in
    let p = check_pending g.P.TakePolicy.policy g.D.Disk.tells step old c.make_room.new.self (g.D.Disk.seen c.args.disk.now) (g.D.Disk.seen c.make_room.new.disk) terms past c.in-Ok.sum k c.requires.up kept is
    (sym c.is_large.ensures ∙ c.if-is_large.false) refl refl in
    let told = rw c.in-Err-Failed.field-0-is at (c.in-Err-Failed.ensures.ends _ _ _ kept.behind) in
    let ends = from_failed kept told in
    let few = rw c.in-Err-Failed.field-0-is at (c.in-Err-Failed.ensures.called _ _ _ kept.behind) in
    fails_behind g.P.TakePolicy.policy g.D.Disk.tells (0 + calls_for terms past Ev.Check) (g.D.Disk.seen c.args.disk.now) (g.D.Disk.seen c.make_room.new.disk) Err_is.Disk (record old { store = c.check.new.self }) (g.D.Disk.seen c.check.new.disk) terms past Ev.Check c.make_room.ensures.called
    (pending_failed g.P.TakePolicy.policy g.D.Disk.tells (Append (Rec.Checkpoint c.in-Ok.sum) ∷ Sync ∷ TrimFront ∷ []) step (record old { store = c.make_room.new.self }) (record old { store = c.check.new.self })
    (g.D.Disk.seen c.make_room.new.disk) (g.D.Disk.seen c.check.new.disk) terms past Ev.Check (check_line c.in-Ok.sum) p refl refl refl refl ends c.in-Err-Failed.ensures.down few)
