use Rattle.std.proofs.Common.{◌≡◌, ℕ, ◌+◌, None, refl, ap, subst, ◌∙◌}
use Rattle.mdb_base.proofs.ForCallers.{map_err, map_ok}
use Rattle.fed_rules.specs.declared.events.CoordEvent.TheVariants as Ev
use Rattle.actor_store.specs.Store.{reloads, stored, uncounted}
use Rattle.actor_store.proofs.ForCallers.{from_kept, same_calls}
use Rattle.coord_core.specs.declared.coord.CoordCore.{CoordCore}
use Rattle.coord_core.specs.Stands.{Fails, beside_rules, calls_for}
use Rattle.coord_core.proofs.Backs.{read_failed, stays_down}
use Rattle.coord_core.proofs.CalledLaws.{fails_later, read_at_most, starting_beside, steps_beside, steps_later}
use Rattle.coord_core.proofs.coord.CoordCore.back.Goals as goal

pub come_up-requires-clause-may : goal.come_up-requires-clause-may
come_up-requires-clause-may g c =
    let m = c.requires.may in
    let old = c.args.self.now in
    let before = g.D.Disk.seen c.args.disk.now in
    let read = g.D.Disk.seen c.reload.new.disk in
    record {
      terms = m.terms;
      past = m.past;
      stood = stays_down g.P.TakePolicy.policy g.D.Disk.tells old (record old { store = c.reload.new.self }) before read m.terms m.past m.stood c.requires.down
          (from_kept m.stood.stored (c.reload.ensures.keeps _ _ _ m.stood.stored.behind)) c.reload.ensures.standing refl refl refl;
      holds = m.holds;
    }

pub returns-in-Ok-clause-answered : goal.returns-in-Ok-clause-answered
returns-in-Ok-clause-answered g c =
    let old = c.args.self.now in
    let loaded : CoordCore g.row.P.Denot = record old { store = c.reload.new.self } in
    let before = g.D.Disk.seen c.args.disk.now in
    let read = g.D.Disk.seen c.reload.new.disk in
    let after = g.D.Disk.seen c.come_up.new.disk in
    let reloaded = reloads old.store.is_fresh before.size in
    let opened = uncounted (stored loaded.store) in
    let same : reloaded + opened ≡ beside_rules Ev.Back old before =
    ap (λ (n : ℕ). reloaded + n) (same_calls (stored loaded.store) (stored old.store) (ap (λ j. j.is_torn) c.in-Ok.ensures.journal) c.reload.ensures.standing) ∙ starting_beside old before c.requires.down in
    map_ok _ _ c.come_up.result c.come_up.ensures.answered (λ step each terms past k can.
    steps_beside g.P.TakePolicy.policy g.D.Disk.tells before (reloaded + opened) (beside_rules Ev.Back old before) step c.come_up.new.self after terms past _ same
    (steps_later g.P.TakePolicy.policy g.D.Disk.tells reloaded opened before read step c.come_up.new.self after terms past _ c.in-Ok.ensures.called.done
    (each terms past (stays_down g.P.TakePolicy.policy g.D.Disk.tells old loaded before read terms past k c.requires.down (from_kept k.stored (c.reload.ensures.keeps _ _ _ k.stored.behind)) c.reload.ensures.standing refl refl refl) tt)))

pub returns-in-Ok-clause-failed : goal.returns-in-Ok-clause-failed
returns-in-Ok-clause-failed g c =
    let old = c.args.self.now in
    let loaded : CoordCore g.row.P.Denot = record old { store = c.reload.new.self } in
    let before = g.D.Disk.seen c.args.disk.now in
    let read = g.D.Disk.seen c.reload.new.disk in
    let after = g.D.Disk.seen c.come_up.new.disk in
    let reloaded = reloads old.store.is_fresh before.size in
    let opened = uncounted (stored loaded.store) in
    let same : reloaded + opened ≡ beside_rules Ev.Back old before =
    ap (λ (n : ℕ). reloaded + n) (same_calls (stored loaded.store) (stored old.store) (ap (λ j. j.is_torn) c.in-Ok.ensures.journal) c.reload.ensures.standing) ∙ starting_beside old before c.requires.down in
    map_err _ _ c.come_up.result c.come_up.ensures.failed (λ why each terms past k can.
    let F : ℕ → Type 0 = λ n. Fails g.P.TakePolicy.policy g.D.Disk.tells (n + calls_for terms past Ev.Back) before why c.come_up.new.self after terms past Ev.Back in
    subst F same (fails_later g.P.TakePolicy.policy g.D.Disk.tells reloaded opened (calls_for terms past Ev.Back) before read why c.come_up.new.self after terms past Ev.Back c.in-Ok.ensures.called.done
    (each terms past (stays_down g.P.TakePolicy.policy g.D.Disk.tells old loaded before read terms past k c.requires.down (from_kept k.stored (c.reload.ensures.keeps _ _ _ k.stored.behind)) c.reload.ensures.standing refl refl refl) tt)))

pub returns-in-Err-Memory-clause-failed : goal.returns-in-Err-Memory-clause-failed
returns-in-Err-Memory-clause-failed g c = λ terms past k can.
    let old = c.args.self.now in
    let before = g.D.Disk.seen c.args.disk.now in
    let read = g.D.Disk.seen c.reload.new.disk in (
      stays_down g.P.TakePolicy.policy g.D.Disk.tells old (record old { store = c.reload.new.self }) before read terms past k c.requires.down
          (from_kept k.stored (c.reload.ensures.keeps _ _ _ k.stored.behind)) c.reload.ensures.standing refl refl refl,
      read_at_most old before read (calls_for terms past Ev.Back) c.requires.down c.in-Err-Memory.ensures.called.failed,
    )

pub returns-in-Err-Disk-clause-failed : goal.returns-in-Err-Disk-clause-failed
returns-in-Err-Disk-clause-failed g c = λ terms past k can.
    let old = c.args.self.now in
    let before = g.D.Disk.seen c.args.disk.now in
    let read = g.D.Disk.seen c.reload.new.disk in
    read_failed g.P.TakePolicy.policy g.D.Disk.tells old (record old { store = record c.reload.new.self { trip = None } }) c.reload.new.self before read terms past k c.requires.down
    (from_kept k.stored (c.reload.ensures.keeps _ _ _ k.stored.behind)) c.reload.ensures.standing refl
    (beside_rules Ev.Back old before + calls_for terms past Ev.Back) (read_at_most old before read (calls_for terms past Ev.Back) c.requires.down c.in-Err-Disk.ensures.called.failed)
