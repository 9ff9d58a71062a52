use Rattle.std.proofs.Common.{refl, [], ◌∷◌}
use Rattle.fed_rules.specs.Disk.{Append, Sync}
use Rattle.actor_store.proofs.ForCallers.{from_done, from_failed, from_stopped}
use Rattle.coord_core.proofs.Endings.{pending_failed, pending_made, pending_quiet, pending_stopped}
use Rattle.coord_core.proofs.coord.CoordCore.end.Goals as goal

pub returns-in-None-clause-answered : goal.returns-in-None-clause-answered
returns-in-None-clause-answered g c = λ terms past event x p.
    let q = rw c.in-None.is at p in
    pending_quiet g.P.TakePolicy.policy g.D.Disk.tells c.args.step c.args.self.now (g.D.Disk.seen c.args.disk.now) terms past event x q c.requires.up

pub returns-in-Ok-clause-answered : goal.returns-in-Ok-clause-answered
returns-in-Ok-clause-answered g c = λ terms past event x p.
    let q = rw c.in-Some.is at p in
    pending_made g.P.TakePolicy.policy g.D.Disk.tells (Append c.in-Some.entry ∷ Sync ∷ []) c.args.step c.args.self.now (record c.args.self.now { store = c.force.new.self }) (g.D.Disk.seen c.args.disk.now) (g.D.Disk.seen c.force.new.disk)
    terms past event x q refl refl refl refl (from_done q.ready.stored (c.in-Ok.ensures.ends _ _ _ q.ready.stored.behind)) c.in-Ok.ensures.standing (c.in-Ok.ensures.called _ _ _ q.ready.stored.behind)

pub returns-in-Err-Stopped-clause-answered : goal.returns-in-Err-Stopped-clause-answered
returns-in-Err-Stopped-clause-answered g c = λ terms past event x p.
    let q = rw c.in-Some.is at p in
    let told = rw c.in-Err-Stopped.field-0-is at (c.in-Err-Stopped.ensures.ends _ _ _ q.ready.stored.behind) in
    let ends = from_stopped q.ready.stored told in
    let stop = rw c.in-Err-Stopped.field-0-is at (c.in-Err-Stopped.ensures.called _ _ _ q.ready.stored.behind) in
    pending_stopped g.P.TakePolicy.policy g.D.Disk.tells (Append c.in-Some.entry ∷ Sync ∷ []) c.args.step c.args.self.now (record c.args.self.now { store = c.force.new.self }) (g.D.Disk.seen c.args.disk.now) (g.D.Disk.seen c.force.new.disk)
    terms past event x q refl refl refl refl c.silent.result c.in-Err-Stopped.kept ends c.in-Err-Stopped.ensures.down c.silent.ensures.answer c.silent.ensures.sends refl stop

pub returns-in-Err-Failed-clause-failed : goal.returns-in-Err-Failed-clause-failed
returns-in-Err-Failed-clause-failed g c = λ terms past event x p.
    let q = rw c.in-Some.is at p in
    let told = rw c.in-Err-Failed.field-0-is at (c.in-Err-Failed.ensures.ends _ _ _ q.ready.stored.behind) in
    let ends = from_failed q.ready.stored told in
    let few = rw c.in-Err-Failed.field-0-is at (c.in-Err-Failed.ensures.called _ _ _ q.ready.stored.behind) in
    pending_failed g.P.TakePolicy.policy g.D.Disk.tells (Append c.in-Some.entry ∷ Sync ∷ []) c.args.step c.args.self.now (record c.args.self.now { store = c.force.new.self }) (g.D.Disk.seen c.args.disk.now) (g.D.Disk.seen c.force.new.disk)
    terms past event x q refl refl refl refl ends c.in-Err-Failed.ensures.down few
