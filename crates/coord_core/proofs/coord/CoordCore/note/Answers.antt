use Rattle.std.proofs.Common.{ℕ, Option, Result, Err, refl, [], ◌∷◌, arith}
use Rattle.fed_rules.specs.declared.records.CoordRecord.{CoordRecord}
use Rattle.fed_rules.specs.Disk.{Append, Disk}
use Rattle.fed_rules.specs.Happenings.{Trip}
use Rattle.fed_rules.specs.CoordPast.{disk, trip}
use Rattle.fed_rules.specs.CoordRecords.{coord_frame}
use Rattle.journal_disk.proofs.ForCallers.{at_most}
use Rattle.actor_store.specs.declared.store.Break.{Break}
use Rattle.actor_store.specs.declared.store.Break.TheVariants.{Stopped}
use Rattle.actor_store.proofs.ForCallers.{armed_in_force, called_one, from_done, from_failed, from_stopped}
use Rattle.coord_core.specs.Found.{was_found}
use Rattle.coord_core.specs.Store.{Keeps}
use Rattle.coord_core.proofs.Endings.{pending_failed, pending_made, pending_stopped}
use Rattle.coord_core.proofs.coord.CoordCore.note.Goals as goal

pub returns-in-Ok-clause-answered : goal.returns-in-Ok-clause-answered
returns-in-Ok-clause-answered g c = λ terms past event x p.
    pending_made g.P.TakePolicy.policy g.D.Disk.tells (Append c.args.entry ∷ []) c.args.step c.args.self.now (record c.args.self.now { store = c.append.new.self }) (g.D.Disk.seen c.args.disk.now) (g.D.Disk.seen c.append.new.disk)
    terms past event x p refl refl refl refl (from_done p.ready.stored (c.in-Ok.ensures.ends _ _ _ p.ready.stored.behind)) c.in-Ok.ensures.standing c.append.ensures.called

pub returns-in-Err-Stopped-clause-answered : goal.returns-in-Err-Stopped-clause-answered
returns-in-Err-Stopped-clause-answered g c = λ terms past event x p.
    let told = rw c.in-Err-Stopped.field-0-is at (c.in-Err-Stopped.ensures.ends _ _ _ p.ready.stored.behind) in
    let ends = from_stopped p.ready.stored told in
    let before = g.D.Disk.seen c.args.disk.now in
    let after = g.D.Disk.seen c.append.new.disk in
    let K : Disk CoordRecord → Option Trip → Type 0 = Keeps (was_found past) g.D.Disk.tells after c.append.new.self in
    let armed = armed_in_force c.args.self.now.store.trip (trip past) p.ready.stored.behind.trip p.ready.stored.behind.armed in
    let ended : Result ℕ Break = Err (Stopped c.in-Err-Stopped.kept) in
    let stop = called_one coord_frame K (disk past) (trip past) armed before after (Append c.args.entry) ended ends c.append.ensures.called in
    pending_stopped g.P.TakePolicy.policy g.D.Disk.tells (Append c.args.entry ∷ []) c.args.step c.args.self.now (record c.args.self.now { store = c.append.new.self }) before after
    terms past event x p refl refl refl refl c.silent.result c.in-Err-Stopped.kept ends c.in-Err-Stopped.ensures.down c.silent.ensures.answer c.silent.ensures.sends refl stop

pub returns-in-Err-Failed-clause-failed : goal.returns-in-Err-Failed-clause-failed
returns-in-Err-Failed-clause-failed g c = λ terms past event x p.
    let told = rw c.in-Err-Failed.field-0-is at (c.in-Err-Failed.ensures.ends _ _ _ p.ready.stored.behind) in
    let ends = from_failed p.ready.stored told in
    let few = at_most 1 1 (g.D.Disk.seen c.args.disk.now) (g.D.Disk.seen c.append.new.disk) (omega arith) c.append.ensures.called in
    pending_failed g.P.TakePolicy.policy g.D.Disk.tells (Append c.args.entry ∷ []) c.args.step c.args.self.now (record c.args.self.now { store = c.append.new.self }) (g.D.Disk.seen c.args.disk.now) (g.D.Disk.seen c.append.new.disk)
    terms past event x p refl refl refl refl ends c.in-Err-Failed.ensures.down few
