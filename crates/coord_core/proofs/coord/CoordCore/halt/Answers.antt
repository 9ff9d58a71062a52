use Rattle.std.proofs.Common.{refl, ap}
use Rattle.actor_store.specs.Store.{is_up}
use Rattle.actor_store.proofs.ForCallers.{from_stop}
use Rattle.coord_core.proofs.Events.{halt_steps}
use Rattle.coord_core.proofs.Made.{made_and}
use Rattle.coord_core.proofs.coord.CoordCore.halt.Goals as goal

pub returns-clause-answered : goal.returns-clause-answered
returns-clause-answered g c = made_and _ _ c.says.result c.says.ensures (λ step said terms past k can.
    halt_steps g.P.TakePolicy.policy g.D.Disk.tells step c.args.self.now (record c.args.self.now { store = c.stop-kept.new.self }) (g.D.Disk.seen c.args.disk.now) (g.D.Disk.seen c.stop-kept.new.disk) terms past c.args.cut c.stop-kept.result
    k c.requires.up (from_stop k.stored (c.stop-kept.ensures.stops _ _ _ k.stored.behind)) (ap is_up c.stop-kept.ensures.down) refl refl refl said.0 said.1 c.stop-kept.ensures.called)
