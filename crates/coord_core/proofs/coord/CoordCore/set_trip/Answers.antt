use Rattle.std.proofs.Common.{refl}
use Rattle.coord_core.proofs.Events.{trip_steps}
use Rattle.coord_core.proofs.Made.{made_and}
use Rattle.coord_core.proofs.coord.CoordCore.set_trip.Goals as goal

pub returns : goal.returns
returns g c = record {
  answered = made_and _ _ c.says.result c.says.ensures (λ step said tells seen terms past k can.
      trip_steps g.P.TakePolicy.policy tells step c.args.self.now (record c.args.self.now { store = c.set_trip.new.self }) seen terms past c.args.calls c.args.cut k said.0 said.1 refl refl refl refl c.set_trip.ensures);
}
