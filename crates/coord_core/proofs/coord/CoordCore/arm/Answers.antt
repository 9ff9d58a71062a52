use Rattle.std.proofs.Common.{[], refl}
use Rattle.fed_rules.specs.declared.answers.Answer.TheVariants as Say
use Rattle.fed_rules.specs.declared.events.CoordStep.{CoordStep}
use Rattle.coord_core.proofs.Events.{trip_steps}
use Rattle.coord_core.proofs.coord.CoordCore.arm.Goals as goal

pub returns : goal.returns
returns g c tells seen terms past k can =
    let step : CoordStep = record { answer = Say.Set; sends = [] } in
    trip_steps g.P.TakePolicy.policy tells step c.args.self.now (record c.args.self.now { store = c.set_trip.new.self }) seen terms past c.args.calls c.args.cut k refl refl refl refl refl refl c.set_trip.ensures
