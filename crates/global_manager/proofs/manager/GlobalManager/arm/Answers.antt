use Rattle.std.proofs.Common.{[]}
use Rattle.fed_rules.specs.declared.events.CoordEvent.TheVariants as Ev
use Rattle.global_manager.proofs.Fit.{sends}
use Rattle.global_manager.proofs.manager.GlobalManager.arm.Goals as goal

pub returns : goal.returns
returns g c tells seen terms programs past k =
    sends g.P.TakePolicy.policy tells c.args.self.now c.arm.new.self seen terms programs past (Ev.Trip c.args.calls c.args.cut) k.owns tt 0 seen (record { answer = c.arm.result; sends = [] })
    (c.arm.ensures tells seen terms past k.core tt)
