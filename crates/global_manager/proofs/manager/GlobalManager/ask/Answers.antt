use Rattle.std.proofs.Common.{subst, ap}
use Rattle.fed_rules.specs.declared.events.CoordEvent.TheVariants as Ev
use Rattle.global_manager.specs.declared.asks.CoordAsk.{CoordAsk}
use Rattle.global_manager.specs.Asks.{CanAsk, coord_request}
use Rattle.global_manager.proofs.Asking.{may_come, refuses, serves}
use Rattle.global_manager.proofs.manager.GlobalManager.ask.Goals as goal

pub step-requires-clause-may : goal.step-requires-clause-may
step-requires-clause-may g c =
    may_come g.P.TakePolicy.policy g.D.Disk.tells c.args.self.now (g.D.Disk.seen c.args.disk.now) c.args.ask (Ev.Take c.in-Take.site c.in-Take.message)
    (λ terms programs past r can. (ap (λ (a : CoordAsk). coord_request a terms programs past) c.in-Take.is, (subst (λ (a : CoordAsk). CanAsk a terms programs past) c.in-Take.is can, tt))) c.requires.stood

pub returns-in-Take-clause-served : goal.returns-in-Take-clause-served
returns-in-Take-clause-served g c =
    serves g.P.TakePolicy.policy g.D.Disk.tells c.args.self.now (g.D.Disk.seen c.args.disk.now) c.args.ask (Ev.Take c.in-Take.site c.in-Take.message)
    (λ terms programs past r can. (ap (λ (a : CoordAsk). coord_request a terms programs past) c.in-Take.is, (subst (λ (a : CoordAsk). CanAsk a terms programs past) c.in-Take.is can, tt)))
    c.step.new.self (g.D.Disk.seen c.step.new.disk) c.step.result c.step.ensures.answered

pub returns-in-Take-clause-failed : goal.returns-in-Take-clause-failed
returns-in-Take-clause-failed g c =
    refuses g.P.TakePolicy.policy g.D.Disk.tells c.args.self.now (g.D.Disk.seen c.args.disk.now) c.args.ask (Ev.Take c.in-Take.site c.in-Take.message)
    (λ terms programs past r can. (ap (λ (a : CoordAsk). coord_request a terms programs past) c.in-Take.is, (subst (λ (a : CoordAsk). CanAsk a terms programs past) c.in-Take.is can, tt)))
    c.step.new.self (g.D.Disk.seen c.step.new.disk) c.step.result c.step.ensures.failed
