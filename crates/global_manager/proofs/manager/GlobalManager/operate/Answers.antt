use Rattle.global_manager.proofs.Asking.{may_come, refuses, serves}
use Rattle.global_manager.proofs.manager.GlobalManager.operate.Goals as goal

pub step-requires-clause-may : goal.step-requires-clause-may
step-requires-clause-may g c =
    may_come g.P.TakePolicy.policy g.D.Disk.tells c.args.self.now (g.D.Disk.seen c.args.disk.now) c.args.ask.now c.operation-event.result
    (λ terms programs past r can. (c.operation-event.ensures.comes terms programs past, c.operation-event.ensures.may terms programs past)) c.requires.stood

pub returns-clause-served : goal.returns-clause-served
returns-clause-served g c =
    serves g.P.TakePolicy.policy g.D.Disk.tells c.args.self.now (g.D.Disk.seen c.args.disk.now) c.args.ask.now c.operation-event.result
    (λ terms programs past r can. (c.operation-event.ensures.comes terms programs past, c.operation-event.ensures.may terms programs past))
    c.step.new.self (g.D.Disk.seen c.step.new.disk) c.step.result c.step.ensures.answered

pub returns-clause-failed : goal.returns-clause-failed
returns-clause-failed g c =
    refuses g.P.TakePolicy.policy g.D.Disk.tells c.args.self.now (g.D.Disk.seen c.args.disk.now) c.args.ask.now c.operation-event.result
    (λ terms programs past r can. (c.operation-event.ensures.comes terms programs past, c.operation-event.ensures.may terms programs past))
    c.step.new.self (g.D.Disk.seen c.step.new.disk) c.step.result c.step.ensures.failed
