use Rattle.local_dbms.proofs.Asking.{may_come, operation_comes, refuses, serves}
use Rattle.local_dbms.proofs.dbms.LocalDbms.operate.Goals as goal

pub step-requires-clause-may : goal.step-requires-clause-may
step-requires-clause-may g c =
    may_come g.E.LocalEngine.stands g.D.Disk.tells c.args.self.now (g.D.Disk.seen c.args.disk.now) c.args.ask.now c.operation-event.result
    (operation_comes g.E.LocalEngine.stands g.D.Disk.tells c.args.self.now (g.D.Disk.seen c.args.disk.now) c.args.ask.now c.requires.operation c.operation-event.result c.operation-event.ensures) c.requires.stood

pub returns-clause-served : goal.returns-clause-served
returns-clause-served g c =
    serves g.E.LocalEngine.stands g.D.Disk.tells c.args.self.now (g.D.Disk.seen c.args.disk.now) c.args.ask.now c.operation-event.result
    (operation_comes g.E.LocalEngine.stands g.D.Disk.tells c.args.self.now (g.D.Disk.seen c.args.disk.now) c.args.ask.now c.requires.operation c.operation-event.result c.operation-event.ensures)
    c.step.new.self (g.D.Disk.seen c.step.new.disk) c.step.result c.step.ensures.answered

pub returns-clause-failed : goal.returns-clause-failed
returns-clause-failed g c =
    refuses g.E.LocalEngine.stands g.D.Disk.tells c.args.self.now (g.D.Disk.seen c.args.disk.now) c.args.ask.now c.operation-event.result
    (operation_comes g.E.LocalEngine.stands g.D.Disk.tells c.args.self.now (g.D.Disk.seen c.args.disk.now) c.args.ask.now c.requires.operation c.operation-event.result c.operation-event.ensures)
    c.step.new.self (g.D.Disk.seen c.step.new.disk) c.step.result c.step.ensures.failed
