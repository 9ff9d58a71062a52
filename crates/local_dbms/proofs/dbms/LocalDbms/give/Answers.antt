use Rattle.std.proofs.Common.{refl}
use Rattle.fed_rules.specs.declared.events.SiteEvent.TheVariants as Ev
use Rattle.local_dbms.specs.declared.asks.SiteAsk.TheVariants as At
use Rattle.local_dbms.proofs.Asking.{may_come, refuses, serves}
use Rattle.local_dbms.proofs.Fit.{can_give}
use Rattle.local_dbms.proofs.dbms.LocalDbms.give.Goals as goal

pub step-requires-clause-may : goal.step-requires-clause-may
step-requires-clause-may g c =
    may_come g.E.LocalEngine.stands g.D.Disk.tells c.args.self.now (g.D.Disk.seen c.args.disk.now) (At.Give c.args.message) (Ev.Give c.args.message)
    (λ home programs past r can. (refl, can_give g.E.LocalEngine.stands c.args.self.now home programs past r c.args.message can)) c.requires.stood

pub returns-clause-served : goal.returns-clause-served
returns-clause-served g c =
    serves g.E.LocalEngine.stands g.D.Disk.tells c.args.self.now (g.D.Disk.seen c.args.disk.now) (At.Give c.args.message) (Ev.Give c.args.message)
    (λ home programs past r can. (refl, can_give g.E.LocalEngine.stands c.args.self.now home programs past r c.args.message can))
    c.step.new.self (g.D.Disk.seen c.step.new.disk) c.step.result c.step.ensures.answered

pub returns-clause-failed : goal.returns-clause-failed
returns-clause-failed g c =
    refuses g.E.LocalEngine.stands g.D.Disk.tells c.args.self.now (g.D.Disk.seen c.args.disk.now) (At.Give c.args.message) (Ev.Give c.args.message)
    (λ home programs past r can. (refl, can_give g.E.LocalEngine.stands c.args.self.now home programs past r c.args.message can))
    c.step.new.self (g.D.Disk.seen c.step.new.disk) c.step.result c.step.ensures.failed
