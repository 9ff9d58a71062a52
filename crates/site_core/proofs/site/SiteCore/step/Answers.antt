use Rattle.std.proofs.Common.{refl, sym}
use Rattle.site_core.specs.Stands.{beside_rules}
use Rattle.site_core.proofs.CalledLaws.{none_beside}
use Rattle.site_core.proofs.StepLaws.{all_fails, all_steps}
use Rattle.site_core.proofs.site.SiteCore.step.Goals as goal

pub returns-in-Up-clause-answered : goal.returns-in-Up-clause-answered
returns-in-Up-clause-answered g c = all_steps g.E.LocalEngine.stands g.D.Disk.tells c.args.self.now c.serve.new.self (g.D.Disk.seen c.args.disk.now) (g.D.Disk.seen c.serve.new.disk) c.args.event 0 (sym (none_beside c.args.event c.args.self.now (g.D.Disk.seen c.args.disk.now) c.in-Up.is)) c.serve.result c.serve.ensures.answered

pub returns-in-Up-clause-failed : goal.returns-in-Up-clause-failed
returns-in-Up-clause-failed g c = all_fails g.E.LocalEngine.stands g.D.Disk.tells c.args.self.now c.serve.new.self (g.D.Disk.seen c.args.disk.now) (g.D.Disk.seen c.serve.new.disk) c.args.event 0 (sym (none_beside c.args.event c.args.self.now (g.D.Disk.seen c.args.disk.now) c.in-Up.is)) c.serve.result c.serve.ensures.failed

pub returns-in-Down-clause-answered : goal.returns-in-Down-clause-answered
returns-in-Down-clause-answered g c = all_steps g.E.LocalEngine.stands g.D.Disk.tells c.args.self.now c.wait.new.self (g.D.Disk.seen c.args.disk.now) (g.D.Disk.seen c.wait.new.disk) c.args.event (beside_rules c.args.event c.args.self.now (g.D.Disk.seen c.args.disk.now)) refl c.wait.result c.wait.ensures.answered

pub returns-in-Down-clause-failed : goal.returns-in-Down-clause-failed
returns-in-Down-clause-failed g c = all_fails g.E.LocalEngine.stands g.D.Disk.tells c.args.self.now c.wait.new.self (g.D.Disk.seen c.args.disk.now) (g.D.Disk.seen c.wait.new.disk) c.args.event (beside_rules c.args.event c.args.self.now (g.D.Disk.seen c.args.disk.now)) refl c.wait.result c.wait.ensures.failed

pub returns-in-Failing-clause-answered : goal.returns-in-Failing-clause-answered
returns-in-Failing-clause-answered g c = all_steps g.E.LocalEngine.stands g.D.Disk.tells c.args.self.now c.wait-in-Failing.new.self (g.D.Disk.seen c.args.disk.now) (g.D.Disk.seen c.wait-in-Failing.new.disk) c.args.event (beside_rules c.args.event c.args.self.now (g.D.Disk.seen c.args.disk.now)) refl c.wait-in-Failing.result c.wait-in-Failing.ensures.answered

pub returns-in-Failing-clause-failed : goal.returns-in-Failing-clause-failed
returns-in-Failing-clause-failed g c = all_fails g.E.LocalEngine.stands g.D.Disk.tells c.args.self.now c.wait-in-Failing.new.self (g.D.Disk.seen c.args.disk.now) (g.D.Disk.seen c.wait-in-Failing.new.disk) c.args.event (beside_rules c.args.event c.args.self.now (g.D.Disk.seen c.args.disk.now)) refl c.wait-in-Failing.result c.wait-in-Failing.ensures.failed
