use Rattle.std.proofs.Common.{not, sym, ap, ◌∙◌}
use Rattle.mdb_base.proofs.ForCallers.{nothing_is}
use Rattle.fed_rules.specs.SiteCommands as Verb
use Rattle.site_core.proofs.ForCallers.{is_there}
use Rattle.local_dbms.proofs.Asked.{none_request}
use Rattle.fed_rules.specs.declared.answers.Answer.TheVariants as Say
use Rattle.fed_rules.specs.declared.events.SiteEvent.TheVariants as Ev
use Rattle.local_dbms.specs.declared.asks.SiteAsk.TheVariants as At
use Rattle.local_dbms.proofs.Comes.{fate_comes}
use Rattle.local_dbms.proofs.Asking.{declines, may_come, refuses, serves}
use Rattle.local_dbms.proofs.dbms.LocalDbms.fate.Goals as goal

pub returns-then-is_none-clause-served : goal.returns-then-is_none-clause-served
returns-then-is_none-clause-served g c =
    declines g.E.LocalEngine.stands g.D.Disk.tells c.args.self.now (g.D.Disk.seen c.args.disk.now) (At.Fate c.args.tx) Say.None
    (λ home programs past r.
    let absent = is_there c.find.result _ c.is_none.result c.find.ensures c.is_none.ensures ∙ ap not c.if-is_none.true in
    sym (none_request Verb.Fate home (programs c.args.tx) past c.args.tx (sym (r.owns.held c.args.tx) ∙ nothing_is _ absent))) c.declined.result c.declined.ensures

pub step-requires-clause-may : goal.step-requires-clause-may
step-requires-clause-may g c =
    may_come g.E.LocalEngine.stands g.D.Disk.tells c.args.self.now (g.D.Disk.seen c.args.disk.now) (At.Fate c.args.tx) (Ev.Fate c.args.tx)
    (fate_comes g.E.LocalEngine.stands g.D.Disk.tells c.args.self.now (g.D.Disk.seen c.args.disk.now) c.args.tx (is_there c.find.result _ c.is_none.result c.find.ensures c.is_none.ensures ∙ ap not c.if-is_none.false)) c.requires.stood

pub returns-clause-served : goal.returns-clause-served
returns-clause-served g c =
    serves g.E.LocalEngine.stands g.D.Disk.tells c.args.self.now (g.D.Disk.seen c.args.disk.now) (At.Fate c.args.tx) (Ev.Fate c.args.tx)
    (fate_comes g.E.LocalEngine.stands g.D.Disk.tells c.args.self.now (g.D.Disk.seen c.args.disk.now) c.args.tx (is_there c.find.result _ c.is_none.result c.find.ensures c.is_none.ensures ∙ ap not c.if-is_none.false))
    c.step.new.self (g.D.Disk.seen c.step.new.disk) c.step.result c.step.ensures.answered

pub returns-clause-failed : goal.returns-clause-failed
returns-clause-failed g c =
    refuses g.E.LocalEngine.stands g.D.Disk.tells c.args.self.now (g.D.Disk.seen c.args.disk.now) (At.Fate c.args.tx) (Ev.Fate c.args.tx)
    (fate_comes g.E.LocalEngine.stands g.D.Disk.tells c.args.self.now (g.D.Disk.seen c.args.disk.now) c.args.tx (is_there c.find.result _ c.is_none.result c.find.ensures c.is_none.ensures ∙ ap not c.if-is_none.false))
    c.step.new.self (g.D.Disk.seen c.step.new.disk) c.step.result c.step.ensures.failed
