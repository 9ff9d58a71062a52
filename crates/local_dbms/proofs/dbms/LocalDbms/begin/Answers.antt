use Rattle.std.proofs.Common.{◌≤◌, not, sym, ap, ◌∙◌, arith}
use Rattle.mdb_base.proofs.ForCallers.{nothing_is, some_steps}
use Rattle.fed_rules.specs.declared.events.SiteEvent.TheVariants as Ev
use Rattle.fed_rules.specs.Requests.{Submits, attempt}
use Rattle.fed_rules.specs.SiteCommands as Verb
use Rattle.fed_rules.specs.SitePast.{attempts_of}
use Rattle.site_core.proofs.ForCallers.{is_there}
use Rattle.local_dbms.proofs.Asked.{begin_spent, found_own, none_request}
use Rattle.fed_rules.specs.declared.answers.Answer.TheVariants as Say
use Rattle.local_dbms.specs.declared.asks.SiteAsk.TheVariants as At
use Rattle.local_dbms.proofs.Comes.{begin_comes}
use Rattle.local_dbms.proofs.Asking.{declines, may_come, refuses, serves}
use Rattle.local_dbms.proofs.dbms.LocalDbms.begin.Goals as goal

pub returns-then-is_none-clause-served : goal.returns-then-is_none-clause-served
returns-then-is_none-clause-served g c =
    declines g.E.LocalEngine.stands g.D.Disk.tells c.args.self.now (g.D.Disk.seen c.args.disk.now) (At.Begin c.args.tx) Say.None
    (λ home programs past r.
    let absent = is_there c.find.result _ c.is_none.result c.find.ensures c.is_none.ensures ∙ ap not c.if-is_none.true in
    sym (none_request Verb.Begin home (programs c.args.tx) past c.args.tx (sym (r.owns.held c.args.tx) ∙ nothing_is _ absent))) c.declined.result c.declined.ensures

pub returns-then-begun-ge-MOST_ATTEMPTS-clause-served : goal.returns-then-begun-ge-MOST_ATTEMPTS-clause-served
returns-then-begun-ge-MOST_ATTEMPTS-clause-served g c =
    declines g.E.LocalEngine.stands g.D.Disk.tells c.args.self.now (g.D.Disk.seen c.args.disk.now) (At.Begin c.args.tx) c.spent-answer.result
    (λ home programs past r.
    let there = is_there c.find.result _ c.is_none.result c.find.ensures c.is_none.ensures ∙ ap not c.if-is_none.false in
    let (steps, own) = found_own (programs c.args.tx) _ (r.owns.held c.args.tx) there in
    let is = c.begun-begun.ensures home past r.core in
    let all : 32 ≤ attempts_of past c.args.tx = (let most = c.if-begun-ge-MOST_ATTEMPTS.true in omega arith) in
    ap Rattle.fed_rules.specs.Requests.Declines (c.spent-answer.ensures home programs past r (some_steps (programs c.args.tx) steps own) (attempts_of past c.args.tx))
    ∙ sym (begin_spent home (programs c.args.tx) past c.args.tx steps own all)) c.declined-then-begun-ge-MOST_ATTEMPTS.result c.declined-then-begun-ge-MOST_ATTEMPTS.ensures

pub step-requires-clause-may : goal.step-requires-clause-may
step-requires-clause-may g c =
    may_come g.E.LocalEngine.stands g.D.Disk.tells c.args.self.now (g.D.Disk.seen c.args.disk.now) (At.Begin c.args.tx) (Ev.Begin (attempt c.args.tx c.begun-begun.result))
    (begin_comes g.E.LocalEngine.stands g.D.Disk.tells c.args.self.now (g.D.Disk.seen c.args.disk.now) c.args.tx (is_there c.find.result _ c.is_none.result c.find.ensures c.is_none.ensures ∙ ap not c.if-is_none.false) c.begun-begun.result
    (λ home programs past r. c.begun-begun.ensures home past r.core) (let most = c.if-begun-ge-MOST_ATTEMPTS.false in omega arith)) c.requires.stood

pub returns-clause-served : goal.returns-clause-served
returns-clause-served g c =
    serves g.E.LocalEngine.stands g.D.Disk.tells c.args.self.now (g.D.Disk.seen c.args.disk.now) (At.Begin c.args.tx) (Ev.Begin (attempt c.args.tx c.begun-begun.result))
    (begin_comes g.E.LocalEngine.stands g.D.Disk.tells c.args.self.now (g.D.Disk.seen c.args.disk.now) c.args.tx (is_there c.find.result _ c.is_none.result c.find.ensures c.is_none.ensures ∙ ap not c.if-is_none.false) c.begun-begun.result
    (λ home programs past r. c.begun-begun.ensures home past r.core) (let most = c.if-begun-ge-MOST_ATTEMPTS.false in omega arith))
    c.step.new.self (g.D.Disk.seen c.step.new.disk) c.step.result c.step.ensures.answered

pub returns-clause-failed : goal.returns-clause-failed
returns-clause-failed g c =
    refuses g.E.LocalEngine.stands g.D.Disk.tells c.args.self.now (g.D.Disk.seen c.args.disk.now) (At.Begin c.args.tx) (Ev.Begin (attempt c.args.tx c.begun-begun.result))
    (begin_comes g.E.LocalEngine.stands g.D.Disk.tells c.args.self.now (g.D.Disk.seen c.args.disk.now) c.args.tx (is_there c.find.result _ c.is_none.result c.find.ensures c.is_none.ensures ∙ ap not c.if-is_none.false) c.begun-begun.result
    (λ home programs past r. c.begun-begun.ensures home past r.core) (let most = c.if-begun-ge-MOST_ATTEMPTS.false in omega arith))
    c.step.new.self (g.D.Disk.seen c.step.new.disk) c.step.result c.step.ensures.failed
