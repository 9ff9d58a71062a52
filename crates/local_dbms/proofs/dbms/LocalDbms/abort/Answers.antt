use Rattle.std.proofs.Common.{not, sym, ap, ◌∙◌}
use Rattle.mdb_base.proofs.ForCallers.{nothing_is, some_steps}
use Rattle.fed_rules.specs.SiteCommands as Verb
use Rattle.site_core.proofs.ForCallers.{is_there}
use Rattle.local_dbms.proofs.Asked.{abort_live, found_own, none_lives, none_request, verb_down, verb_gone, verb_idle}
use Rattle.local_dbms.proofs.Owned.{own_apart}
use Rattle.fed_rules.specs.declared.answers.Answer.TheVariants as Say
use Rattle.fed_rules.specs.declared.events.SiteEvent.TheVariants as Ev
use Rattle.local_dbms.specs.declared.asks.SiteAsk.TheVariants as At
use Rattle.local_dbms.proofs.Comes.{abort_comes}
use Rattle.local_dbms.proofs.Asking.{declines, may_come, refuses, serves}
use Rattle.local_dbms.proofs.dbms.LocalDbms.abort.Goals as goal

pub returns-then-is_none-clause-served : goal.returns-then-is_none-clause-served
returns-then-is_none-clause-served g c =
    declines g.E.LocalEngine.stands g.D.Disk.tells c.args.self.now (g.D.Disk.seen c.args.disk.now) (At.Abort c.args.tx) Say.None
    (λ home programs past r.
    let absent = is_there c.find.result _ c.is_none.result c.find.ensures c.is_none.ensures ∙ ap not c.if-is_none.true in
    sym (none_request Verb.Abort home (programs c.args.tx) past c.args.tx (sym (r.owns.held c.args.tx) ∙ nothing_is _ absent))) c.declined.result c.declined.ensures

pub returns-then-is_down-clause-served : goal.returns-then-is_down-clause-served
returns-then-is_down-clause-served g c =
    declines g.E.LocalEngine.stands g.D.Disk.tells c.args.self.now (g.D.Disk.seen c.args.disk.now) (At.Abort c.args.tx) Say.Down
    (λ home programs past r.
    let there = is_there c.find.result _ c.is_none.result c.find.ensures c.is_none.ensures ∙ ap not c.if-is_none.false in
    let (steps, own) = found_own (programs c.args.tx) _ (r.owns.held c.args.tx) there in
    sym (verb_down home (programs c.args.tx) past c.args.tx steps own Verb.Abort (abort_live home (programs c.args.tx) past c.args.tx steps own) (sym (c.is_down.ensures home past r.core) ∙ c.if-is_down.true))) c.declined-then-is_down.result c.declined-then-is_down.ensures

pub returns-in_default-clause-served : goal.returns-in_default-clause-served
returns-in_default-clause-served g c =
    declines g.E.LocalEngine.stands g.D.Disk.tells c.args.self.now (g.D.Disk.seen c.args.disk.now) (At.Abort c.args.tx) Say.Idle
    (λ home programs past r.
    let there = is_there c.find.result _ c.is_none.result c.find.ensures c.is_none.ensures ∙ ap not c.if-is_none.false in
    let (steps, own) = found_own (programs c.args.tx) _ (r.owns.held c.args.tx) there in
    let up = sym (c.is_down.ensures home past r.core) ∙ c.if-is_down.false in
    let apart = own_apart programs past c.args.tx r.owns.owned (some_steps (programs c.args.tx) steps own) in
    sym (verb_idle home (programs c.args.tx) past c.args.tx steps own Verb.Abort (abort_live home (programs c.args.tx) past c.args.tx steps own) up (sym (c.running.ensures home past r.core up apart) ∙ c.in_default.is))) c.declined-in_default.result c.declined-in_default.ensures

pub returns-then-is_none-2-clause-served : goal.returns-then-is_none-2-clause-served
returns-then-is_none-2-clause-served g c =
    declines g.E.LocalEngine.stands g.D.Disk.tells c.args.self.now (g.D.Disk.seen c.args.disk.now) (At.Abort c.args.tx) Say.Idle
    (λ home programs past r.
    let there = is_there c.find.result _ c.is_none.result c.find.ensures c.is_none.ensures ∙ ap not c.if-is_none.false in
    let (steps, own) = found_own (programs c.args.tx) _ (r.owns.held c.args.tx) there in
    let up = sym (c.is_down.ensures home past r.core) ∙ c.if-is_down.false in
    let apart = own_apart programs past c.args.tx r.owns.owned (some_steps (programs c.args.tx) steps own) in
    let gone = is_there c.live.result _ c.is_none-2.result (c.live.ensures home past r.core up) c.is_none-2.ensures ∙ ap not c.if-is_none-2.true in
    sym (verb_gone home (programs c.args.tx) past c.args.tx steps own Verb.Abort c.in-Some.tid (abort_live home (programs c.args.tx) past c.args.tx steps own) up
    (sym (c.running.ensures home past r.core up apart) ∙ c.in-Some.is) (none_lives _ (sym (nothing_is _ gone))))) c.declined-then-is_none-2.result c.declined-then-is_none-2.ensures

pub step-requires-clause-may : goal.step-requires-clause-may
step-requires-clause-may g c =
    may_come g.E.LocalEngine.stands g.D.Disk.tells c.args.self.now (g.D.Disk.seen c.args.disk.now) (At.Abort c.args.tx) (Ev.Abort c.in-Some.tid)
    (abort_comes g.E.LocalEngine.stands g.D.Disk.tells c.args.self.now (g.D.Disk.seen c.args.disk.now) c.args.tx c.in-Some.tid
    (λ home programs past r. sym (c.is_down.ensures home past r.core) ∙ c.if-is_down.false)
    (λ home programs past r up apart. sym (c.running.ensures home past r.core up apart) ∙ c.in-Some.is) (is_there c.find.result _ c.is_none.result c.find.ensures c.is_none.ensures ∙ ap not c.if-is_none.false)
    (λ home programs past r up. is_there c.live.result _ c.is_none-2.result (c.live.ensures home past r.core up) c.is_none-2.ensures ∙ ap not c.if-is_none-2.false)) c.requires.stood

pub returns-clause-served : goal.returns-clause-served
returns-clause-served g c =
    serves g.E.LocalEngine.stands g.D.Disk.tells c.args.self.now (g.D.Disk.seen c.args.disk.now) (At.Abort c.args.tx) (Ev.Abort c.in-Some.tid)
    (abort_comes g.E.LocalEngine.stands g.D.Disk.tells c.args.self.now (g.D.Disk.seen c.args.disk.now) c.args.tx c.in-Some.tid
    (λ home programs past r. sym (c.is_down.ensures home past r.core) ∙ c.if-is_down.false)
    (λ home programs past r up apart. sym (c.running.ensures home past r.core up apart) ∙ c.in-Some.is) (is_there c.find.result _ c.is_none.result c.find.ensures c.is_none.ensures ∙ ap not c.if-is_none.false)
    (λ home programs past r up. is_there c.live.result _ c.is_none-2.result (c.live.ensures home past r.core up) c.is_none-2.ensures ∙ ap not c.if-is_none-2.false))
    c.step.new.self (g.D.Disk.seen c.step.new.disk) c.step.result c.step.ensures.answered

pub returns-clause-failed : goal.returns-clause-failed
returns-clause-failed g c =
    refuses g.E.LocalEngine.stands g.D.Disk.tells c.args.self.now (g.D.Disk.seen c.args.disk.now) (At.Abort c.args.tx) (Ev.Abort c.in-Some.tid)
    (abort_comes g.E.LocalEngine.stands g.D.Disk.tells c.args.self.now (g.D.Disk.seen c.args.disk.now) c.args.tx c.in-Some.tid
    (λ home programs past r. sym (c.is_down.ensures home past r.core) ∙ c.if-is_down.false)
    (λ home programs past r up apart. sym (c.running.ensures home past r.core up apart) ∙ c.in-Some.is) (is_there c.find.result _ c.is_none.result c.find.ensures c.is_none.ensures ∙ ap not c.if-is_none.false)
    (λ home programs past r up. is_there c.live.result _ c.is_none-2.result (c.live.ensures home past r.core up) c.is_none-2.ensures ∙ ap not c.if-is_none-2.false))
    c.step.new.self (g.D.Disk.seen c.step.new.disk) c.step.result c.step.ensures.failed
