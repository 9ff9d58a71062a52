use Rattle.std.proofs.Common.{◌≡◌, ◌≤◌, ℕ, List, length, sym, ap, ◌∙◌, arith}
use Rattle.std.specs.Option.{option_copied}
use Rattle.mdb_base.specs.Programs.{plain_act}
use Rattle.mdb_base.proofs.ForCallers.{some_steps}
use Rattle.fed_rules.specs.declared.events.SiteEvent.TheVariants as Ev
use Rattle.fed_rules.specs.Site.{done}
use Rattle.fed_rules.specs.SiteCommands as Verb
use Rattle.site_book.specs.Noted.{done_in}
use Rattle.local_dbms.proofs.Asked.{none_lives, none_request, noted_run, step_end, step_live, verb_down, verb_gone, verb_idle}
use Rattle.local_dbms.proofs.Owned.{own_apart}
use Rattle.fed_rules.specs.declared.answers.Answer.TheVariants as Say
use Rattle.local_dbms.specs.declared.asks.SiteAsk.TheVariants as At
use Rattle.local_dbms.proofs.Comes.{step_comes}
use Rattle.local_dbms.proofs.Asking.{declines, may_come, refuses, serves}
use Rattle.local_dbms.proofs.dbms.LocalDbms.step.Goals as goal

pub returns-in_default-clause-served : goal.returns-in_default-clause-served
returns-in_default-clause-served g c =
    declines g.E.LocalEngine.stands g.D.Disk.tells c.args.self.now (g.D.Disk.seen c.args.disk.now) (At.Step c.args.tx) Say.None
    (λ home programs past r.
    sym (none_request Verb.Step_on home (programs c.args.tx) past c.args.tx (sym (r.owns.held c.args.tx) ∙ sym c.find.ensures ∙ ap option_copied c.in_default.is))) c.declined.result c.declined.ensures

pub returns-then-is_down-clause-served : goal.returns-then-is_down-clause-served
returns-then-is_down-clause-served g c =
    declines g.E.LocalEngine.stands g.D.Disk.tells c.args.self.now (g.D.Disk.seen c.args.disk.now) (At.Step c.args.tx) Say.Down
    (λ home programs past r.
    let steps = c.in-Some.program.now in
    let own = sym (r.owns.held c.args.tx) ∙ sym c.find.ensures ∙ ap option_copied c.in-Some.is in
    sym (verb_down home (programs c.args.tx) past c.args.tx steps own Verb.Step_on (step_live home (programs c.args.tx) past c.args.tx steps own) (sym (c.is_down.ensures home past r.core) ∙ c.if-is_down.true))) c.declined-then-is_down.result c.declined-then-is_down.ensures

pub returns-in_default-running-clause-served : goal.returns-in_default-running-clause-served
returns-in_default-running-clause-served g c =
    declines g.E.LocalEngine.stands g.D.Disk.tells c.args.self.now (g.D.Disk.seen c.args.disk.now) (At.Step c.args.tx) Say.Idle
    (λ home programs past r.
    let steps = c.in-Some.program.now in
    let own = sym (r.owns.held c.args.tx) ∙ sym c.find.ensures ∙ ap option_copied c.in-Some.is in
    let up = sym (c.is_down.ensures home past r.core) ∙ c.if-is_down.false in
    let apart = own_apart programs past c.args.tx r.owns.owned (some_steps (programs c.args.tx) steps own) in
    sym (verb_idle home (programs c.args.tx) past c.args.tx steps own Verb.Step_on (step_live home (programs c.args.tx) past c.args.tx steps own) up (sym (c.running.ensures home past r.core up apart) ∙ c.in_default-running.is))) c.declined-in_default-running.result c.declined-in_default-running.ensures

pub returns-in_default-live-clause-served : goal.returns-in_default-live-clause-served
returns-in_default-live-clause-served g c =
    declines g.E.LocalEngine.stands g.D.Disk.tells c.args.self.now (g.D.Disk.seen c.args.disk.now) (At.Step c.args.tx) Say.Idle
    (λ home programs past r.
    let steps = c.in-Some.program.now in
    let own = sym (r.owns.held c.args.tx) ∙ sym c.find.ensures ∙ ap option_copied c.in-Some.is in
    let up = sym (c.is_down.ensures home past r.core) ∙ c.if-is_down.false in
    let apart = own_apart programs past c.args.tx r.owns.owned (some_steps (programs c.args.tx) steps own) in
    let runs = sym (c.running.ensures home past r.core up apart) ∙ c.in-Some-running.is in
    sym (verb_gone home (programs c.args.tx) past c.args.tx steps own Verb.Step_on c.in-Some-running.tid (step_live home (programs c.args.tx) past c.args.tx steps own) up runs
    (none_lives _ (sym (ap option_copied c.in_default-live.is) ∙ c.live.ensures home past r.core up)))) c.declined-in_default-live.result c.declined-in_default-live.ensures

pub returns-then-done-len-clause-served : goal.returns-then-done-len-clause-served
returns-then-done-len-clause-served g c =
    declines g.E.LocalEngine.stands g.D.Disk.tells c.args.self.now (g.D.Disk.seen c.args.disk.now) (At.Step c.args.tx) Say.End
    (λ home programs past r.
    let steps = c.in-Some.program.now in
    let own = sym (r.owns.held c.args.tx) ∙ sym c.find.ensures ∙ ap option_copied c.in-Some.is in
    let up = sym (c.is_down.ensures home past r.core) ∙ c.if-is_down.false in
    let apart = own_apart programs past c.args.tx r.owns.owned (some_steps (programs c.args.tx) steps own) in
    let runs = sym (c.running.ensures home past r.core up apart) ∙ c.in-Some-running.is in
    let n = noted_run home past c.in-Some-running.tid c.in-Some-live.noted.now (sym (ap option_copied c.in-Some-live.is) ∙ c.live.ensures home past r.core up) in
    let done_is : c.done-done.result ≡ done n.run = c.done-done.ensures ∙ ap done_in n.is in
    let all : length steps ≤ done n.run = (let count = c.len.ensures.count in let e = c.if-done-len.true in omega arith) in
    sym (step_end home (programs c.args.tx) past c.args.tx steps own c.in-Some-running.tid n.run up runs n.lives all)) c.declined-then-done-len.result c.declined-then-done-len.ensures

pub step-requires-clause-may : goal.step-requires-clause-may
step-requires-clause-may g c =
    may_come g.E.LocalEngine.stands g.D.Disk.tells c.args.self.now (g.D.Disk.seen c.args.disk.now) (At.Step c.args.tx) (Ev.Act c.in-Some-running.tid c.plain-act.result)
    (step_comes g.E.LocalEngine.stands g.D.Disk.tells c.args.self.now (g.D.Disk.seen c.args.disk.now) c.args.tx c.in-Some-running.tid
    (λ home programs past r. sym (c.is_down.ensures home past r.core) ∙ c.if-is_down.false)
    (λ home programs past r up apart. sym (c.running.ensures home past r.core up apart) ∙ c.in-Some-running.is)
    c.in-Some.program.now (sym c.find.ensures ∙ ap option_copied c.in-Some.is) c.in-Some-live.noted.now
    (λ home programs past r up. sym (ap option_copied c.in-Some-live.is) ∙ c.live.ensures home past r.core up)
    c.done-done.result c.done-done.ensures (let count = c.len.ensures.count in let e = c.if-done-len.false in omega arith) c.len.ensures.program.few c.at.result.now c.at.ensures
    c.plain-act.result (c.plain-act.ensures ∙ ap (λ (reads : List ℕ). plain_act reads c.at.result.now.act) c.reads.ensures)) c.requires.stood

pub returns-clause-served : goal.returns-clause-served
returns-clause-served g c =
    serves g.E.LocalEngine.stands g.D.Disk.tells c.args.self.now (g.D.Disk.seen c.args.disk.now) (At.Step c.args.tx) (Ev.Act c.in-Some-running.tid c.plain-act.result)
    (step_comes g.E.LocalEngine.stands g.D.Disk.tells c.args.self.now (g.D.Disk.seen c.args.disk.now) c.args.tx c.in-Some-running.tid
    (λ home programs past r. sym (c.is_down.ensures home past r.core) ∙ c.if-is_down.false)
    (λ home programs past r up apart. sym (c.running.ensures home past r.core up apart) ∙ c.in-Some-running.is)
    c.in-Some.program.now (sym c.find.ensures ∙ ap option_copied c.in-Some.is) c.in-Some-live.noted.now
    (λ home programs past r up. sym (ap option_copied c.in-Some-live.is) ∙ c.live.ensures home past r.core up)
    c.done-done.result c.done-done.ensures (let count = c.len.ensures.count in let e = c.if-done-len.false in omega arith) c.len.ensures.program.few c.at.result.now c.at.ensures
    c.plain-act.result (c.plain-act.ensures ∙ ap (λ (reads : List ℕ). plain_act reads c.at.result.now.act) c.reads.ensures))
    c.step.new.self (g.D.Disk.seen c.step.new.disk) c.step.result c.step.ensures.answered

pub returns-clause-failed : goal.returns-clause-failed
returns-clause-failed g c =
    refuses g.E.LocalEngine.stands g.D.Disk.tells c.args.self.now (g.D.Disk.seen c.args.disk.now) (At.Step c.args.tx) (Ev.Act c.in-Some-running.tid c.plain-act.result)
    (step_comes g.E.LocalEngine.stands g.D.Disk.tells c.args.self.now (g.D.Disk.seen c.args.disk.now) c.args.tx c.in-Some-running.tid
    (λ home programs past r. sym (c.is_down.ensures home past r.core) ∙ c.if-is_down.false)
    (λ home programs past r up apart. sym (c.running.ensures home past r.core up apart) ∙ c.in-Some-running.is)
    c.in-Some.program.now (sym c.find.ensures ∙ ap option_copied c.in-Some.is) c.in-Some-live.noted.now
    (λ home programs past r up. sym (ap option_copied c.in-Some-live.is) ∙ c.live.ensures home past r.core up)
    c.done-done.result c.done-done.ensures (let count = c.len.ensures.count in let e = c.if-done-len.false in omega arith) c.len.ensures.program.few c.at.result.now c.at.ensures
    c.plain-act.result (c.plain-act.ensures ∙ ap (λ (reads : List ℕ). plain_act reads c.at.result.now.act) c.reads.ensures))
    c.step.new.self (g.D.Disk.seen c.step.new.disk) c.step.result c.step.ensures.failed
