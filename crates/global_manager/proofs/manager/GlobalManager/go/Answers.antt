use Rattle.std.proofs.Common.{◌≤◌, refl, sym, ap, ◌∙◌, arith}
use Rattle.std.specs.Option.{option_copied}
use Rattle.fed_rules.specs.declared.answers.Answer.TheVariants as Say
use Rattle.fed_rules.specs.declared.events.CoordEvent.TheVariants as Ev
use Rattle.fed_rules.specs.CoordPast.{attempts_of}
use Rattle.fed_rules.specs.Requests.{Declines, attempt}
use Rattle.coord_core.proofs.ForCallers.{made_cause, made_err}
use Rattle.global_manager.specs.declared.asks.CoordAsk.TheVariants as Coord
use Rattle.global_manager.proofs.Asked.{go_none, go_spent}
use Rattle.global_manager.proofs.Asking.{declines, go_comes, may_come, refuses, serves}
use Rattle.global_manager.proofs.manager.GlobalManager.go.Goals as goal

pub returns-in_default-clause-served : goal.returns-in_default-clause-served
returns-in_default-clause-served g c =
    declines g.P.TakePolicy.policy g.D.Disk.tells c.args.self.now (g.D.Disk.seen c.args.disk.now) (Coord.Go c.args.tx) Say.None
    (λ terms programs past r. go_none terms.protocols terms.policy (programs c.args.tx) past c.args.tx (sym (r.owns.held c.args.tx) ∙ sym c.find.ensures ∙ ap option_copied c.in_default.is)) c.declined.result c.declined.ensures

pub returns-in_default-clause-failed : goal.returns-in_default-clause-failed
returns-in_default-clause-failed g c = made_err _ _ c.declined.result c.declined.ensures

pub returns-in_default-clause-cause : goal.returns-in_default-clause-cause
returns-in_default-clause-cause g c = made_cause _ _ _ c.declined.result refl c.declined.ensures

pub returns-then-begun-ge-MOST_ATTEMPTS-clause-served : goal.returns-then-begun-ge-MOST_ATTEMPTS-clause-served
returns-then-begun-ge-MOST_ATTEMPTS-clause-served g c =
    declines g.P.TakePolicy.policy g.D.Disk.tells c.args.self.now (g.D.Disk.seen c.args.disk.now) (Coord.Go c.args.tx) c.spent-answer.result
    (λ terms programs past r.
    let tx = c.args.tx in
    let steps = c.in-Some.program.now in
    let own = sym (r.owns.held tx) ∙ sym c.find.ensures ∙ ap option_copied c.in-Some.is in
    let is = c.begun-begun.ensures terms past r.core in
    let all : 32 ≤ attempts_of past tx = (let most = c.if-begun-ge-MOST_ATTEMPTS.true in omega arith) in
    go_spent terms.protocols terms.policy (programs tx) past tx steps own all ∙ sym (ap Declines (c.spent-answer.ensures terms programs past r (attempt tx (attempts_of past tx)) steps refl))) c.declined-then-begun-ge-MOST_ATTEMPTS.result c.declined-then-begun-ge-MOST_ATTEMPTS.ensures

pub returns-then-begun-ge-MOST_ATTEMPTS-clause-failed : goal.returns-then-begun-ge-MOST_ATTEMPTS-clause-failed
returns-then-begun-ge-MOST_ATTEMPTS-clause-failed g c = made_err _ _ c.declined-then-begun-ge-MOST_ATTEMPTS.result c.declined-then-begun-ge-MOST_ATTEMPTS.ensures

pub returns-then-begun-ge-MOST_ATTEMPTS-clause-cause : goal.returns-then-begun-ge-MOST_ATTEMPTS-clause-cause
returns-then-begun-ge-MOST_ATTEMPTS-clause-cause g c = made_cause _ _ _ c.declined-then-begun-ge-MOST_ATTEMPTS.result refl c.declined-then-begun-ge-MOST_ATTEMPTS.ensures

pub returns-in_default-clone-clause-failed : goal.returns-in_default-clone-clause-failed
returns-in_default-clone-clause-failed g c terms programs past k can = k

pub step-requires-clause-may : goal.step-requires-clause-may
step-requires-clause-may g c =
    may_come g.P.TakePolicy.policy g.D.Disk.tells c.args.self.now (g.D.Disk.seen c.args.disk.now) (Coord.Go c.args.tx) (Ev.Go (attempt c.args.tx c.begun-begun.result) c.in-Ok.program)
    (go_comes g.P.TakePolicy.policy g.D.Disk.tells c.args.self.now (g.D.Disk.seen c.args.disk.now) c.args.tx c.in-Some.program.now c.in-Ok.program c.begun-begun.result
    (λ terms programs past r. sym (r.owns.held c.args.tx) ∙ sym c.find.ensures ∙ ap option_copied c.in-Some.is) c.in-Ok.ensures.cases
    (λ terms programs past r. c.begun-begun.ensures terms past r.core) (let most = c.if-begun-ge-MOST_ATTEMPTS.false in omega arith)) c.requires.stood

pub returns-clause-served : goal.returns-clause-served
returns-clause-served g c =
    serves g.P.TakePolicy.policy g.D.Disk.tells c.args.self.now (g.D.Disk.seen c.args.disk.now) (Coord.Go c.args.tx) (Ev.Go (attempt c.args.tx c.begun-begun.result) c.in-Ok.program)
    (go_comes g.P.TakePolicy.policy g.D.Disk.tells c.args.self.now (g.D.Disk.seen c.args.disk.now) c.args.tx c.in-Some.program.now c.in-Ok.program c.begun-begun.result
    (λ terms programs past r. sym (r.owns.held c.args.tx) ∙ sym c.find.ensures ∙ ap option_copied c.in-Some.is) c.in-Ok.ensures.cases
    (λ terms programs past r. c.begun-begun.ensures terms past r.core) (let most = c.if-begun-ge-MOST_ATTEMPTS.false in omega arith))
    c.step.new.self (g.D.Disk.seen c.step.new.disk) c.step.result c.step.ensures.answered

pub returns-clause-failed : goal.returns-clause-failed
returns-clause-failed g c =
    refuses g.P.TakePolicy.policy g.D.Disk.tells c.args.self.now (g.D.Disk.seen c.args.disk.now) (Coord.Go c.args.tx) (Ev.Go (attempt c.args.tx c.begun-begun.result) c.in-Ok.program)
    (go_comes g.P.TakePolicy.policy g.D.Disk.tells c.args.self.now (g.D.Disk.seen c.args.disk.now) c.args.tx c.in-Some.program.now c.in-Ok.program c.begun-begun.result
    (λ terms programs past r. sym (r.owns.held c.args.tx) ∙ sym c.find.ensures ∙ ap option_copied c.in-Some.is) c.in-Ok.ensures.cases
    (λ terms programs past r. c.begun-begun.ensures terms past r.core) (let most = c.if-begun-ge-MOST_ATTEMPTS.false in omega arith))
    c.step.new.self (g.D.Disk.seen c.step.new.disk) c.step.result c.step.ensures.failed
