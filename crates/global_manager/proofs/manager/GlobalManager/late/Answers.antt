use Rattle.std.proofs.Common.{refl, sym, ◌∙◌}
use Rattle.fed_rules.specs.declared.answers.Answer.TheVariants as Say
use Rattle.fed_rules.specs.declared.events.CoordEvent.TheVariants as Ev
use Rattle.coord_core.proofs.ForCallers.{made_cause, made_err}
use Rattle.global_manager.specs.declared.asks.CoordAsk.TheVariants as Coord
use Rattle.global_manager.proofs.Asked.{attempt_none, attempt_submits}
use Rattle.global_manager.proofs.Asking.{declines, may_come, refuses, serves}
use Rattle.global_manager.proofs.manager.GlobalManager.late.Goals as goal

pub step-requires-clause-may : goal.step-requires-clause-may
step-requires-clause-may g c =
    may_come g.P.TakePolicy.policy g.D.Disk.tells c.args.self.now (g.D.Disk.seen c.args.disk.now) (Coord.Late c.args.tid) (Ev.Late c.args.tid)
    (λ terms programs past r can. let begun = sym (c.was_begun.ensures terms programs past r) ∙ c.if-was_begun.true in (attempt_submits past c.args.tid (Ev.Late c.args.tid) begun, (begun, tt))) c.requires.stood

pub returns-then-was_begun-clause-served : goal.returns-then-was_begun-clause-served
returns-then-was_begun-clause-served g c =
    serves g.P.TakePolicy.policy g.D.Disk.tells c.args.self.now (g.D.Disk.seen c.args.disk.now) (Coord.Late c.args.tid) (Ev.Late c.args.tid)
    (λ terms programs past r can. let begun = sym (c.was_begun.ensures terms programs past r) ∙ c.if-was_begun.true in (attempt_submits past c.args.tid (Ev.Late c.args.tid) begun, (begun, tt)))
    c.step.new.self (g.D.Disk.seen c.step.new.disk) c.step.result c.step.ensures.answered

pub returns-then-was_begun-clause-failed : goal.returns-then-was_begun-clause-failed
returns-then-was_begun-clause-failed g c =
    refuses g.P.TakePolicy.policy g.D.Disk.tells c.args.self.now (g.D.Disk.seen c.args.disk.now) (Coord.Late c.args.tid) (Ev.Late c.args.tid)
    (λ terms programs past r can. let begun = sym (c.was_begun.ensures terms programs past r) ∙ c.if-was_begun.true in (attempt_submits past c.args.tid (Ev.Late c.args.tid) begun, (begun, tt)))
    c.step.new.self (g.D.Disk.seen c.step.new.disk) c.step.result c.step.ensures.failed

pub returns-else-was_begun-clause-served : goal.returns-else-was_begun-clause-served
returns-else-was_begun-clause-served g c =
    declines g.P.TakePolicy.policy g.D.Disk.tells c.args.self.now (g.D.Disk.seen c.args.disk.now) (Coord.Late c.args.tid) Say.None
    (λ terms programs past r. attempt_none past c.args.tid (Ev.Late c.args.tid) (sym (c.was_begun.ensures terms programs past r) ∙ c.if-was_begun.false)) c.declined.result c.declined.ensures

pub returns-else-was_begun-clause-failed : goal.returns-else-was_begun-clause-failed
returns-else-was_begun-clause-failed g c = made_err _ _ c.declined.result c.declined.ensures

pub returns-else-was_begun-clause-cause : goal.returns-else-was_begun-clause-cause
returns-else-was_begun-clause-cause g c = made_cause _ _ _ c.declined.result refl c.declined.ensures
