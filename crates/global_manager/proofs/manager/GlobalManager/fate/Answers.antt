use Rattle.std.proofs.Common.{refl, sym, ap, ◌∙◌}
use Rattle.std.specs.Option.{option_copied}
use Rattle.fed_rules.specs.declared.answers.Answer.TheVariants as Say
use Rattle.fed_rules.specs.declared.events.CoordEvent.TheVariants as Ev
use Rattle.coord_core.proofs.ForCallers.{made_cause, made_err}
use Rattle.global_manager.specs.declared.asks.CoordAsk.TheVariants as Coord
use Rattle.global_manager.proofs.Asked.{fate_none, fate_submits}
use Rattle.global_manager.proofs.Asking.{declines, may_come, refuses, serves}
use Rattle.global_manager.proofs.manager.GlobalManager.fate.Goals as goal

pub step-requires-clause-may : goal.step-requires-clause-may
step-requires-clause-may g c =
    may_come g.P.TakePolicy.policy g.D.Disk.tells c.args.self.now (g.D.Disk.seen c.args.disk.now) (Coord.Fate c.args.tx) (Ev.Fate c.args.tx)
    (λ terms programs past r can. (fate_submits terms.protocols terms.policy (programs c.args.tx) past c.args.tx _ (sym (r.owns.held c.args.tx) ∙ sym c.find.ensures ∙ ap option_copied c.in-Some.is), (tt, tt))) c.requires.stood

pub returns-in-Some-clause-served : goal.returns-in-Some-clause-served
returns-in-Some-clause-served g c =
    serves g.P.TakePolicy.policy g.D.Disk.tells c.args.self.now (g.D.Disk.seen c.args.disk.now) (Coord.Fate c.args.tx) (Ev.Fate c.args.tx)
    (λ terms programs past r can. (fate_submits terms.protocols terms.policy (programs c.args.tx) past c.args.tx _ (sym (r.owns.held c.args.tx) ∙ sym c.find.ensures ∙ ap option_copied c.in-Some.is), (tt, tt)))
    c.step.new.self (g.D.Disk.seen c.step.new.disk) c.step.result c.step.ensures.answered

pub returns-in-Some-clause-failed : goal.returns-in-Some-clause-failed
returns-in-Some-clause-failed g c =
    refuses g.P.TakePolicy.policy g.D.Disk.tells c.args.self.now (g.D.Disk.seen c.args.disk.now) (Coord.Fate c.args.tx) (Ev.Fate c.args.tx)
    (λ terms programs past r can. (fate_submits terms.protocols terms.policy (programs c.args.tx) past c.args.tx _ (sym (r.owns.held c.args.tx) ∙ sym c.find.ensures ∙ ap option_copied c.in-Some.is), (tt, tt)))
    c.step.new.self (g.D.Disk.seen c.step.new.disk) c.step.result c.step.ensures.failed

pub returns-in-None-clause-served : goal.returns-in-None-clause-served
returns-in-None-clause-served g c =
    declines g.P.TakePolicy.policy g.D.Disk.tells c.args.self.now (g.D.Disk.seen c.args.disk.now) (Coord.Fate c.args.tx) Say.None
    (λ terms programs past r. fate_none terms.protocols terms.policy (programs c.args.tx) past c.args.tx (sym (r.owns.held c.args.tx) ∙ sym c.find.ensures ∙ ap option_copied c.in-None.is)) c.declined.result c.declined.ensures

pub returns-in-None-clause-failed : goal.returns-in-None-clause-failed
returns-in-None-clause-failed g c = made_err _ _ c.declined.result c.declined.ensures

pub returns-in-None-clause-cause : goal.returns-in-None-clause-cause
returns-in-None-clause-cause g c = made_cause _ _ _ c.declined.result refl c.declined.ensures
