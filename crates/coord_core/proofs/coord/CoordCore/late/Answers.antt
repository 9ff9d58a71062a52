use Rattle.std.proofs.Common.{refl, sym, ◌∙◌}
use Rattle.mdb_base.proofs.ForCallers.{map_err, map_ok}
use Rattle.fed_rules.specs.declared.answers.Answer.TheVariants as Say
use Rattle.fed_rules.specs.declared.events.CoordEvent.TheVariants as Ev
use Rattle.fed_rules.specs.Happenings.{quiet}
use Rattle.coord_tables.proofs.ForCallers.{late_aborting, late_idle, quiet_calm}
use Rattle.coord_core.proofs.Events.{calm_steps}
use Rattle.coord_core.proofs.Made.{made_cause, made_err, made_ok}
use Rattle.coord_core.proofs.Still.{serves}
use Rattle.coord_core.proofs.coord.CoordCore.late.Goals as goal

pub returns-then-is_open-clause-answered : goal.returns-then-is_open-clause-answered
returns-then-is_open-clause-answered g c = map_ok _ _ c.abort.result c.abort.ensures.answered (λ step each terms past k can.
    let s = serves g.P.TakePolicy.policy g.D.Disk.tells c.args.self.now terms past k.holds c.requires.up in
    each terms past (Ev.Late c.args.tid) k (late_aborting terms past c.args.tid (sym (c.is_open.ensures terms past k.holds.sound s) ∙ c.if-is_open.true)))

pub returns-then-is_open-clause-failed : goal.returns-then-is_open-clause-failed
returns-then-is_open-clause-failed g c = map_err _ _ c.abort.result c.abort.ensures.failed (λ why each terms past k can.
    let s = serves g.P.TakePolicy.policy g.D.Disk.tells c.args.self.now terms past k.holds c.requires.up in
    each terms past (Ev.Late c.args.tid) k (late_aborting terms past c.args.tid (sym (c.is_open.ensures terms past k.holds.sound s) ∙ c.if-is_open.true)))

pub returns-else-is_open-clause-answered : goal.returns-else-is_open-clause-answered
returns-else-is_open-clause-answered g c = made_ok _ _ c.says.result c.says.ensures (λ step told terms past k can.
    let s = serves g.P.TakePolicy.policy g.D.Disk.tells c.args.self.now terms past k.holds c.requires.up in
    calm_steps g.P.TakePolicy.policy g.D.Disk.tells step c.args.self.now c.args.self.now (g.D.Disk.seen c.args.disk.now) terms past (Ev.Late c.args.tid) (quiet (Ev.Late c.args.tid) Say.Idle) k c.requires.up can tt
    (late_idle terms past c.args.tid (sym (c.is_open.ensures terms past k.holds.sound s) ∙ c.if-is_open.false)) refl (quiet_calm (Ev.Late c.args.tid) Say.Idle tt tt) (record { answer = told.0; sends = told.1 }) refl)

pub returns-else-is_open-clause-failed : goal.returns-else-is_open-clause-failed
returns-else-is_open-clause-failed g c = made_err _ _ c.says.result c.says.ensures

pub returns-else-is_open-clause-cause : goal.returns-else-is_open-clause-cause
returns-else-is_open-clause-cause g c = made_cause _ _ _ c.says.result refl c.says.ensures
