use Rattle.std.proofs.Common.{◌+◌, sym, refl, ◌∙◌}
use Rattle.mdb_base.proofs.ForCallers.{map_err, map_ok}
use Rattle.presumptions.specs.declared.Protocol.TheVariants as By
use Rattle.fed_rules.specs.declared.answers.Answer.TheVariants as Say
use Rattle.fed_rules.specs.declared.events.CoordEvent.TheVariants as Ev
use Rattle.fed_rules.specs.Happenings.{quiet}
use Rattle.fed_rules.specs.CoordPast.{is_open, known_decision, standing}
use Rattle.fed_rules.proofs.ForCallers.{undecided_open}
use Rattle.coord_tables.proofs.ForCallers.{again_decided, again_gone, quiet_calm, said_told, stands_decided, stands_gone, stands_undecided, tells_calm}
use Rattle.journal_disk.proofs.ForCallers.{none_at_most}
use Rattle.coord_core.specs.Stands.{calls_for}
use Rattle.coord_core.proofs.Events.{calm_steps}
use Rattle.coord_core.proofs.Made.{both_ok, made_cause, made_err, made_ok, want_anyway, want_cause}
use Rattle.coord_core.proofs.Still.{serves}
use Rattle.coord_core.proofs.coord.CoordCore.again.Goals as goal

pub send_all-requires-clause-may : goal.send_all-requires-clause-may
send_all-requires-clause-may g c =
    let m = c.requires.may in
    let s = serves g.P.TakePolicy.policy g.D.Disk.tells c.args.self.now m.terms m.past m.stood.holds c.requires.up in
    let said = said_told c.args.self.now.tables m.terms m.past c.args.tid By.Nothing s ∙ (sym c.answer.ensures ∙ c.in-Undecided.is) in
    record {
      terms = m.terms;
      past = m.past;
      stood = m.stood;
      holds = undecided_open (is_open m.past c.args.tid) (known_decision m.terms.protocols m.past c.args.tid) (stands_undecided By.Nothing (standing m.terms.protocols m.past c.args.tid) said);
    }

pub returns-in-Undecided-clause-answered : goal.returns-in-Undecided-clause-answered
returns-in-Undecided-clause-answered g c = map_ok _ _ c.send_all.result c.send_all.ensures.answered (λ step each terms past k can.
    let s = serves g.P.TakePolicy.policy g.D.Disk.tells c.args.self.now terms past k.holds c.requires.up in
    let said = said_told c.args.self.now.tables terms past c.args.tid By.Nothing s ∙ (sym c.answer.ensures ∙ c.in-Undecided.is) in
    each terms past k (undecided_open (is_open past c.args.tid) (known_decision terms.protocols past c.args.tid) (stands_undecided By.Nothing (standing terms.protocols past c.args.tid) said)))

pub returns-in-Undecided-clause-failed : goal.returns-in-Undecided-clause-failed
returns-in-Undecided-clause-failed g c = map_err _ _ c.send_all.result c.send_all.ensures.failed (λ why each terms past k can.
    let s = serves g.P.TakePolicy.policy g.D.Disk.tells c.args.self.now terms past k.holds c.requires.up in
    let said = said_told c.args.self.now.tables terms past c.args.tid By.Nothing s ∙ (sym c.answer.ensures ∙ c.in-Undecided.is) in
    each terms past k (undecided_open (is_open past c.args.tid) (known_decision terms.protocols past c.args.tid) (stands_undecided By.Nothing (standing terms.protocols past c.args.tid) said)))

pub returns-in-Presumed-clause-answered : goal.returns-in-Presumed-clause-answered
returns-in-Presumed-clause-answered g c = made_ok _ _ c.says.result c.says.ensures (λ step told terms past k can.
    let s = serves g.P.TakePolicy.policy g.D.Disk.tells c.args.self.now terms past k.holds c.requires.up in
    let said = said_told c.args.self.now.tables terms past c.args.tid By.Nothing s ∙ (sym c.answer.ensures ∙ c.in-Presumed.is) in
    calm_steps g.P.TakePolicy.policy g.D.Disk.tells step c.args.self.now c.args.self.now (g.D.Disk.seen c.args.disk.now) terms past (Ev.Again c.args.tid) (quiet (Ev.Again c.args.tid) Say.Idle) k c.requires.up can tt
    (again_gone terms past c.args.tid (stands_gone By.Nothing c.in-Presumed.field-0 (standing terms.protocols past c.args.tid) said)) refl (quiet_calm (Ev.Again c.args.tid) Say.Idle tt tt) (record { answer = told.0; sends = told.1 }) refl)

pub returns-in-Presumed-clause-failed : goal.returns-in-Presumed-clause-failed
returns-in-Presumed-clause-failed g c = made_err _ _ c.says.result c.says.ensures

pub returns-in-Presumed-clause-cause : goal.returns-in-Presumed-clause-cause
returns-in-Presumed-clause-cause g c = made_cause _ _ _ c.says.result refl c.says.ensures

pub tell-requires-clause-may : goal.tell-requires-clause-may
tell-requires-clause-may g c =
    let m = c.requires.may in
    let s = serves g.P.TakePolicy.policy g.D.Disk.tells c.args.self.now m.terms m.past m.stood.holds c.requires.up in
    let said = said_told c.args.self.now.tables m.terms m.past c.args.tid By.Nothing s ∙ (sym c.answer.ensures ∙ c.in-Known.is) in
    record { terms = m.terms; past = m.past; stood = m.stood.holds; holds = stands_decided By.Nothing c.in-Known.decision (standing m.terms.protocols m.past c.args.tid) said }

pub returns-in-Known-clause-answered : goal.returns-in-Known-clause-answered
returns-in-Known-clause-answered g c = both_ok _ _ _ c.tell.result c.tell.ensures.answer c.tell.ensures.sends (λ step answer sends terms past k can.
    let s = serves g.P.TakePolicy.policy g.D.Disk.tells c.args.self.now terms past k.holds c.requires.up in
    let said = said_told c.args.self.now.tables terms past c.args.tid By.Nothing s ∙ (sym c.answer.ensures ∙ c.in-Known.is) in
    let st = stands_decided By.Nothing c.in-Known.decision (standing terms.protocols past c.args.tid) said in
    calm_steps g.P.TakePolicy.policy g.D.Disk.tells step c.args.self.now c.args.self.now (g.D.Disk.seen c.args.disk.now) terms past (Ev.Again c.args.tid) _ k c.requires.up can tt
    (again_decided terms past c.args.tid c.in-Known.decision st) refl (tells_calm terms past c.args.tid c.in-Known.decision) (record { answer = answer; sends = sends terms past k.holds st }) refl)

pub returns-in-Known-clause-failed : goal.returns-in-Known-clause-failed
returns-in-Known-clause-failed g c = want_anyway _ c.tell.result c.tell.ensures.why (λ terms past k can.
    (k, none_at_most (0 + calls_for terms past (Ev.Again c.args.tid)) (g.D.Disk.seen c.args.disk.now) (g.D.Disk.seen c.args.disk.now) refl))

pub returns-in-Known-clause-cause : goal.returns-in-Known-clause-cause
returns-in-Known-clause-cause g c = want_cause _ c.tell.result c.tell.ensures.why
