use Rattle.std.proofs.Common.{sym, refl, ◌∙◌}
use Rattle.mdb_base.proofs.ForCallers.{map_err, map_ok}
use Rattle.presumptions.specs.declared.Protocol.TheVariants as By
use Rattle.fed_rules.specs.declared.answers.Answer.TheVariants as Say
use Rattle.fed_rules.specs.declared.events.CoordEvent.TheVariants as Ev
use Rattle.fed_rules.specs.declared.messages.FromSite.TheVariants as From
use Rattle.fed_rules.specs.Happenings.{quiet}
use Rattle.fed_rules.specs.CoordPast.{standing}
use Rattle.protocol_table.specs.Attempts.{known_of}
use Rattle.coord_tables.proofs.ForCallers.{ack_ignored, counted_presumed, counted_undecided, said_told, stands_decided, uncounted_calm}
use Rattle.coord_core.proofs.Events.{calm_steps}
use Rattle.coord_core.proofs.Made.{made_cause, made_err, made_ok}
use Rattle.coord_core.proofs.Still.{serves}
use Rattle.coord_core.proofs.coord.CoordCore.ack.Goals as goal

pub returns-else-awaits_ack-clause-answered : goal.returns-else-awaits_ack-clause-answered
returns-else-awaits_ack-clause-answered g c = made_ok _ _ c.ignored.result c.ignored.ensures (λ step told terms past k can.
    let s = serves g.P.TakePolicy.policy g.D.Disk.tells c.args.self.now terms past k.holds c.requires.up in
    calm_steps g.P.TakePolicy.policy g.D.Disk.tells step c.args.self.now c.args.self.now (g.D.Disk.seen c.args.disk.now) terms past (Ev.Take c.args.site (From.Ack c.args.tid))
    (quiet (Ev.Take c.args.site (From.Ack c.args.tid)) Say.Ignored) k c.requires.up can tt
    (ack_ignored c.args.self.now.tables terms past c.args.site c.args.tid s (sym c.awaits_ack.ensures ∙ c.if-awaits_ack.false)) refl
    (uncounted_calm (Ev.Take c.args.site (From.Ack c.args.tid)) Say.Ignored tt refl) (record { answer = told.0; sends = told.1 }) refl)

pub returns-else-awaits_ack-clause-failed : goal.returns-else-awaits_ack-clause-failed
returns-else-awaits_ack-clause-failed g c = made_err _ _ c.ignored.result c.ignored.ensures

pub returns-else-awaits_ack-clause-cause : goal.returns-else-awaits_ack-clause-cause
returns-else-awaits_ack-clause-cause g c = made_cause _ _ _ c.ignored.result refl c.ignored.ensures

pub ack_known-requires-clause-may : goal.ack_known-requires-clause-may
ack_known-requires-clause-may g c =
    let m = c.requires.may in
    let s = serves g.P.TakePolicy.policy g.D.Disk.tells c.args.self.now m.terms m.past m.stood.holds c.requires.up in
    let said = said_told c.args.self.now.tables m.terms m.past c.args.tid By.Nothing s ∙ (sym c.answer.ensures ∙ c.in-Known.is) in
    record { terms = m.terms; past = m.past; stood = m.stood; holds = stands_decided By.Nothing c.in-Known.decision (standing m.terms.protocols m.past c.args.tid) said }

pub returns-in-Known-clause-answered : goal.returns-in-Known-clause-answered
returns-in-Known-clause-answered g c = map_ok _ _ c.ack_known.result c.ack_known.ensures.answered (λ step each terms past k can.
    let s = serves g.P.TakePolicy.policy g.D.Disk.tells c.args.self.now terms past k.holds c.requires.up in
    let said = said_told c.args.self.now.tables terms past c.args.tid By.Nothing s ∙ (sym c.answer.ensures ∙ c.in-Known.is) in
    each terms past k (stands_decided By.Nothing c.in-Known.decision (standing terms.protocols past c.args.tid) said))

pub returns-in-Known-clause-failed : goal.returns-in-Known-clause-failed
returns-in-Known-clause-failed g c = map_err _ _ c.ack_known.result c.ack_known.ensures.failed (λ why each terms past k can.
    let s = serves g.P.TakePolicy.policy g.D.Disk.tells c.args.self.now terms past k.holds c.requires.up in
    let said = said_told c.args.self.now.tables terms past c.args.tid By.Nothing s ∙ (sym c.answer.ensures ∙ c.in-Known.is) in
    each terms past k (stands_decided By.Nothing c.in-Known.decision (standing terms.protocols past c.args.tid) said))

pub unreachable-requires : goal.unreachable-requires
unreachable-requires g c =
    counted_undecided c.args.site (known_of c.args.tid c.args.self.now.tables.known) (sym c.awaits_ack.ensures ∙ c.if-awaits_ack.true) (sym c.answer.ensures ∙ c.in-Undecided.is)

pub unreachable-requires-in-Presumed : goal.unreachable-requires-in-Presumed
unreachable-requires-in-Presumed g c =
    counted_presumed c.args.site (known_of c.args.tid c.args.self.now.tables.known) c.in-Presumed.field-0 (sym c.awaits_ack.ensures ∙ c.if-awaits_ack.true) (sym c.answer.ensures ∙ c.in-Presumed.is)
