use Rattle.std.proofs.Common.{◌+◌, true, sym, refl, ◌∙◌}
use Rattle.mdb_base.proofs.ForCallers.{map_ok, map_on_err}
use Rattle.fed_rules.specs.declared.answers.Answer.TheVariants as Say
use Rattle.fed_rules.specs.declared.events.CoordEvent.TheVariants as Ev
use Rattle.fed_rules.specs.Happenings.{quiet}
use Rattle.coord_tables.proofs.ForCallers.{go_committed, go_running, quiet_calm, running_is}
use Rattle.journal_disk.proofs.ForCallers.{none_at_most}
use Rattle.coord_core.specs.Stands.{calls_for}
use Rattle.coord_core.proofs.Events.{calm_steps}
use Rattle.coord_core.proofs.Made.{made_err, made_ok, made_on_err}
use Rattle.coord_core.proofs.Still.{serves}
use Rattle.coord_core.proofs.coord.CoordCore.go.Goals as goal

pub returns-in-Some-clause-answered : goal.returns-in-Some-clause-answered
returns-in-Some-clause-answered g c = made_ok _ _ c.says.result c.says.ensures (λ step said tells seen terms past k can.
    let s = serves g.P.TakePolicy.policy tells c.args.self.now terms past k.holds c.requires.up in
    calm_steps g.P.TakePolicy.policy tells step c.args.self.now c.args.self.now seen terms past (Ev.Go c.args.tid c.args.program) (quiet (Ev.Go c.args.tid c.args.program) (Say.Committed c.in-Some.committed)) k c.requires.up can tt
    (go_committed terms past c.args.tid c.args.program c.in-Some.committed (sym (s.committed c.args.tid.tx) ∙ sym c.last_of.ensures ∙ c.in-Some.is)) refl
    (quiet_calm (Ev.Go c.args.tid c.args.program) (Say.Committed c.in-Some.committed) tt tt) (record { answer = said.0; sends = said.1 }) refl)

pub returns-in-Some-clause-memory : goal.returns-in-Some-clause-memory
returns-in-Some-clause-memory g c = made_on_err _ _ c.says.result c.says.ensures

pub returns-in-Some-clause-why : goal.returns-in-Some-clause-why
returns-in-Some-clause-why g c = made_err _ _ c.says.result c.says.ensures

pub returns-in-Some-last_of-clause-answered : goal.returns-in-Some-last_of-clause-answered
returns-in-Some-last_of-clause-answered g c = made_ok _ _ c.says-in-Some-last_of.result c.says-in-Some-last_of.ensures (λ step said tells seen terms past k can.
    let s = serves g.P.TakePolicy.policy tells c.args.self.now terms past k.holds c.requires.up in
    calm_steps g.P.TakePolicy.policy tells step c.args.self.now c.args.self.now seen terms past (Ev.Go c.args.tid c.args.program) (quiet (Ev.Go c.args.tid c.args.program) (Say.Running c.in-Some-last_of.running)) k c.requires.up can tt
    (go_running terms past c.args.tid c.args.program c.in-Some-last_of.running (sym (s.committed c.args.tid.tx) ∙ sym c.last_of.ensures ∙ c.in-None.is)
    (sym (running_is c.args.self.now.tables terms past c.args.tid.tx s) ∙ sym c.last_of-in-None.ensures ∙ c.in-Some-last_of.is)) refl
    (quiet_calm (Ev.Go c.args.tid c.args.program) (Say.Running c.in-Some-last_of.running) tt tt) (record { answer = said.0; sends = said.1 }) refl)

pub returns-in-Some-last_of-clause-memory : goal.returns-in-Some-last_of-clause-memory
returns-in-Some-last_of-clause-memory g c = made_on_err _ _ c.says-in-Some-last_of.result c.says-in-Some-last_of.ensures

pub returns-in-Some-last_of-clause-why : goal.returns-in-Some-last_of-clause-why
returns-in-Some-last_of-clause-why g c = made_err _ _ c.says-in-Some-last_of.result c.says-in-Some-last_of.ensures

pub begin-requires-clause-may : goal.begin-requires-clause-may
begin-requires-clause-may g c =
    let m = c.requires.may in
    let s = serves g.P.TakePolicy.policy true c.args.self.now m.terms m.past m.stood c.requires.up in
    record {
      terms = m.terms;
      past = m.past;
      stood = m.stood;
      holds = record {
        can = m.holds;
        uncommitted = sym (s.committed c.args.tid.tx) ∙ sym c.last_of.ensures ∙ c.in-None.is;
        idle = sym (running_is c.args.self.now.tables m.terms m.past c.args.tid.tx s) ∙ sym c.last_of-in-None.ensures ∙ c.in-None-last_of.is;
      };
    }

pub returns-in-None-last_of-clause-answered : goal.returns-in-None-last_of-clause-answered
returns-in-None-last_of-clause-answered g c = map_ok _ _ c.begin.result c.begin.ensures.answered (λ step each tells seen terms past k can.
    let s = serves g.P.TakePolicy.policy tells c.args.self.now terms past k.holds c.requires.up in
    each tells seen terms past k (record {
      can = can;
      uncommitted = sym (s.committed c.args.tid.tx) ∙ sym c.last_of.ensures ∙ c.in-None.is;
      idle = sym (running_is c.args.self.now.tables terms past c.args.tid.tx s) ∙ sym c.last_of-in-None.ensures ∙ c.in-None-last_of.is;
    }))

pub returns-in-None-last_of-clause-memory : goal.returns-in-None-last_of-clause-memory
returns-in-None-last_of-clause-memory g c = map_on_err _ _ c.begin.result c.begin.ensures.memory (λ each tells seen terms past k can.
    (each tells seen terms past k, none_at_most (0 + calls_for terms past (Ev.Go c.args.tid c.args.program)) seen seen refl))
