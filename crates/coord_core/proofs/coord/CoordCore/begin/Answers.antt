use Rattle.std.proofs.Common.{ℕ, List, true, refl, ap, ◌∙◌, ◌≡◌, None, [], ◌∷◌, ◌++◌, map, sym, subst}
use Rattle.mdb_base.specs.declared.acts.Step.{Step}
use Rattle.mdb_base.specs.Names.{same_tx}
use Rattle.std.specs.Prelude.{cond, ◌+◌}
use Rattle.fed_rules.specs.declared.answers.Answer.TheVariants as Say
use Rattle.fed_rules.specs.declared.events.CoordStep.{CoordStep}
use Rattle.fed_rules.specs.CoordPast.{participants_of, visits}
use Rattle.fed_rules.specs.Coord.{send_due}
use Rattle.global_exec.specs.Live.{all_due, live_of, submitted}
use Rattle.protocol_table.specs.Attempts.{known_of, submitted as submitted_known}
use Rattle.coord_core.specs.declared.coord.CoordCore.{CoordCore}
use Rattle.coord_tables.specs.declared.stages.Stage.{Stage}
use Rattle.coord_tables.specs.Attempts.{last_of}
use Rattle.coord_tables.specs.Stages.{fresh_stage}
use Rattle.coord_tables.proofs.ForCallers.{none_known, none_live, running_is}
use Rattle.coord_core.proofs.Beginnings.{begun_steps, stands_listed}
use Rattle.coord_core.proofs.Still.{serves}
use Rattle.coord_core.proofs.coord.CoordCore.begin.Goals as goal

pub begin-requires-clause-known : goal.begin-requires-clause-known
begin-requires-clause-known g c =
    let m = c.requires.may in
    subst (λ (one : Stage). known_of one.tid c.args.self.now.tables.known ≡ None) (sym c.fresh-stage.ensures)
    (none_known m.terms m.past c.args.tid c.args.program m.stood.sound m.holds.can c.args.self.now.tables (serves g.P.TakePolicy.policy true c.args.self.now m.terms m.past m.stood c.requires.up))

pub begin-requires-clause-live : goal.begin-requires-clause-live
begin-requires-clause-live g c =
    let m = c.requires.may in
    subst (λ (one : Stage). live_of one.tid c.args.self.now.tables.exec ≡ None) (sym c.fresh-stage.ensures)
    (none_live m.terms m.past c.args.tid c.args.program m.stood.sound m.holds.can c.args.self.now.tables (serves g.P.TakePolicy.policy true c.args.self.now m.terms m.past m.stood c.requires.up))

pub begin-requires-clause-idle : goal.begin-requires-clause-idle
begin-requires-clause-idle g c =
    let m = c.requires.may in
    let tables = c.args.self.now.tables in
    subst (λ (one : Stage). last_of one.tid.tx (map (λ (s : Stage). s.tid) tables.stages.listed) ≡ None) (sym c.fresh-stage.ensures)
    (running_is tables m.terms m.past c.args.tid.tx (serves g.P.TakePolicy.policy true c.args.self.now m.terms m.past m.stood c.requires.up) ∙ m.holds.idle)

pub returns-clause-answered : goal.returns-clause-answered
returns-clause-answered g c = λ tells seen terms past k can.
    let old = c.args.self.now in
    let new : CoordCore g.row.P.Denot = record old { tables = c.begin.new.self; begun = c.note.new.self } in
    let is : c.fresh-stage.result ≡ fresh_stage c.args.tid c.sites_of-sites.result = c.fresh-stage.ensures in
    let step : CoordStep = record { answer = Say.Begun c.args.tid; sends = c.in-Ok-begin.sends } in
    begun_steps g.P.TakePolicy.policy tells step old new seen terms past c.args.tid c.args.program c.sites_of-sites.result c.in-Ok.members k c.requires.up can
    (λ site least most. c.sites_of-sites.ensures site least most ∙ ap (λ (steps : List Step). visits site steps) c.steps.ensures.steps)
    (c.in-Ok.ensures ∙ ap (λ (steps : List Step). participants_of old.protocols steps) c.steps-2.ensures.steps)
    (record {
      known = subst (λ (one : Stage). c.begin.new.self.known ≡ old.tables.known ++ submitted_known one.tid c.in-Ok.members ∷ []) is c.in-Ok-begin.ensures.known;
      exec = subst (λ (one : Stage). c.begin.new.self.exec ≡ old.tables.exec ++ submitted one.tid c.args.program ∷ []) is c.in-Ok-begin.ensures.exec;
      stages = subst (λ (one : Stage). c.begin.new.self.stages.listed ≡ old.tables.stages.listed ++ one ∷ []) is c.in-Ok-begin.ensures.stages;
      committed = c.begin.ensures.committed;
      graph = c.begin.ensures.graph;
    }) refl refl refl
    (λ tx. c.note.ensures tx ∙ ap (λ (n : ℕ). cond (same_tx c.args.tid.tx tx) (c.args.tid.attempt + 1) n) (c.reserve.ensures.noted tx))
    refl (subst (λ (one : Stage). c.in-Ok-begin.sends ≡ map (send_due one.tid) (all_due (submitted one.tid c.args.program))) is c.in-Ok-begin.ensures.sends)

pub returns-in_default-begin-clause-memory : goal.returns-in_default-begin-clause-memory
returns-in_default-begin-clause-memory g c = λ tells seen terms past k.
    let old = c.args.self.now in
    stands_listed g.P.TakePolicy.policy tells old (record old { tables = c.begin.new.self; begun = c.reserve.new.self }) seen terms past refl refl refl c.in_default-begin.ensures.kept c.reserve.ensures.noted k
