use Rattle.std.proofs.Common.{◌&&◌, sym, ap, ap₂, ◌∙◌}
use Rattle.std.specs.Prelude.{option_copied}
use Rattle.mdb_base.specs.declared.names.Tid.{Tid}
use Rattle.fed_rules.specs.CoordPast.{has_sent, is_prepare_of}
use Rattle.protocol_table.proofs.ForCallers.{classes_agree}
use Rattle.coord_tables.proofs.Initiations.{known_some}
use Rattle.coord_tables.proofs.Phases.{stage_found, stage_there}
use Rattle.coord_tables.proofs.tables.Tables.has_abort.Goals as goal

pub unreachable-requires-in-None-stage_of : goal.unreachable-requires-in-None-stage_of
unreachable-requires-in-None-stage_of c =
    let r = c.requires in
    stage_there r.terms r.past c.args.tid c.args.self.now.stages.listed r.sound r.serving.stages r.holds (sym c.stage_of.ensures ∙ c.in-None-stage_of.is)

pub returns : goal.returns
returns c = λ terms past sound s u.
    let k = known_some c.args.self.now terms past c.args.tid c.in-Some.known.now s u (sym c.known.ensures ∙ ap option_copied c.in-Some.is) in
    let f = stage_found terms.protocols past c.args.tid c.args.self.now.stages.listed c.in-Some-stage_of.stage s.stages.each (sym c.stage_of.ensures ∙ c.in-Some-stage_of.is) in
    ap₂ (λ a b. a && b) (c.has_abort-records.ensures ∙ (classes_agree terms.protocols past c.args.tid c.in-Some.known.now k).abort)
    (f.0.prepares ∙ ap (λ (t : Tid). has_sent (is_prepare_of t) past) f.1)
