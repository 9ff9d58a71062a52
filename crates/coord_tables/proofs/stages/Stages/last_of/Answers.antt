use Rattle.std.proofs.Common.{ap, ◌∙◌}
use Rattle.mdb_base.specs.Words.{map_some}
use Rattle.coord_tables.specs.declared.stages.Stage.{Stage}
use Rattle.coord_tables.specs.Attempts.{last_of}
use Rattle.coord_tables.proofs.Staged.{last_found, tids_in}
use Rattle.coord_tables.proofs.stages.Stages.last_of.Goals as goal

pub returns-in-Some : goal.returns-in-Some
returns-in-Some c =
    ap (map_some (λ (s : Stage). s.tid)) c.in-Some.ensures.value
    ∙ last_found c.args.tx c.self.inside.stages.entries c.self.invariant ∙ ap (λ b. last_of c.args.tx (tids_in b.listed)) c.self.view_is

pub returns-in-None : goal.returns-in-None
returns-in-None c =
    ap (map_some (λ (s : Stage). s.tid)) c.in-None.ensures.value
    ∙ last_found c.args.tx c.self.inside.stages.entries c.self.invariant ∙ ap (λ b. last_of c.args.tx (tids_in b.listed)) c.self.view_is
