use Rattle.std.proofs.Common.{List, ap, ◌∙◌}
use Rattle.mdb_base.proofs.ForCallers.{map_ok}
use Rattle.presumptions.specs.declared.Participant.{Participant}
use Rattle.fed_rules.specs.Coord.{decide_to}
use Rattle.coord_tables.proofs.tables.Tables.decisions.Goals as goal

pub returns : goal.returns
returns c = map_ok _ _ c.decide_to.result c.decide_to.ensures (λ sends is terms past sound s u.
    is ∙ ap (λ (ps : List Participant). decide_to c.args.tid c.args.decision ps) (c.in_ok-members.ensures terms past sound s u))
