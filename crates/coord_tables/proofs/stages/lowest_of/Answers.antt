use Rattle.std.proofs.Common.{◌++◌, map, take, sym, subst}
use Rattle.indexmap.specs.IndexMap.{values}
use Rattle.ticket_graph.specs.Reach.{IsLowest, joined}
use Rattle.global_exec.proofs.ForCallers.{read_there}
use Rattle.coord_tables.specs.declared.stages.Stage.{Stage}
use Rattle.coord_tables.specs.Stages.{stage_tickets}
use Rattle.coord_tables.proofs.Noting.{joined_next}
use Rattle.coord_tables.proofs.stages.lowest_of.Goals as goal

pub loop-place-preserved : goal.loop-place-preserved
loop-place-preserved c =
    let stages = values c.args.stages.now in
    let i = c.loop-place.place in
    let stage = c.at.result.now in
    let there = read_there stages i stage c.at.ensures in
    let before = joined (map stage_tickets (take i stages)) in
    joined_next c.meet_noted.new.lowest.at stages i stage there.0
    (subst (λ (s : Stage). IsLowest c.meet_noted.new.lowest.at (before ++ stage_tickets s)) (sym there.1) (c.meet_noted.ensures before c.loop-place.invariant))
