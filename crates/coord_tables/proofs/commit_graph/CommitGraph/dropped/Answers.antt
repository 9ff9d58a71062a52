use Rattle.std.proofs.Common.{map, take}
use Rattle.coord_tables.specs.Starting.{ticketed_by}
use Rattle.coord_tables.proofs.Graphs.{dropped_more}
use Rattle.coord_tables.proofs.commit_graph.CommitGraph.dropped.Goals as goal

pub loop-attempt-preserved : goal.loop-attempt-preserved
loop-attempt-preserved c =
    let attempts = c.as_slice-attempt-items.result.now in
    let i = c.loop-attempt.attempt-index in
    let attempt = c.attempt-item.result in (
      c.forget.ensures.kept,
      dropped_more attempts i attempt attempt c.forget.new.self c.loop-attempt-test.true c.attempt-item.is
          (c.forget.ensures.stands (map ticketed_by (take i attempts)) attempt.tid c.loop-attempt.invariant.1),
    )
