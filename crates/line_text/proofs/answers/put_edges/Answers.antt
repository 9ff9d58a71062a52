use Rattle.mdb_base.proofs.ForCallers.{on_err_anyway}
use Rattle.line_text.proofs.Begun.{begins_with_the_front}
use Rattle.line_text.proofs.answers.put_edges.Goals as goal

-- the edges so far stand behind what was there, then what there was room for
pub returns-in_err-put_edge-clause-err : goal.returns-in_err-put_edge-clause-err
returns-in_err-put_edge-clause-err c =
    on_err_anyway c.from_residual.result (begins_with_the_front _ _ _ _ c.loop-edge.invariant c.in_err-put_edge.ensures.err)
