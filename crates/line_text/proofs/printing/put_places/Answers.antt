use Rattle.mdb_base.proofs.ForCallers.{on_err_anyway}
use Rattle.line_text.proofs.Begun.{begins_with_the_front}
use Rattle.line_text.proofs.printing.put_places.Goals as goal

-- the places so far stand behind what was there, then what there was room for
pub returns-in_err-put_place-clause-err : goal.returns-in_err-put_place-clause-err
returns-in_err-put_place-clause-err c =
    on_err_anyway c.from_residual.result (begins_with_the_front _ _ _ _ c.loop-sent.invariant c.in_err-put_place.ensures.err)
