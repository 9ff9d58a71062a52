use Rattle.std.proofs.Common.{◌+◌, max, cond, ap, ap₂, ◌∙◌}
use Rattle.mdb_base.specs.Names.{same_tx}
use Rattle.coord_tables.proofs.Reaches.{noted_reached}
use Rattle.coord_tables.proofs.begun.Begun.reach.Goals as goal

pub returns : goal.returns
returns c = λ tx.
    noted_reached _ _ c.args.tid tx
    (c.note.ensures tx
    ∙ ap₂ (λ a b. cond (same_tx c.args.tid.tx tx) a b) (c.max-attempts.ensures ∙ ap (λ n. max n (c.args.tid.attempt + 1)) (c.attempts_of.ensures ∙ c.reserve.ensures.noted c.args.tid.tx)) (c.reserve.ensures.noted tx))
