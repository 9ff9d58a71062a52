use Rattle.std.proofs.lemmas.Result.{on_ok_weaker}
use Rattle.coord_tables.proofs.Reaches.{committed_small, open_small, sum_reached}
use Rattle.coord_tables.proofs.found.reach_record.Goals as goal

pub reach_open-requires : goal.reach_open-requires
reach_open-requires c = open_small c.args.kept.now c.in-Checkpoint.sum c.as_slice.result.now c.requires c.in-Checkpoint.is c.as_slice.ensures

pub reach_committed-requires : goal.reach_committed-requires
reach_committed-requires c = committed_small c.args.kept.now c.in-Checkpoint.sum c.as_slice-in-Checkpoint.result.now c.requires c.in-Checkpoint.is c.as_slice-in-Checkpoint.ensures

pub returns-in_ok-reach_open-in-Checkpoint : goal.returns-in_ok-reach_open-in-Checkpoint
returns-in_ok-reach_open-in-Checkpoint c =
    on_ok_weaker c.reach_committed.result
    (λ second tx. sum_reached tx c.args.kept.now c.in-Checkpoint.sum c.as_slice.result.now c.as_slice-in-Checkpoint.result.now _ _ _ c.in-Checkpoint.is c.as_slice.ensures c.as_slice-in-Checkpoint.ensures
    (c.in_ok-reach_open-in-Checkpoint.ensures tx) (second tx))
    c.reach_committed.ensures
