use Rattle.std.proofs.Common.{◌∙◌}
use Rattle.coord_tables.proofs.Reaches.{found_next}
use Rattle.coord_tables.proofs.found.begun_by.Goals as goal

pub loop-record-preserved : goal.loop-record-preserved
loop-record-preserved c tx =
    found_next tx _ _ c.args.records.now c.loop-record.record-index c.record-item.result c.loop-record-test.true c.record-item.is (c.in_ok-reach_record.ensures tx)
    ∙ c.loop-record.invariant tx
