use Rattle.std.proofs.Common.{sym, ap, ◌∙◌, take, reverse}
use Rattle.fed_rules.specs.CoordSums.{coord_journal_sum}
use Rattle.journal_sums.specs.CoordReadings.{read_with}
use Rattle.journal_sums.proofs.CoordReadingLaws.{journal_with, next_first}
use Rattle.journal_sums.proofs.coord_sums.read_coord_sum.Goals as goal

pub loop-entry-preserved : goal.loop-entry-preserved
loop-entry-preserved c =
    let protocols = c.args.protocols.now in
    let records = c.args.records.now in
    let entry = c.entry-item.result in
    c.in_ok-sum.ensures
    ∙ ap (λ sum. read_with protocols sum entry) c.loop-entry.invariant
    ∙ journal_with protocols (reverse (take c.loop-entry.entry-index records)) entry
    ∙ ap (coord_journal_sum protocols) (sym (next_first records c.loop-entry.entry-index entry c.loop-entry-test.true c.entry-item.is))
