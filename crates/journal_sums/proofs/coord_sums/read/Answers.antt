use Rattle.std.proofs.Common.{sym, ap, ◌∙◌}
use Rattle.journal_sums.specs.CoordReadings.{read_with}
use Rattle.journal_sums.proofs.coord_sums.read.Goals as goal

pub returns-in-End : goal.returns-in-End
returns-in-End c = c.with_end.ensures c.args.protocols.now ∙ ap (read_with c.args.protocols.now c.args.sum) (sym c.in-End.is)
