use Rattle.std.proofs.Common.{◌≡◌, drop}
use Rattle.validation_engine.specs.Index.{with_rows_sealed}
use Rattle.validation_engine.proofs.index.seal_rows.Given as goal

abbrev pub invariant-loop-row : goal.invariant-loop-row
invariant-loop-row l = with_rows_sealed l.writer (drop l.row-index l.rows) l.index ≡ with_rows_sealed l.writer l.rows l.initial.index
