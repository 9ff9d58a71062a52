use Rattle.std.proofs.Common.{◌≡◌, drop}
use Rattle.locking_engine.specs.Holders.{with_rows_held}
use Rattle.locking_engine.proofs.holders.hold_rows.Given as goal

abbrev pub invariant-loop-row : goal.invariant-loop-row
invariant-loop-row l = with_rows_held l.tid l.age (drop l.row-index l.rows) l.holders ≡ with_rows_held l.tid l.age l.rows l.initial.holders
