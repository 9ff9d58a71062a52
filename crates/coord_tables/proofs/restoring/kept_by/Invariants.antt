use Rattle.std.proofs.Common.{◌≡◌, map, take}
use Rattle.mdb_base.specs.Words.{those}
use Rattle.coord_tables.specs.Starting.{is_awaited, restored_by}
use Rattle.coord_tables.proofs.restoring.kept_by.Given as goal

-- those of the first ones
abbrev pub invariant-loop-attempt : goal.invariant-loop-attempt
invariant-loop-attempt l = l.kept.items ≡ map (restored_by l.sum.committed) (those (is_awaited l.sum.committed) (take l.attempt-index l.attempt-items))
