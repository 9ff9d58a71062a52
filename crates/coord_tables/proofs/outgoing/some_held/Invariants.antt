use Rattle.std.proofs.Common.{◌≡◌, drop}
use Rattle.mdb_base.specs.Words.{some_of}
use Rattle.coord_tables.specs.Sending.{is_held}
use Rattle.coord_tables.proofs.outgoing.some_held.Given as goal

-- the first ones don't pass
abbrev pub invariant-loop-due : goal.invariant-loop-due
invariant-loop-due l = some_of (is_held l.may) (drop l.due-index l.due-items) ≡ some_of (is_held l.may) l.due-items
