use Rattle.std.proofs.Common.{◌≡◌, drop}
use Rattle.mdb_base.specs.Words.{some_of}
use Rattle.fed_rules.specs.Coord.{is_prepare}
use Rattle.coord_tables.proofs.outgoing.some_prepare.Given as goal

-- the first ones don't pass
abbrev pub invariant-loop-due : goal.invariant-loop-due
invariant-loop-due l = some_of is_prepare (drop l.due-index l.due-items) ≡ some_of is_prepare l.due-items
