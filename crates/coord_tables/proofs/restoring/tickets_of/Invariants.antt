use Rattle.std.proofs.Common.{◌≡◌, map, take}
use Rattle.coord_tables.specs.Starting.{ticketed_by}
use Rattle.coord_tables.proofs.restoring.tickets_of.Given as goal

-- the first ones are there
abbrev pub invariant-loop-attempt : goal.invariant-loop-attempt
invariant-loop-attempt l = l.commits.items ≡ map ticketed_by (take l.attempt-index l.attempt-items)
