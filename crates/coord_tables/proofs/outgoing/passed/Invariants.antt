use Rattle.std.proofs.Common.{◌≡◌, take}
use Rattle.coord_tables.specs.Sending.{passed}
use Rattle.coord_tables.proofs.outgoing.passed.Given as goal

-- those of the first ones
abbrev pub invariant-loop-due : goal.invariant-loop-due
invariant-loop-due l = l.through ≡ passed l.may (take l.due-index l.due-items)
