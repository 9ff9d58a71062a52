use Rattle.std.proofs.Common.{◌≡◌, drop}
use Rattle.coord_tables.specs.Starting.{is_committed}
use Rattle.coord_tables.proofs.restoring.is_committed.Given as goal

-- the first ones are other ones
abbrev pub invariant-loop-attempt : goal.invariant-loop-attempt
invariant-loop-attempt l = is_committed (drop l.attempt-index l.attempt-items) l.tid ≡ is_committed l.attempt-items l.tid
