use Rattle.std.proofs.Common.{◌≡◌, drop}
use Rattle.fed_rules.specs.CoordRecords.{acking}
use Rattle.coord_tables.proofs.restoring.some_acks.Given as goal

-- the first ones don't acknowledge it
abbrev pub invariant-loop-participant : goal.invariant-loop-participant
invariant-loop-participant l = acking l.decision (drop l.participant-index l.participant-items) ≡ acking l.decision l.participant-items
