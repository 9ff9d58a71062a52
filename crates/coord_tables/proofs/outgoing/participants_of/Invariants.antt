use Rattle.std.proofs.Common.{◌≡◌, map, take}
use Rattle.protocol_table.specs.Attempts.{participant_of}
use Rattle.coord_tables.proofs.outgoing.participants_of.Given as goal

-- the first participants are there
abbrev pub invariant-loop-member : goal.invariant-loop-member
invariant-loop-member l = l.participants.items ≡ map participant_of (take l.member-index l.member-items)
