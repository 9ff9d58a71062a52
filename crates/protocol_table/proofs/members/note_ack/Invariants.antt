use Rattle.std.proofs.Common.{◌≡◌, take, drop, map, ◌++◌}
use Rattle.protocol_table.specs.Attempts.{with_ack}
use Rattle.protocol_table.proofs.members.note_ack.Given as goal

-- the first members have it, and the others are as they were
abbrev pub invariant-loop-member : goal.invariant-loop-member
invariant-loop-member l = l.members ≡ map (with_ack l.site) (take l.member-index l.initial.members) ++ drop l.member-index l.initial.members
