use Rattle.std.proofs.Common.{◌≡◌, map, take}
use Rattle.mdb_base.specs.Words.{those}
use Rattle.protocol_table.specs.Attempts.{lacks_ack, participant_of}
use Rattle.coord_core.proofs.repeating.missing_of.Given as goal

-- those of the first members
abbrev pub invariant-loop-member : goal.invariant-loop-member
invariant-loop-member l = l.members.items ≡ map participant_of (those (lacks_ack l.decision l.known.initiated) (take l.member-index l.member-items))
