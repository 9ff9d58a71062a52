use Rattle.std.proofs.Common.{◌≡◌, take, map}
use Rattle.protocol_table.specs.Attempts.{member_of}
use Rattle.protocol_table.proofs.members.Members.before_votes.Given as goal

abbrev pub invariant-loop-participant : goal.invariant-loop-participant
invariant-loop-participant l = l.items.items ≡ map member_of (take l.participant-index l.participant-items)
