use Rattle.std.proofs.Common.{◌≡◌, take}
use Rattle.audit_lines.specs.Votes as spec
use Rattle.audit_lines.proofs.votes.tickets_with.Given as goal

-- those of the first members
abbrev pub invariant-loop-member : goal.invariant-loop-member
invariant-loop-member l = l.tickets.items ≡ spec.tickets_with l.site l.vote (take l.member-index l.members)
