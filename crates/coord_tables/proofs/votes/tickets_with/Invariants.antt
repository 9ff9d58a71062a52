use Rattle.std.proofs.Common.{◌≡◌, map, take}
use Rattle.coord_tables.specs.Voting.{ticket_with}
use Rattle.coord_tables.proofs.votes.tickets_with.Given as goal

-- those of the first members
abbrev pub invariant-loop-member : goal.invariant-loop-member
invariant-loop-member l = l.tickets.items ≡ map (ticket_with l.site l.ticket) (take l.member-index l.member-items)
