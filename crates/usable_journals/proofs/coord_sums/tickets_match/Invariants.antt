use Rattle.std.proofs.Common.{◌≡◌, drop}
use Rattle.std.specs.Cmp.Lexicographic.{pointwise}
use Rattle.usable_journals.specs.CoordTests.{same_ticket}
use Rattle.usable_journals.proofs.coord_sums.tickets_match.Given as goal

-- what is left of both decides
abbrev pub invariant-loop-ticket : goal.invariant-loop-ticket
invariant-loop-ticket l = pointwise same_ticket (drop l.ticket-index l.one) l.rest ≡ pointwise same_ticket l.one l.other
