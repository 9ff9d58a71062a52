use Rattle.std.proofs.Common.{◌≡◌, drop}
use Rattle.fed_rules.specs.CoordRecords.{has_ticket}
use Rattle.usable_journals.proofs.copies.has_ticket.Given as goal

-- the first ones are of other sites
abbrev pub invariant-loop-ticket : goal.invariant-loop-ticket
invariant-loop-ticket l = has_ticket (drop l.ticket-index l.ticket-items) l.site ≡ has_ticket l.ticket-items l.site
