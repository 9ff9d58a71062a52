use Rattle.std.proofs.Common.{◌≡◌, take}
use Rattle.fed_rules.specs.CoordRecords.{ticketed}
use Rattle.usable_journals.proofs.copies.ticketed.Given as goal

-- those of the first ones
abbrev pub invariant-loop-participant : goal.invariant-loop-participant
invariant-loop-participant l = l.sites.items ≡ ticketed (take l.participant-index l.participant-items) l.tickets
