use Rattle.std.proofs.Common.{◌≡◌, drop}
use Rattle.mdb_base.specs.Words.{each_of}
use Rattle.usable_journals.specs.CoordTests as tests
use Rattle.usable_journals.proofs.below.tickets_below.Given as goal

-- the rest decides
abbrev pub invariant-loop-ticket : goal.invariant-loop-ticket
invariant-loop-ticket l = each_of tests.is_low (drop l.ticket-index l.tickets) ≡ each_of tests.is_low l.tickets
