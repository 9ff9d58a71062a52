use Rattle.std.proofs.Common.{◌≡◌, drop}
use Rattle.mdb_base.specs.Words.{each_of}
use Rattle.usable_journals.specs.CoordTests as tests
use Rattle.usable_journals.proofs.named_sites.are_at_declared.Given as goal

-- the rest decides
abbrev pub invariant-loop-ticket : goal.invariant-loop-ticket
invariant-loop-ticket l = each_of (tests.is_at_declared l.protocols) (drop l.ticket-index l.tickets) ≡ each_of (tests.is_at_declared l.protocols) l.tickets
