use Rattle.std.proofs.Common.{◌≡◌, drop}
use Rattle.mdb_base.specs.Words.{each_of}
use Rattle.usable_journals.specs.CoordTests as tests
use Rattle.usable_journals.proofs.named_sites.are_declared.Given as goal

-- the rest decides
abbrev pub invariant-loop-participant : goal.invariant-loop-participant
invariant-loop-participant l = each_of (tests.is_declared l.protocols) (drop l.participant-index l.participants) ≡ each_of (tests.is_declared l.protocols) l.participants
