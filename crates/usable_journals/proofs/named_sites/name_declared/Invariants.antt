use Rattle.std.proofs.Common.{◌≡◌, drop}
use Rattle.mdb_base.specs.Words.{each_of}
use Rattle.usable_journals.specs.CoordTests as tests
use Rattle.usable_journals.proofs.named_sites.name_declared.Given as goal

-- the rest decides
abbrev pub invariant-loop-entry : goal.invariant-loop-entry
invariant-loop-entry l = each_of (tests.names_declared l.protocols) (drop l.entry-index l.records) ≡ each_of (tests.names_declared l.protocols) l.records
