use Rattle.std.proofs.Common.{◌≡◌, drop}
use Rattle.mdb_base.specs.Words.{each_of}
use Rattle.usable_journals.specs.CoordTests as tests
use Rattle.usable_journals.proofs.below.are_below.Given as goal

-- the rest decides
abbrev pub invariant-loop-entry : goal.invariant-loop-entry
invariant-loop-entry l = each_of tests.is_below (drop l.entry-index l.records) ≡ each_of tests.is_below l.records
