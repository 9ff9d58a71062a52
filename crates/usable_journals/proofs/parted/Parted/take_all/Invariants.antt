use Rattle.std.proofs.Common.{take}
use Rattle.mdb_base.specs.Words.{some_of}
use Rattle.usable_journals.specs.PartedTold.{Adds, is_global_of}
use Rattle.usable_journals.specs.SiteTests.{is_local_of}
use Rattle.usable_journals.proofs.parted.Parted.take_all.Given as goal

-- the first ones were added
abbrev pub invariant-loop-entry : goal.invariant-loop-entry
invariant-loop-entry l = Adds (λ tx. some_of (is_local_of tx) (take l.entry-index l.entries)) (λ tx. some_of (is_global_of tx) (take l.entry-index l.entries)) l.fn.self l.self
