use Rattle.std.proofs.Common.{take}
use Rattle.mdb_base.specs.Words.{some_of}
use Rattle.usable_journals.specs.Named.{AddsTo, is_attempt_of}
use Rattle.usable_journals.proofs.unnamed.add_all.Given as goal

-- the first ones were added
abbrev pub invariant-loop-entry : goal.invariant-loop-entry
invariant-loop-entry l = AddsTo (λ tx. some_of (is_attempt_of tx) (take l.entry-index l.entries)) l.fn.names l.names
