use Rattle.std.proofs.Common.{take}
use Rattle.mdb_base.specs.Words.{some_of}
use Rattle.usable_journals.specs.Named.{AddsTo, is_open_of}
use Rattle.usable_journals.proofs.unnamed.add_open.Given as goal

-- the first ones were added
abbrev pub invariant-loop-attempt : goal.invariant-loop-attempt
invariant-loop-attempt l = AddsTo (λ tx. some_of (is_open_of tx) (take l.attempt-index l.attempts)) l.fn.names l.names
