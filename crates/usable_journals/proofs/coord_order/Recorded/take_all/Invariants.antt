use Rattle.std.proofs.Common.{true, take, reverse}
use Rattle.usable_journals.specs.Recorded.{TakesAll}
use Rattle.usable_journals.proofs.coord_order.Recorded.take_all.Given as goal

-- the first ones were taken
abbrev pub invariant-loop-entry : goal.invariant-loop-entry
invariant-loop-entry l = TakesAll l.fn.self l.self (reverse (take l.entry-index l.entries)) true
