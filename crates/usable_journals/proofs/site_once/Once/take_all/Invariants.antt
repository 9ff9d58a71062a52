use Rattle.std.proofs.Common.{true, take, reverse}
use Rattle.usable_journals.specs.OnceTold.{TakesAll}
use Rattle.usable_journals.proofs.site_once.Once.take_all.Given as goal

-- the first ones were taken
abbrev pub invariant-loop-entry : goal.invariant-loop-entry
invariant-loop-entry l = TakesAll l.fn.self l.self (reverse (take l.entry-index l.entries)) true
