use Rattle.std.proofs.Common.{true, take, reverse}
use Rattle.usable_journals.specs.Numbers.{Puts, all_numbers}
use Rattle.usable_journals.proofs.numbers.take_all.Given as goal

-- the first ones were put
abbrev pub invariant-loop-entry : goal.invariant-loop-entry
invariant-loop-entry l = Puts l.fn.numbers l.numbers (all_numbers (reverse (take l.entry-index l.entries))) true
