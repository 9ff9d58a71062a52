use Rattle.std.proofs.Common.{◌≡◌, ◌++◌}
use Rattle.std.specs.Map.{values_of}
use Rattle.usable_journals.proofs.front_order.listed.Given as goal

abbrev pub invariant-loop-held : goal.invariant-loop-held
invariant-loop-held l = l.list.items ++ values_of l.held-iterator ≡ values_of l.initial.held-iterator
