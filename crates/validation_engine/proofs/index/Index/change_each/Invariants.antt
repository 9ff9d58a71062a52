use Rattle.std.proofs.Common.{take, reverse}
use Rattle.validation_engine.specs.Index.{IsChanged}
use Rattle.validation_engine.proofs.index.Index.change_each.Given as goal

abbrev pub invariant-loop-access : goal.invariant-loop-access
invariant-loop-access l = IsChanged l.change (reverse (take l.access-index l.accesses)) l.fn.self l.self
