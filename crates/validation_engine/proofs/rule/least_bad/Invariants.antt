use Rattle.std.proofs.Common.{◌≡◌, reverse, take}
use Rattle.validation_engine.specs.Rule.{spoiler_of, least_bad_of}
use Rattle.validation_engine.proofs.rule.least_bad.Given as goal

abbrev pub invariant-loop-access : goal.invariant-loop-access
invariant-loop-access l = l.least ≡ least_bad_of (spoiler_of l.index l.run.run.age) (reverse (take l.access-index l.access-items))
