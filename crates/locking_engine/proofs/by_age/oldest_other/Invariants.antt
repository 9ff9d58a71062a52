use Rattle.std.proofs.Common.{◌≡◌, drop}
use Rattle.locking_engine.specs.ByAge.{first_other}
use Rattle.locking_engine.proofs.by_age.oldest_other.Given as goal

-- those that are left decide
abbrev pub invariant-loop-holder : goal.invariant-loop-holder
invariant-loop-holder l = first_other l.age l.holders ≡ first_other l.age (drop l.holder-index l.holders)
