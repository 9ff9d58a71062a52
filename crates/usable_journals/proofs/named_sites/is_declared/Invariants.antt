use Rattle.std.proofs.Common.{◌≡◌, drop}
use Rattle.usable_journals.specs.CoordTests as tests
use Rattle.usable_journals.proofs.named_sites.is_declared.Given as goal

-- the rest decides
abbrev pub invariant-loop-declared : goal.invariant-loop-declared
invariant-loop-declared l = tests.is_declared (drop l.declared-index l.protocols) l.participant ≡ tests.is_declared l.protocols l.participant
