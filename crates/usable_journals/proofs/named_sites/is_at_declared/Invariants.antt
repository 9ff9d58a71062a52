use Rattle.std.proofs.Common.{◌≡◌, drop}
use Rattle.usable_journals.specs.CoordTests as tests
use Rattle.usable_journals.proofs.named_sites.is_at_declared.Given as goal

-- the rest decides
abbrev pub invariant-loop-declared : goal.invariant-loop-declared
invariant-loop-declared l = tests.is_at_declared (drop l.declared-index l.protocols) l.ticket ≡ tests.is_at_declared l.protocols l.ticket
