use Rattle.std.proofs.Common.{◌≡◌, drop}
use Rattle.audit_lines.specs.Edges.{enters, some_attempt}
use Rattle.audit_lines.proofs.edges.enters_attempt.Given as goal

-- the attempts that are left decide
abbrev pub invariant-loop-attempt : goal.invariant-loop-attempt
invariant-loop-attempt l = some_attempt (enters l.edge l.from) l.attempts ≡ some_attempt (enters l.edge l.from) (drop l.attempt-index l.attempts)
