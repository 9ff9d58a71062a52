use Rattle.std.proofs.Common.{◌≡◌, drop, reverse}
use Rattle.audit_lines.specs.Edges.{leaves, some_attempt}
use Rattle.audit_lines.proofs.edges.leaves_attempt.Given as goal

-- the attempts that are left decide
abbrev pub invariant-loop-attempt : goal.invariant-loop-attempt
invariant-loop-attempt l =
    some_attempt (leaves l.candidate.tid l.candidate.tickets.items (reverse l.records) l.edge) l.attempts
    ≡ some_attempt (leaves l.candidate.tid l.candidate.tickets.items (reverse l.records) l.edge) (drop l.attempt-index l.attempts)
