use Rattle.std.proofs.Common.{◌≡◌, take, reverse}
use Rattle.audit_lines.specs.Edges.{leaves, some_commit}
use Rattle.audit_lines.proofs.edges.leaves_commit.Given as goal

-- whether the first records tell one
abbrev pub invariant-loop-entry : goal.invariant-loop-entry
invariant-loop-entry l = l.found ≡ some_commit (leaves l.candidate.tid l.candidate.tickets.items (reverse l.records) l.edge) (reverse (take l.entry-index l.records))
