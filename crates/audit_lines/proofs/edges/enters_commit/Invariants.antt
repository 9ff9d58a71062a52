use Rattle.std.proofs.Common.{◌≡◌, take, reverse}
use Rattle.audit_lines.specs.Edges.{enters, some_commit}
use Rattle.audit_lines.proofs.edges.enters_commit.Given as goal

-- whether the first records tell one
abbrev pub invariant-loop-entry : goal.invariant-loop-entry
invariant-loop-entry l = l.found ≡ some_commit (enters l.edge l.from) (reverse (take l.entry-index l.records))
