use Rattle.std.proofs.Common.{◌≡◌, drop}
use Rattle.audit_lines.specs.Edges.{has_greater}
use Rattle.audit_lines.proofs.edges.has_greater.Given as goal

-- the tickets that are left decide
abbrev pub invariant-loop-other : goal.invariant-loop-other
invariant-loop-other l = has_greater l.site l.ticket l.others ≡ has_greater l.site l.ticket (drop l.other-index l.others)
