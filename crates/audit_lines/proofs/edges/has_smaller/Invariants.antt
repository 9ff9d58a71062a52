use Rattle.std.proofs.Common.{◌≡◌, drop}
use Rattle.audit_lines.specs.Edges.{has_smaller}
use Rattle.audit_lines.proofs.edges.has_smaller.Given as goal

-- the tickets that are left decide
abbrev pub invariant-loop-ticket : goal.invariant-loop-ticket
invariant-loop-ticket l = has_smaller l.site l.from l.to ≡ has_smaller l.site (drop l.ticket-index l.from) l.to
