use Rattle.std.proofs.Common.{◌≡◌, drop, reverse}
use Rattle.audit_lines.specs.Edges.{goes_on, is_edge}
use Rattle.audit_lines.proofs.votes.Candidate.goes_round.Given as goal

-- the edges that are left decide
abbrev pub invariant-loop-edge : goal.invariant-loop-edge
invariant-loop-edge l =
    goes_on (is_edge l.self.tid l.self.tickets.items (reverse l.records)) l.self.tid l.edges l.self.tid
    ≡ goes_on (is_edge l.self.tid l.self.tickets.items (reverse l.records)) l.at (drop l.edge-index l.edges) l.self.tid
