use Rattle.std.proofs.Common.{◌≡◌, take}
use Rattle.fed_rules.specs.Coord.{decide_to}
use Rattle.coord_tables.proofs.messages.decide_to.Given as goal

-- the first messages are there
abbrev pub invariant-loop-member : goal.invariant-loop-member
invariant-loop-member l = l.sends ≡ decide_to l.tid l.decision (take l.member-index l.member-items)
