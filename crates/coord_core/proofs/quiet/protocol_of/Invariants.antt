use Rattle.std.proofs.Common.{◌≡◌, drop}
use Rattle.fed_rules.specs.Coord.{protocol_of}
use Rattle.coord_core.proofs.quiet.protocol_of.Given as goal

-- the first participants are of other sites
abbrev pub invariant-loop-member : goal.invariant-loop-member
invariant-loop-member l = protocol_of (drop l.member-index l.member-items) l.site ≡ protocol_of l.member-items l.site
