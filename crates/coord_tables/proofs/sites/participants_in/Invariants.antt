use Rattle.std.proofs.Common.{◌≡◌, take}
use Rattle.fed_rules.specs.CoordPast.{participants_of}
use Rattle.coord_tables.proofs.sites.participants_in.Given as goal

-- those of the first ones
abbrev pub invariant-loop-member : goal.invariant-loop-member
invariant-loop-member l = l.members.items ≡ participants_of (take l.member-index l.member-items) l.steps
