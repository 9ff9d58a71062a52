use Rattle.std.proofs.Common.{◌≡◌, drop}
use Rattle.std.specs.Cmp.Lexicographic.{pointwise}
use Rattle.usable_journals.specs.CoordTests.{same_member}
use Rattle.usable_journals.proofs.coord_sums.members_match.Given as goal

-- what is left of both decides
abbrev pub invariant-loop-member : goal.invariant-loop-member
invariant-loop-member l = pointwise same_member (drop l.member-index l.one) l.rest ≡ pointwise same_member l.one l.other
