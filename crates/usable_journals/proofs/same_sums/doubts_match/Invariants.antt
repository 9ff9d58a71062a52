use Rattle.std.proofs.Common.{◌≡◌, drop}
use Rattle.std.specs.Cmp.Lexicographic.{pointwise}
use Rattle.usable_journals.specs.SiteReads.{same_held}
use Rattle.usable_journals.proofs.same_sums.doubts_match.Given as goal

-- what is left of both decides
abbrev pub invariant-loop-held : goal.invariant-loop-held
invariant-loop-held l = pointwise same_held (drop l.held-index l.one) l.rest ≡ pointwise same_held l.one l.other
