use Rattle.std.proofs.Common.{◌≡◌, drop}
use Rattle.std.specs.Cmp.Lexicographic.{pointwise}
use Rattle.usable_journals.specs.SiteReads.{same_put}
use Rattle.usable_journals.proofs.same_sums.rows_match.Given as goal

-- what is left of both decides
abbrev pub invariant-loop-put : goal.invariant-loop-put
invariant-loop-put l = pointwise same_put (drop l.put-index l.one) l.rest ≡ pointwise same_put l.one l.other
