use Rattle.std.proofs.Common.{◌≡◌, drop}
use Rattle.std.specs.Cmp.Lexicographic.{pointwise}
use Rattle.mdb_base.specs.Names.{same_tid}
use Rattle.usable_journals.proofs.same_sums.tids_match.Given as goal

-- what is left of both decides
abbrev pub invariant-loop-tid : goal.invariant-loop-tid
invariant-loop-tid l = pointwise same_tid (drop l.tid-index l.one) l.rest ≡ pointwise same_tid l.one l.other
