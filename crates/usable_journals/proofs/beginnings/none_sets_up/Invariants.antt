use Rattle.std.proofs.Common.{◌≡◌, not, drop}
use Rattle.mdb_base.specs.Words.{each_of}
use Rattle.usable_journals.specs.SiteTests.{sets_up}
use Rattle.usable_journals.proofs.beginnings.none_sets_up.Given as goal

-- the rest decides
abbrev pub invariant-loop-entry : goal.invariant-loop-entry
invariant-loop-entry l = each_of (λ entry. not (sets_up entry)) (drop l.entry-index l.newer) ≡ each_of (λ entry. not (sets_up entry)) l.newer
