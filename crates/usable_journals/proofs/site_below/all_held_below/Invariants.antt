use Rattle.std.proofs.Common.{◌≡◌, drop}
use Rattle.mdb_base.specs.Words.{each_of}
use Rattle.usable_journals.specs.SiteTests as tests
use Rattle.usable_journals.proofs.site_below.all_held_below.Given as goal

-- the rest decides
abbrev pub invariant-loop-held : goal.invariant-loop-held
invariant-loop-held l = each_of tests.held_is_below (drop l.held-index l.doubtful) ≡ each_of tests.held_is_below l.doubtful
