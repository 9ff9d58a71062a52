use Rattle.std.proofs.Common.{◌≡◌, drop}
use Rattle.mdb_base.specs.Words.{each_of}
use Rattle.usable_journals.specs.SiteTests as tests
use Rattle.usable_journals.proofs.checkpoints.are_up_to.Given as goal

-- the rest decides
abbrev pub invariant-loop-held : goal.invariant-loop-held
invariant-loop-held l = each_of (tests.is_up_to l.counter l.published) (drop l.held-index l.doubtful) ≡ each_of (tests.is_up_to l.counter l.published) l.doubtful
