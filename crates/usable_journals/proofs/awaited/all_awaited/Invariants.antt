use Rattle.std.proofs.Common.{◌≡◌, drop}
use Rattle.std.specs.BTreeSet.{contains}
use Rattle.mdb_base.specs.Words.{each_of}
use Rattle.mdb_base.specs.Names.{tid_cmp}
use Rattle.usable_journals.specs.CoordTests.{is_awaited_by}
use Rattle.usable_journals.proofs.awaited.all_awaited.Given as goal

-- the rest decides
abbrev pub invariant-loop-attempt : goal.invariant-loop-attempt
invariant-loop-attempt l =
    each_of (is_awaited_by (contains tid_cmp l.committed)) (drop l.attempt-index l.attempts) ≡ each_of (is_awaited_by (contains tid_cmp l.committed)) l.attempts
