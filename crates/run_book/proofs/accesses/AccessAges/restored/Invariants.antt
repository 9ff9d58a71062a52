use Rattle.std.proofs.Common.{◌≡◌, drop, None}
use Rattle.mdb_base.specs.declared.names.Key.{Key}
use Rattle.run_book.specs.Ages.{ages_of, no_ages, restored_writer}
use Rattle.run_book.proofs.accesses.AccessAges.restored.Given as goal

abbrev pub invariant-loop-kept : goal.invariant-loop-kept
invariant-loop-kept l =
    (q : Key) → record (ages_of l.ages q) { writer = restored_writer (drop l.kept-index l.doubtful) q (ages_of l.ages q).writer }
    ≡ record no_ages { writer = restored_writer l.doubtful q None }
