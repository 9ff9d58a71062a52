use Rattle.std.proofs.Common.{◌≡◌, cond, take, reverse}
use Rattle.mdb_base.specs.declared.names.Key.{Key}
use Rattle.mdb_base.specs.Words.{some_of}
use Rattle.fed_rules.specs.Replies.{writes}
use Rattle.run_book.specs.Ages.{ages_of, ended}
use Rattle.run_book.proofs.accesses.AccessAges.end_all.Given as goal

abbrev pub invariant-loop-access : goal.invariant-loop-access
invariant-loop-access l =
    (q : Key) → ages_of l.self q ≡ cond (some_of (writes q) (reverse (take l.access-index l.accesses))) (ended l.end (ages_of l.fn.self q)) (ages_of l.fn.self q)
