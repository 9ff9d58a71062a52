use Rattle.std.proofs.Common.{◌≡◌, cond, drop}
use Rattle.mdb_base.specs.declared.names.Key.{Key}
use Rattle.fed_rules.specs.EngineLines.{has_row}
use Rattle.run_book.specs.Ages.{ages_of, with_writer}
use Rattle.run_book.proofs.accesses.AccessAges.write_all.Given as goal

abbrev pub invariant-loop-row : goal.invariant-loop-row
invariant-loop-row l =
    (q : Key) → cond (has_row q (drop l.row-index l.rows)) (with_writer l.run (ages_of l.self q)) (ages_of l.self q)
    ≡ cond (has_row q l.rows) (with_writer l.run (ages_of l.initial.self q)) (ages_of l.initial.self q)
