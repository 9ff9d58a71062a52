use Rattle.std.proofs.Common.{◌≡◌, ◌+◌, ◌∷◌, List, refl}
use Rattle.mdb_base.specs.declared.names.Engine.TheVariants.{Locking}
use Rattle.fed_rules.specs.Runs.{Start, EngineLine, Begins}
use Rattle.run_book.specs.Book.{begins}
use Rattle.run_book.proofs.ForCallers.{free_after, if_ok-both}
use Rattle.locking_engine.specs.declared.engine.LockingEngine.{LockingEngine}
use Rattle.locking_engine.specs.Stands.{Stands}
use Rattle.locking_engine.proofs.Numbers.{stands_begins}
use Rattle.locking_engine.proofs.engine.LockingEngineLocalEngine.begin.Goals as goal

pub returns-clause-begun : goal.returns-clause-begun
returns-clause-begun c =
    let old = c.args.self.now in
    let book = old.book.book in
    let new : LockingEngine = record old { book = c.begin.new.self } in
    if_ok-both c.begin.result (λ n. n ≡ book.counters.counter + 1) (λ n. c.begin.new.self.book ≡ begins c.args.tid book)
    (λ n. (start : Start) (lines : List EngineLine) → Stands old start lines → Stands new start (Begins c.args.tid n ∷ lines))
    (λ n number made start lines s.
    stands_begins old new start lines c.args.tid n s (free_after Locking book start lines c.requires.start c.requires.lines c.args.tid s.keeps.keeps c.requires.stood.keeps.keeps c.requires.holds.free)
    number made c.begin.ensures.room refl refl refl)
    c.begin.ensures.number c.begin.ensures.begun
