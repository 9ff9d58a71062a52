use Rattle.std.proofs.Common.{◌≡◌, ◌+◌, ◌∷◌, List}
use Rattle.mdb_base.specs.declared.names.Engine.TheVariants.{Validation}
use Rattle.fed_rules.specs.Runs.{Start, EngineLine, Begins}
use Rattle.run_book.specs.Book.{begins}
use Rattle.run_book.proofs.ForCallers.{free_after, if_ok-both}
use Rattle.validation_engine.specs.declared.engine.ValidationEngine.{ValidationEngine}
use Rattle.validation_engine.specs.Stands.{Stands}
use Rattle.validation_engine.proofs.Indexed.{kept_same}
use Rattle.validation_engine.proofs.Lines.{stands_begins}
use Rattle.validation_engine.proofs.engine.ValidationEngineLocalEngine.begin.Goals as goal

pub returns-clause-begun : goal.returns-clause-begun
returns-clause-begun c =
    let old = c.args.self.now in
    let book = old.book.book in
    let new : ValidationEngine = record old { book = c.begin.new.self } in
    if_ok-both c.begin.result (λ n. n ≡ book.counters.counter + 1) (λ n. c.begin.new.self.book ≡ begins c.args.tid book)
    (λ n. (start : Start) (lines : List EngineLine) → Stands old start lines → Stands new start (Begins c.args.tid n ∷ lines))
    (λ n number made start lines s.
    stands_begins old new start lines c.args.tid n s (free_after Validation book start lines c.requires.start c.requires.lines c.args.tid s.keeps.keeps c.requires.stood.keeps.keeps c.requires.holds.free)
    number made c.begin.ensures.room (kept_same old.index))
    c.begin.ensures.number c.begin.ensures.begun
