use Rattle.std.proofs.Common.{Option, refl, ap, ◌∙◌}
use Rattle.mdb_base.specs.declared.names.Engine.TheVariants.{Timestamp}
use Rattle.mdb_base.specs.Words.{map_some}
use Rattle.run_book.specs.Held.{Held, held_in}
use Rattle.run_book.specs.Book.{Book, not_sealed}
use Rattle.run_book.proofs.ForCallers.{held_in-changed_own, just_sealed_held, some-found, some_held}
use Rattle.timestamp_engine.proofs.Lines.{stands_unsealed}
use Rattle.timestamp_engine.proofs.engine.TimestampEngineLocalEngine.unseal.Goals as goal

pub run-requires : goal.run-requires
run-requires c =
    let book = c.args.self.now.book.book in
    let there = some_held _ (just_sealed_held Timestamp book c.requires.start c.requires.lines c.args.tid c.requires.stood.keeps.keeps c.requires.holds) in
    some-found _ (not_sealed there.0)
    (ap (λ (b : Book). held_in b.runs c.args.tid) c.unseal.ensures.book
    ∙ (held_in-changed_own book.runs c.args.tid not_sealed ∙ ap (λ (o : Option Held). map_some not_sealed o) there.1))

pub returns : goal.returns
returns c =
    λ start older n s.
    stands_unsealed c.args.self.now _ start older c.args.tid n c.run.result.now s c.unseal.ensures.book c.unseal.ensures.room c.run.ensures refl c.withdraw.ensures
