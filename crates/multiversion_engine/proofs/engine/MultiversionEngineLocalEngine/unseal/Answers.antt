use Rattle.std.proofs.Common.{Option, refl, ap, ◌∙◌}
use Rattle.mdb_base.specs.declared.names.Engine.TheVariants.{Multiversion}
use Rattle.mdb_base.specs.Words.{map_some}
use Rattle.run_book.specs.Held.{Held, held_in}
use Rattle.run_book.specs.Book.{Book, not_sealed}
use Rattle.run_book.proofs.ForCallers.{held_in-changed_own, just_sealed_held, run_at-held, some-found, some_held, unseals_well}
use Rattle.multiversion_engine.proofs.Back.{stands_unsealed}
use Rattle.multiversion_engine.proofs.engine.MultiversionEngineLocalEngine.unseal.Goals as goal

pub run-requires : goal.run-requires
run-requires c =
    let book = c.args.self.now.book.book in
    let there = some_held _ (just_sealed_held Multiversion book c.requires.start c.requires.lines c.args.tid c.requires.stood.keeps.keeps c.requires.holds) in
    some-found _ (not_sealed there.0)
    (ap (λ (b : Book). held_in b.runs c.args.tid) c.unseal.ensures.book
    ∙ (held_in-changed_own book.runs c.args.tid not_sealed ∙ ap (λ (o : Option Held). map_some not_sealed o) there.1))

pub returns : goal.returns
returns c =
    let old = c.args.self.now in
    λ start older n s.
    let keeps = unseals_well Multiversion old.book c.unseal.new.self start older c.args.tid n s.keeps c.unseal.ensures.book c.unseal.ensures.room in
    let here = run_at-held Multiversion c.unseal.new.self.book start older c.args.tid c.run.result.now keeps.keeps c.run.ensures in
    stands_unsealed old _ start older c.args.tid n c.run.result.now.run s here c.unseal.ensures.book c.unseal.ensures.room refl c.withdraw.ensures refl refl
