use Rattle.std.proofs.Common.{◌≡◌, ℕ, ◌+◌, ◌∷◌, List, None, refl, sym, ap, ◌∙◌, arith}
use Rattle.std.specs.FinMap.{get, insert, remove}
use Rattle.std.proofs.lemmas.Result.{on_err_weaker}
use Rattle.mdb_base.specs.declared.names.Engine.TheVariants.{Multiversion}
use Rattle.fed_rules.specs.Runs.{Start, EngineLine, Begins, counter, run_at}
use Rattle.run_book.proofs.ForCallers.{age-le, free_after, if_ok-both, put-gone}
use Rattle.run_book.specs.declared.counters.Counters.{Counters}
use Rattle.run_book.specs.Book.{begins}
use Rattle.multiversion_engine.specs.declared.engine.MultiversionEngine.{MultiversionEngine}
use Rattle.run_book.specs.Takers.{ByAge}
use Rattle.multiversion_engine.specs.Stands.{Stands}
use Rattle.multiversion_engine.proofs.Ages.{no_age}
use Rattle.multiversion_engine.proofs.Lines.{stands_begins, stands_kept}
use Rattle.multiversion_engine.proofs.engine.MultiversionEngineLocalEngine.begin.Goals as goal

pub returns-then-is_err-clause-memory : goal.returns-then-is_err-clause-memory
returns-then-is_err-clause-memory c =
    let old = c.args.self.now in
    let age = c.counters-age.result.counter + 1 in
    on_err_weaker c.begin-begun.result
    (λ (same : c.begin-begun.new.self.book ≡ old.book.book) start lines s.
    let k = s.keeps.keeps in
    let number : age ≡ counter start lines + 1 = ap (λ (m : Counters). m.counter + 1) (c.counters-age.ensures ∙ k.counters) in
    let none : get old.unended age ≡ None =
    no_age old.unended (run_at start lines) age s.unended (λ u run at. let le = age-le start lines u run k.starts k.right at in omega arith) in
    stands_kept old _ start lines s same c.begin-begun.ensures.room (λ key. refl) refl
    (c.remove.ensures ∙ (ap (λ (m : ByAge). remove m age) c.in_ok-add.ensures.added ∙ put-gone old.unended age c.args.tid none)) s.versions)
    c.begin-begun.ensures.memory

pub returns-else-is_err-clause-begun : goal.returns-else-is_err-clause-begun
returns-else-is_err-clause-begun c =
    let old = c.args.self.now in
    let book = old.book.book in
    let new : MultiversionEngine = record old { book = c.begin-begun.new.self; unended = c.add.new.self } in
    if_ok-both c.begin-begun.result (λ n. n ≡ book.counters.counter + 1) (λ n. c.begin-begun.new.self.book ≡ begins c.args.tid book)
    (λ n. (start : Start) (lines : List EngineLine) → Stands old start lines → Stands new start (Begins c.args.tid n ∷ lines))
    (λ n number made start lines s.
    stands_begins old new start lines c.args.tid n s (free_after Multiversion book start lines c.requires.start c.requires.lines c.args.tid s.keeps.keeps c.requires.stood.keeps.keeps c.requires.holds.free)
    number made c.begin-begun.ensures.room refl refl
    (c.in_ok-add.ensures.added ∙ ap (λ (m : ℕ). insert old.unended m c.args.tid) (ap (λ (m : Counters). m.counter + 1) c.counters-age.ensures ∙ sym number)) refl)
    c.begin-begun.ensures.number c.begin-begun.ensures.begun
