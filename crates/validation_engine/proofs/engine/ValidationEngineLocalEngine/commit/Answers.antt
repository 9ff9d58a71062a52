use Rattle.std.proofs.Common.{ℕ, sym, ap, ◌∙◌, subst}
use Rattle.std.proofs.lemmas.Option.{same_Some}
use Rattle.mdb_base.specs.declared.names.Engine.TheVariants.{Validation}
use Rattle.mdb_base.specs.declared.names.Tid.{Tid}
use Rattle.run_book.specs.declared.counters.Counters.{Counters}
use Rattle.run_book.specs.Held.{Held}
use Rattle.run_book.specs.Book.{Book}
use Rattle.run_book.proofs.ForCallers.{sealed_held}
use Rattle.validation_engine.specs.declared.index.Change.TheVariants.{Committed}
use Rattle.validation_engine.specs.Index.{Index, IsChanged}
use Rattle.validation_engine.proofs.Lines.{stands_committed}
use Rattle.validation_engine.proofs.engine.ValidationEngineLocalEngine.commit.Goals as goal

pub returns : goal.returns
returns c =
    let old = c.args.self.now in
    let book = old.book.book in
    let here = sealed_held Validation book c.requires.start c.requires.lines c.args.tid c.requires.stood.keeps.keeps c.requires.holds in
    let held = c.commit-run.result in
    let same = same_Some held here.held (sym c.commit-run.ensures.run ∙ here.found) in
    let moment = ap (λ (m : Counters). m.counter) c.counters.ensures ∙ ap (λ (b : Book). b.counters.counter) c.commit-run.ensures.book in
    let new : Index = c.change.new.self in
    let named = subst (λ (t : Tid). IsChanged (Committed (record { tid = t; number = c.number.result; moment = c.counters.result.counter })) held.run.acts old.index new) c.tid.ensures c.change.ensures in
    let changed = subst (λ (n : ℕ). IsChanged (Committed (record { tid = held.run.tid; number = n; moment = c.counters.result.counter })) held.run.acts old.index new) c.number.ensures named in
    λ start lines s.
    stands_committed old start lines s c.args.tid held c.commit-run.ensures.run _ here.number c.counters.result.counter (ap (λ (h : Held). h.run.sealed) same ∙ here.sealed) moment c.commit-run.ensures.book changed
