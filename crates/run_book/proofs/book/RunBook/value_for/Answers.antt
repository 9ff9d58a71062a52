use Rattle.std.proofs.Common.{ℕ, ◌∙◌, sym, ap, Option}
use Rattle.mdb_base.specs.Words.{or_else}
use Rattle.run_book.specs.Book.{table_in}
use Rattle.run_book.proofs.ValueLemmas.{after-own_write}
use Rattle.run_book.proofs.book.RunBook.value_for.Goals as goal

pub returns-in-Some : goal.returns-in-Some
returns-in-Some c =
    let table = table_in c.args.self.now.book in
    rw c.run.ensures (sym (after-own_write c.args.key c.run.result.now.run.acts table ∙ ap (λ (o : Option ℕ). or_else o (table c.args.key)) (sym c.own_value.ensures ∙ c.in-Some.is)))

pub returns-in-None : goal.returns-in-None
returns-in-None c =
    let table = table_in c.args.self.now.book in
    rw c.run.ensures (c.value.ensures ∙ sym (after-own_write c.args.key c.run.result.now.run.acts table ∙ ap (λ (o : Option ℕ). or_else o (table c.args.key)) (sym c.own_value.ensures ∙ c.in-None.is)))
