use Rattle.std.proofs.Common.{◌≡◌, ℕ, Bool, true, Option, nat_lt, refl, sym, ◌∙◌, subst, arith}
use Rattle.std.specs.FinMap.{get}
use Rattle.std.proofs.lemmas.Bool.{lt-ltb}
use Rattle.run_book.specs.Held.{Held}
use Rattle.run_book.specs.Book.{number_in}
use Rattle.run_book.proofs.ForCallers.{if_found}
use Rattle.multiversion_engine.specs.Versions.{IsNewestOr}
use Rattle.multiversion_engine.specs.Stands.{IsOwnOr, IsValueFor}
use Rattle.multiversion_engine.proofs.engine.MultiversionEngine.value_for.Goals as goal

pub returns-in-Some : goal.returns-in-Some
returns-in-Some c =
    let held = c.run-run.result.now in
    let book = c.args.self.now.book.book in
    let olds = c.args.self.now.olds in
    if_found (λ (h : Held). IsValueFor book olds h.run c.args.key c.in-Some.value) _ held c.run-run.ensures
    (subst (λ (o : Option ℕ). IsOwnOr o book olds held.run.age c.args.key c.in-Some.value) (sym c.in-Some.is ∙ c.own_value.ensures) refl)

pub returns-then-number-age : goal.returns-then-number-age
returns-then-number-age c =
    let held = c.run-run.result.now in
    let book = c.args.self.now.book.book in
    let olds = c.args.self.now.olds in
    let less : nat_lt (number_in book c.args.key) held.run.age ≡ true =
    lt-ltb (number_in book c.args.key) held.run.age (omega (arith, c.number.ensures, c.age-age.ensures, c.if-number-age.true)) in
    if_found (λ (h : Held). IsValueFor book olds h.run c.args.key c.value.result) _ held c.run-run.ensures
    (subst (λ (o : Option ℕ). IsOwnOr o book olds held.run.age c.args.key c.value.result) (sym c.in_default.is ∙ c.own_value.ensures)
    (subst (λ (b : Bool). IsNewestOr b (get book.versions c.args.key.0) olds held.run.age c.args.key c.value.result) (sym less) c.value.ensures))
