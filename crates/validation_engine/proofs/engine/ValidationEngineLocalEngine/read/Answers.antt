use Rattle.std.proofs.Common.{◌≡◌, ap, ◌∙◌}
use Rattle.mdb_base.specs.declared.names.Engine.TheVariants.{Validation}
use Rattle.fed_rules.specs.Runs.{Access, after}
use Rattle.run_book.specs.Book.{grants, table_in}
use Rattle.run_book.proofs.ForCallers.{live_held, of_found}
use Rattle.validation_engine.proofs.Indexed.{kept_same}
use Rattle.validation_engine.proofs.Lines.{stands_read}
use Rattle.validation_engine.proofs.engine.ValidationEngineLocalEngine.read.Goals as goal

pub returns-clause-answered : goal.returns-clause-answered
returns-clause-answered c =
    let old = c.args.self.now in
    let book = old.book.book in
    let here = live_held Validation book c.requires.start c.requires.lines c.args.tid c.requires.stood.keeps.keeps c.requires.holds in
    let value = of_found (λ h. c.value_for-value.result ≡ after h.run.acts (table_in book) c.args.key) _ here.held here.found c.value_for-value.ensures in
    λ start lines s.
    stands_read old start lines s c.args.tid here.held here.found _ c.args.key c.value_for-value.result here.live value
    (c.in_ok-grant.ensures.granted ∙ ap (λ (a : Access). grants c.args.tid a book) c.read.ensures) (kept_same old.index)
