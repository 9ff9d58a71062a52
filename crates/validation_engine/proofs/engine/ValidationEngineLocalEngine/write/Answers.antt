use Rattle.std.proofs.Common.{sym, ap, ◌∙◌, subst, Result, Ok, Err, OnErr}
use Rattle.mdb_base.specs.declared.names.Engine.TheVariants.{Validation}
use Rattle.fed_rules.specs.Runs.{Access}
use Rattle.run_book.specs.Book.{grants}
use Rattle.run_book.proofs.ForCallers.{live_held}
use Rattle.validation_engine.specs.Index.{Index}
use Rattle.validation_engine.proofs.Indexed.{IsKept, kept_added}
use Rattle.validation_engine.proofs.Lines.{stands_kept, stands_wrote}
use Rattle.validation_engine.proofs.engine.ValidationEngineLocalEngine.write.Goals as goal

on_err_all : {X Y P : Type 0} (r : Result X Y) → P → OnErr r P
on_err_all (Ok x) p = tt
on_err_all (Err e) p = p

pub returns-in_err-grant-clause-memory : goal.returns-in_err-grant-clause-memory
returns-in_err-grant-clause-memory c =
    let old = c.args.self.now in
    on_err_all c.from_residual-in_err-grant.result
    (λ start lines s.
    stands_kept old _ start lines s c.in_err-grant.ensures.memory c.in_err-grant.ensures.room
    (subst (λ (i : Index). IsKept old.index i) (sym c.in_ok-add.ensures.added) (kept_added old.index c.args.key)))

pub returns-clause-answered : goal.returns-clause-answered
returns-clause-answered c =
    let old = c.args.self.now in
    let book = old.book.book in
    let here = live_held Validation book c.requires.start c.requires.lines c.args.tid c.requires.stood.keeps.keeps c.requires.holds in
    λ start lines s.
    stands_wrote old start lines s c.args.tid here.held here.found _ c.args.key c.args.value here.live
    (c.in_ok-grant.ensures.granted ∙ ap (λ (a : Access). grants c.args.tid a book) c.write.ensures) c.in_ok-add.ensures.added
