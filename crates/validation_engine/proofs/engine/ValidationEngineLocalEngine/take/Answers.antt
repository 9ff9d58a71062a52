use Rattle.std.proofs.Common.{ℕ, sym, ap, ◌∙◌}
use Rattle.mdb_base.specs.declared.names.Engine.TheVariants.{Validation}
use Rattle.run_book.specs.Book.{tickets}
use Rattle.run_book.proofs.ForCallers.{ticketless_held}
use Rattle.validation_engine.proofs.Indexed.{kept_same}
use Rattle.validation_engine.proofs.Lines.{stands_took}
use Rattle.validation_engine.proofs.engine.ValidationEngineLocalEngine.take.Goals as goal

pub returns-clause-answered : goal.returns-clause-answered
returns-clause-answered c =
    let old = c.args.self.now in
    let book = old.book.book in
    let here = ticketless_held Validation book c.requires.start c.requires.lines c.args.tid c.requires.stood.keeps.keeps c.requires.holds in
    λ start lines s.
    stands_took old start lines s c.args.tid here.held here.found _ c.in_ok-ticket.ticket here.live here.ticketless c.in_ok-ticket.ensures.ticket
    (c.in_ok-ticket.ensures.taken ∙ ap (λ (n : ℕ). tickets c.args.tid n book) (sym c.in_ok-ticket.ensures.ticket)) (kept_same old.index)
