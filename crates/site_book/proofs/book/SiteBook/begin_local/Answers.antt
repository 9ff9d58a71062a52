use Rattle.std.proofs.Common.{rules, ap, ◌∙◌}
use Rattle.site_book.specs.declared.progress.Progress.TheVariants as Is
use Rattle.site_book.specs.Noted.{fresh}
use Rattle.site_book.specs.Book.{Book, forgets}
use Rattle.site_book.proofs.Undone.{forgets-enters}
use Rattle.site_book.proofs.book.SiteBook.begin_local.Goals as goal

pub returns-then-is_err-clause-memory : goal.returns-then-is_err-clause-memory
returns-then-is_err-clause-memory c =
    c.forget.ensures ∙ (ap (λ (b : Book). forgets c.args.tid b) (search rules ∙ c.in_ok-begin_global.ensures.begun) ∙ forgets-enters c.args.tid (Is.Live fresh) c.args.self.now c.requires.free)
