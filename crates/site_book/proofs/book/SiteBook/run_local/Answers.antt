use Rattle.std.proofs.Common.{rules, ◌≡◌, None, refl, ap, ◌∙◌}
use Rattle.std.specs.FinMap.{get, remove}
use Rattle.site_book.specs.declared.progress.Standing.TheVariants as Has
use Rattle.site_book.specs.Book.{Book, Standings, standing_of}
use Rattle.site_book.specs.Numbered.{by_number}
use Rattle.mdb_base.proofs.ForCallers.{txs_exact, txs_total}
use Rattle.site_book.proofs.Maps.{gone-put}
use Rattle.site_book.proofs.Undone.{nothing_stands, same_book}
use Rattle.site_book.proofs.book.SiteBook.run_local.Goals as goal

pub returns-then-is_err-clause-memory : goal.returns-then-is_err-clause-memory
returns-then-is_err-clause-memory c =
    let idle : get (by_number c.self.inside.locals.items) c.args.tid.tx ≡ None = ap (λ (b : Book). standing_of b c.args.tid.tx) c.self.view_is ∙ nothing_stands (standing_of c.args.self.now c.args.tid.tx) c.requires.idle c.requires.uncommitted in
    let kept : by_number c.count.new.again.items ≡ by_number c.self.inside.again.items = search rules in
    same_book _ _ _ _ _ _ refl
    (c.take_out.ensures ∙ (ap (λ (m : Standings). remove m c.args.tid.tx) c.in_ok-put.ensures.put
    ∙ gone-put txs_total txs_exact _ c.args.tid.tx (Has.Running c.args.tid) idle))
    kept
    ∙ c.self.view_is
