use Rattle.std.proofs.Common.{Some, ap, ◌∙◌}
use Rattle.run_book.specs.Held.{Held, held_in, is_taker}
use Rattle.run_book.specs.Book.{RoomyBook}
use Rattle.run_book.specs.Tables.{promised_by}
use Rattle.run_book.specs.Named.{by_tid}
use Rattle.run_book.proofs.InOrder.{order_put}
use Rattle.run_book.proofs.book.RunBook.begin.Goals as goal

pub invariant_of-self-2 : goal.invariant_of-self-2
invariant_of-self-2 c =
    let none = ap (λ (r : RoomyBook). held_in r.book.runs c.args.tid) c.self.view_is ∙ c.requires.free in
    order_put (by_tid c.self.inside.runs.entries) (by_tid c.put.new.runs.entries) _ _ _ c.args.tid c.begun-run.result c.self.invariant none c.in_ok-put.ensures.put (c.in_ok-put.ensures.promised none)
    (ap (λ (h : Held). promised_by h) c.begun-run.ensures) (ap (λ (h : Held). is_taker (Some h)) c.begun-run.ensures)
