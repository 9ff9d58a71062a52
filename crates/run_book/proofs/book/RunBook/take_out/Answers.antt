use Rattle.std.proofs.Common.{◌≡◌, Some, Option, sym, ap, ◌∙◌, arith}
use Rattle.run_book.specs.Held.{Held, held_in}
use Rattle.run_book.specs.Named.{by_tid}
use Rattle.run_book.proofs.InOrder.{order_gone, held_less}
use Rattle.run_book.proofs.RunMaps.{promise_of}
use Rattle.run_book.proofs.book.RunBook.take_out.Goals as goal

pub invariant_of-self : goal.invariant_of-self
invariant_of-self c =
    let at : held_in _ c.args.tid ≡ Some c.unwrap-run.result = sym c.take_out.ensures.run ∙ c.unwrap-run.ensures in
    let own = ap (λ (o : Option Held). promise_of o) at in
    let order = c.self.invariant in
    let counted = order.counted in
    let fits = order.room in
    order_gone (by_tid c.self.inside.runs.entries) (by_tid c.take_out.new.runs.entries) c.self.inside.promised _ c.self.inside.tables.spare _ c.self.inside.ticket _ c.args.tid c.unwrap-run.result order at
    c.take_out.ensures.gone c.take_out.ensures.promised
    (omega (arith, c.promised.ensures, c.take_out.ensures.promised, own, counted)) (omega (arith, c.promised.ensures, fits))
    (λ u. c.give_up.ensures.holders u ∙ held_less c.args.tid u _)
