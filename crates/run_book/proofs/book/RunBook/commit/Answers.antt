use Rattle.std.proofs.Common.{◌≡◌, Some, IsSome, Option, sym, ap, ◌∙◌, arith}
use Rattle.run_book.specs.Held.{Held, held_in}
use Rattle.run_book.specs.Book.{RoomyBook}
use Rattle.run_book.specs.Named.{by_tid}
use Rattle.run_book.proofs.InOrder.{of_found, order_gone, holds_none, sealed_takes_none}
use Rattle.run_book.proofs.Promises.{sealed-promises}
use Rattle.run_book.proofs.RunMaps.{promise_of}
use Rattle.run_book.proofs.book.RunBook.commit.Goals as goal

pub invariant_of-self : goal.invariant_of-self
invariant_of-self c =
    let at : held_in _ c.args.tid ≡ Some c.unwrap-run.result = sym c.take_out.ensures.run ∙ c.unwrap-run.ensures in
    let found = sym (ap (λ (r : RoomyBook). held_in r.book.runs c.args.tid) c.self.view_is) ∙ at in
    let sealed = of_found (λ h. IsSome h.run.sealed) _ c.unwrap-run.result found c.requires.sealed in
    let own = ap (λ (o : Option Held). promise_of o) at in
    let writes = sealed-promises c.unwrap-run.result sealed in
    let order = c.self.invariant in
    let counted = order.counted in
    let fits = order.room in
    order_gone (by_tid c.self.inside.runs.entries) (by_tid c.take_out.new.runs.entries) c.self.inside.promised _ c.self.inside.tables.spare _ _ _ c.args.tid c.unwrap-run.result order at
    c.take_out.ensures.gone c.take_out.ensures.promised
    (omega (arith, c.promised.ensures, c.take_out.ensures.promised, own, counted)) (omega (arith, c.promised.ensures, c.install.ensures.room, writes, fits, counted, own, c.take_out.ensures.promised))
    (holds_none (by_tid c.self.inside.runs.entries) c.self.inside.promised c.self.inside.tables.spare c.self.inside.ticket c.args.tid c.unwrap-run.result order at (sealed_takes_none c.unwrap-run.result sealed))
