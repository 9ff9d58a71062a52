use Rattle.std.proofs.Common.{ap, ◌∙◌}
use Rattle.std.specs.FinMap.{remove}
use Rattle.run_book.specs.Takers.{ByAge, Takers}
use Rattle.run_book.proofs.Trees.{entries_gone}
use Rattle.run_book.proofs.takers.TicketAges.leave.Goals as goal

pub returns : goal.returns
returns c =
    let inside = c.self.inside in
    ap (λ (m : ByAge). let t : Takers = record { unended = m; live = inside.live; committed = inside.committed } in t)
    (entries_gone inside.unended.entries _ c.args.age c.remove.ensures.updates.0)
    ∙ ap (λ (t : Takers). let u : Takers = record t { unended = remove t.unended c.args.age } in u) c.self.view_is
