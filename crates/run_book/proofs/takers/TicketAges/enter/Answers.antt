use Rattle.std.proofs.Common.{ap, ◌∙◌}
use Rattle.run_book.specs.Takers.{ByAge, Takers, with_taker}
use Rattle.run_book.proofs.Trees.{entries_put}
use Rattle.run_book.proofs.takers.TicketAges.enter.Goals as goal

pub returns-clause-entered : goal.returns-clause-entered
returns-clause-entered c =
    let inside = c.self.inside in
    ap (λ (m : ByAge). let t : Takers = record { unended = m; live = inside.live; committed = inside.committed } in t)
    (entries_put inside.unended.entries _ c.args.run.rank c.args.run.tid c.in_ok-insert.ensures.updates.0)
    ∙ ap (λ (t : Takers). let u : Takers = record t { unended = with_taker c.args.run t.unended } in u) c.self.view_is
