use Rattle.std.proofs.Common.{List, sym, subst, reverse}
use Rattle.fed_rules.specs.SiteRecords.{Held}
use Rattle.usable_journals.specs.Fronts.{IsByTicket}
use Rattle.usable_journals.proofs.TicketOrder.{values_by_ticket}
use Rattle.usable_journals.proofs.front_order.sorted.Goals as goal

pub returns : goal.returns
returns c =
    subst (λ (vs : List Held). IsByTicket c.args.doubtful.now (reverse vs)) (sym c.in_ok-list.ensures.values)
    (values_by_ticket c.in_ok-found.found.entries c.args.doubtful.now c.requires c.in_ok-list.ensures.ordered c.in_ok-found.ensures)
