use Rattle.std.proofs.Common.{List, [], sym, ap, subst, ◌∙◌}
use Rattle.mdb_base.specs.declared.names.Tid.{Tid}
use Rattle.mdb_base.specs.Names.{tid_before}
use Rattle.order_laws.specs.Chains.{Acyclic}
use Rattle.order_laws.specs.Merge.{IsLeastOrder}
use Rattle.order_laws.specs.Orders.{Union}
use Rattle.fed_rules.specs.Orders.{IsMerge}
use Rattle.fed_rules.specs.Reports.{report_in}
use Rattle.session_report.specs.Session.{story_of_lines}
use Rattle.session_report.proofs.reporting.report.Goals as goal

pub merge_orders-requires : goal.merge_orders-requires
merge_orders-requires g c =
    let gathered = c.in_ok-gathered.ensures in
    subst (λ (os : List (List Tid)). Acyclic (Union os)) (sym (c.as_slice-orders.ensures.value ∙ gathered.ordered)) gathered.one_order.cycle_free

pub returns : goal.returns
returns g c =
    let gathered = c.in_ok-gathered.ensures in
    let scenario = c.args.scenario.now in
    let story = story_of_lines scenario c.args.lines.now in
    let least = subst (λ (os : List (List Tid)). IsLeastOrder tid_before os [] c.in_ok-order.order) (c.as_slice-orders.ensures.value ∙ gathered.ordered) c.in_ok-order.ensures in
    let printed = gathered.one_order.only c.in_ok-order.order least in
    c.in_ok-report.ensures scenario story gathered (subst (λ (o : List Tid). IsMerge scenario story o) (sym printed) gathered.one_order.merge) ∙ ap (report_in scenario story) printed
