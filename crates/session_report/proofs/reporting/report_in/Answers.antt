use Rattle.std.proofs.Common.{List, sym, ap, subst, ◌∙◌}
use Rattle.mdb_base.specs.declared.names.Tid.{Tid}
use Rattle.mdb_base.specs.Names.{same_tid}
use Rattle.order_laws.specs.Merge as merge
use Rattle.fed_rules.specs.Orders.{IsMerge}
use Rattle.fed_rules.specs.Reports.{report_in}
use Rattle.session_report.specs.Session.{story_of_lines}
use Rattle.session_report.proofs.reporting.report_in.Goals as goal

pub returns-then-not-branch : goal.returns-then-not-branch
returns-then-not-branch g c merged =
    let orders = c.as_slice.ensures.value ∙ c.in_ok-gathered.ensures.ordered in
    let is = c.in_ok-is_merge.ensures.1 (subst (λ (os : List (List Tid)). merge.IsMerge same_tid os c.args.order.now) (sym orders) merged) in
    let clash = sym is ∙ c.if-not-branch.true in cc

pub returns : goal.returns
returns g c =
    let gathered = c.in_ok-gathered.ensures in
    let scenario = c.args.scenario.now in
    let story = story_of_lines scenario c.args.lines.now in
    let orders = c.as_slice.ensures.value ∙ gathered.ordered in
    let merged = subst (λ (os : List (List Tid)). merge.IsMerge same_tid os c.args.order.now) orders (c.in_ok-is_merge.ensures.0 c.if-not-branch.false) in
    let order = c.of.ensures ∙ c.in_ok-printed.ensures.items in
    (merged, c.in_ok-report.ensures scenario story gathered (subst (λ (o : List Tid). IsMerge scenario story o) (sym order) merged) ∙ ap (report_in scenario story) order)
