use Rattle.std.proofs.Common.{List, refl, ap, subst, ◌∙◌}
use Rattle.std.specs.BTreeSet.{contains}
use Rattle.mdb_base.specs.Names.{tid_cmp}
use Rattle.fed_rules.specs.declared.report.Outcome.{Outcome}
use Rattle.fed_rules.specs.declared.scenario.Scenario.{Scenario}
use Rattle.fed_rules.specs.Plans.{IsScenario}
use Rattle.session_report.specs.Outcomes.{is_refused, outcomes_by}
use Rattle.session_report.proofs.ReportIs as Report
use Rattle.session_report.proofs.gathering.gather.Goals as goal

pub returns : goal.returns
returns g c =
    let whole : IsScenario c.args.scenario.now = subst (λ (z : Scenario). IsScenario z) c.scenario.view_is c.scenario.invariant in
    let rights = c.stories_have_right_lines.ensures in
    let one = c.federation_is_serializable.ensures.one_order in
    let by = Report.committed rights one c.args.scenario.now whole c.args.lines.now c.args.channels.now c.args.marks.now c.args.tables.items c.requires.session in
    Report.is_gathered rights one c.args.scenario.now whole c.args.lines.now c.args.channels.now c.args.marks.now c.args.tables.items c.requires.session _ (contains tid_cmp c.in_ok-refused.refused)
    c.in_ok-telling.ensures c.in_ok-begun.ensures (c.in_ok-ends.ensures by c.requires.told ∙ ap (outcomes_by by) c.as_slice.ensures.value)
    (λ t. c.in_ok-refused.ensures t ∙ ap (λ (os : List Outcome). is_refused os t) c.as_slice-2.ensures.value) c.in_ok-orders.ensures refl
