use Rattle.std.proofs.Common.{refl, subst}
use Rattle.fed_rules.specs.declared.scenario.Scenario.{Scenario}
use Rattle.fed_rules.specs.Plans.{IsScenario}
use Rattle.federation_run.proofs.Logged.{sortable}
use Rattle.federation_run.proofs.Settled.{has_broken, has_run, may_gather}
use Rattle.federation_run.proofs.settling.settle.Goals as goal

pub merge_all-requires-clause-sortable : goal.merge_all-requires-clause-sortable
merge_all-requires-clause-sortable c =
    let whole : IsScenario c.args.scenario = subst (λ (s : Scenario). IsScenario s) c.scenario.view_is c.scenario.invariant in
    sortable c.requires.0 c.requires.1 c.requires.2 c.args.scenario whole c.args.left c.requires.3 c.in-Ok.ensures.placed c.in-Ok.ensures.fits

pub merge_all-requires-clause-rise : goal.merge_all-requires-clause-rise
merge_all-requires-clause-rise c = c.requires.3.coordinator.held.rise

pub returns-in-Some-clause-stopped : goal.returns-in-Some-clause-stopped
returns-in-Some-clause-stopped c tells counts disks l =
    let whole : IsScenario c.args.scenario = subst (λ (s : Scenario). IsScenario s) c.scenario.view_is c.scenario.invariant in
    has_broken c.laws_hold.ensures.right c.laws_hold.ensures.carried c.laws_hold.ensures.armed tells counts disks c.args.scenario whole c.args.left l c.in-Ok.failed c.in-Ok.ensures c.in-Ok-merge_all.merged.sorted
    c.in-Ok-merge_all.ensures.sorted c.in-Ok-merge_all.merged.lines c.in-Ok-merge_all.ensures.merged c.in-Some.number c.in-Some.is

pub same-scenario : goal.same-scenario
same-scenario c = refl

pub gather_all-requires : goal.gather_all-requires
gather_all-requires c =
    let whole : IsScenario c.args.scenario = subst (λ (s : Scenario). IsScenario s) c.scenario.view_is c.scenario.invariant in
    may_gather c.laws_hold.ensures.right c.laws_hold.ensures.carried c.laws_hold.ensures.armed c.requires.0 c.requires.1 c.requires.2 c.args.scenario whole c.args.left c.requires.3 c.in-Ok.failed c.in-Ok.ensures
    c.in-Ok-merge_all.merged.sorted c.in-Ok-merge_all.ensures.sorted c.in-Ok-merge_all.merged.lines c.in-Ok-merge_all.ensures.merged c.in_default-failed.is

pub returns-in-Ok-gather_all-clause-ran : goal.returns-in-Ok-gather_all-clause-ran
returns-in-Ok-gather_all-clause-ran c tells counts disks l =
    let whole : IsScenario c.args.scenario = subst (λ (s : Scenario). IsScenario s) c.scenario.view_is c.scenario.invariant in
    has_run c.laws_hold.ensures.right c.laws_hold.ensures.carried c.laws_hold.ensures.armed tells counts disks c.args.scenario whole c.args.left l c.in-Ok.failed c.in-Ok.ensures c.in-Ok-merge_all.merged.sorted
    c.in-Ok-merge_all.ensures.sorted c.in-Ok-merge_all.merged.lines c.in-Ok-merge_all.ensures.merged c.in_default-failed.is c.in-Ok-gather_all.world c.in-Ok-gather_all.ensures.lines
    (c.in-Ok-gather_all.ensures.stands tells disks)
