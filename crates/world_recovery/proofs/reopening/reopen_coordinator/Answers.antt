use Rattle.std.proofs.Common.{◌≡◌, ◌<◌, Err, List, length, refl, sym, ap, subst, ◌∙◌, length-set, arith}
use Rattle.mdb_base.specs.Rising.{IsRising}
use Rattle.mdb_base.specs.Words.{Each}
use Rattle.presumptions.specs.declared.Participant.{Participant}
use Rattle.record_fields.specs.Named.{IsSite}
use Rattle.fed_rules.specs.declared.scenario.Scenario.{Scenario}
use Rattle.fed_rules.specs.declared.scenario.SiteLine.{SiteLine}
use Rattle.fed_rules.specs.Plans.{IsScenario}
use Rattle.fed_rules.specs.Resumed.{plan_of}
use Rattle.fed_rules.specs.Scenarios.{protocols, protocols_in}
use Rattle.journal_disk.specs.Disk.{Image}
use Rattle.commit_laws.proofs.ForCallers.{members_rise}
use Rattle.actor_store.specs.declared.errors.StepErr.{StepErr}
use Rattle.actor_store.specs.declared.errors.StepErr.TheVariants as Step_err
use Rattle.coord_core.specs.Found as Coordinator
use Rattle.found_disks.proofs.ForCallers.{same_images}
use Rattle.world_recovery.proofs.BackSteps.{calm_step, coordinator_back, failed_step, first_image}
use Rattle.fed_world.proofs.ForCallers.{members_ranged}
use Rattle.world_recovery.proofs.reopening.reopen_coordinator.Goals as goal

pub returns-in_default-clause-failed : goal.returns-in_default-clause-failed
returns-in_default-clause-failed g c = tt

pub returns-in_default-clause-images : goal.returns-in_default-clause-images
returns-in_default-clause-images g c = refl

pub returns-in_default-clause-cause : goal.returns-in_default-clause-cause
returns-in_default-clause-cause g c = refl

pub returns-in_default-clause-count : goal.returns-in_default-clause-count
returns-in_default-clause-count g c = c.requires.nine

pub of-requires : goal.of-requires
of-requires g c =
    let whole : IsScenario c.args.scenario.now = subst (λ (s : Scenario). IsScenario s) c.scenario.view_is c.scenario.invariant in
    let members : c.in-Ok.protocols.items ≡ protocols c.args.scenario.now =
    c.in-Ok.ensures ∙ (ap (λ (ls : List SiteLine). protocols_in ls) c.as_slice.ensures ∙ ap (λ (s : Scenario). protocols s) c.scenario.view_is) in
    subst (λ (ps : List Participant). IsRising (λ (m : Participant). m.site.0) ps) (sym members) (members_rise c.args.scenario.now whole)

pub index_mut-requires : goal.index_mut-requires
index_mut-requires g c = let nine = c.requires.nine in let ok = c.args.disks.now.ok.0 in omega (arith, nine, ok)

pub reopen-requires-clause-told : goal.reopen-requires-clause-told
reopen-requires-clause-told g c = c.requires.told

pub reopen-requires-clause-sites : goal.reopen-requires-clause-sites
reopen-requires-clause-sites g c =
    let whole : IsScenario c.args.scenario.now = subst (λ (s : Scenario). IsScenario s) c.scenario.view_is c.scenario.invariant in
    let members : c.of.result ≡ protocols c.args.scenario.now =
    c.of.ensures ∙ (c.in-Ok.ensures ∙ (ap (λ (ls : List SiteLine). protocols_in ls) c.as_slice.ensures ∙ ap (λ (s : Scenario). protocols s) c.scenario.view_is)) in
    subst (λ (ps : List Participant). Each (λ (m : Participant). IsSite m.site) ps) (sym members) (members_ranged c.args.scenario.now whole)

pub reopen-requires-clause-found : goal.reopen-requires-clause-found
reopen-requires-clause-found g c =
    let whole : IsScenario c.args.scenario.now = subst (λ (s : Scenario). IsScenario s) c.scenario.view_is c.scenario.invariant in
    let members : c.of.result ≡ protocols c.args.scenario.now =
    c.of.ensures ∙ (c.in-Ok.ensures ∙ (ap (λ (ls : List SiteLine). protocols_in ls) c.as_slice.ensures ∙ ap (λ (s : Scenario). protocols s) c.scenario.view_is)) in
    let nine = c.requires.nine in
    let within : 0 < length c.args.disks.now.items = omega (arith, nine) in
    let (found, on) = c.requires.found in
    let same : protocols (plan_of found) ≡ c.of.result = ap (λ (ls : List SiteLine). protocols_in ls) (sym on.sites_are) ∙ sym members in
    let one : on.image ≡ (g.D.Disk.seen c.index_mut.result.now).image = first_image g.D.Disk.seen c.args.disks.now.items c.index_mut.result.now within c.index_mut.ensures.value on.image on.own in
    (on.journal, subst (λ (image : Image). Coordinator.IsFoundOn image c.of.result on.journal) one (subst (λ (ps : List Participant). Coordinator.IsFoundOn on.image ps on.journal) same on.stands))

pub returns-in-Ok-reopen-clause-back : goal.returns-in-Ok-reopen-clause-back
returns-in-Ok-reopen-clause-back g c =
    let whole : IsScenario c.args.scenario.now = subst (λ (s : Scenario). IsScenario s) c.scenario.view_is c.scenario.invariant in
    let members : c.of.result ≡ protocols c.args.scenario.now =
    c.of.ensures ∙ (c.in-Ok.ensures ∙ (ap (λ (ls : List SiteLine). protocols_in ls) c.as_slice.ensures ∙ ap (λ (s : Scenario). protocols s) c.scenario.view_is)) in
    let nine = c.requires.nine in
    let within : 0 < length c.args.disks.now.items = omega (arith, nine) in
    λ found on.
    let same : c.of.result ≡ protocols (plan_of found) = members ∙ ap (λ (ls : List SiteLine). protocols_in ls) on.sites_are in
    coordinator_back g.D.Disk.seen g.D.Disk.tells c.args.disks.now.items c.index_mut.result.now c.reopen.new.disk within c.in-Ok-reopen.manager c.of.result _ found same c.of-policy.ensures c.reopen.ensures.image c.in-Ok-reopen.ensures.stands

pub returns-in-Ok-reopen-clause-images : goal.returns-in-Ok-reopen-clause-images
returns-in-Ok-reopen-clause-images g c =
    let nine = c.requires.nine in
    let within : 0 < length c.args.disks.now.items = omega (arith, nine) in
    same_images g.D.Disk.seen c.args.disks.now.items 0 c.index_mut.result.now c.reopen.new.disk within c.index_mut.ensures.value c.reopen.ensures.image

pub returns-in-Ok-reopen-clause-cause : goal.returns-in-Ok-reopen-clause-cause
returns-in-Ok-reopen-clause-cause g c =
    let nine = c.requires.nine in
    let within : 0 < length c.args.disks.now.items = omega (arith, nine) in
    calm_step g.D.Disk.seen c.args.disks.now.items c.args.disks.now.items 0 c.index_mut.result.now c.reopen.new.disk within c.index_mut.ensures.value refl _ c.in-Ok-reopen.manager refl c.in-Ok-reopen.ensures.cause

pub returns-in-Ok-reopen-clause-count : goal.returns-in-Ok-reopen-clause-count
returns-in-Ok-reopen-clause-count g c = length-set c.args.disks.now.items _ c.reopen.new.disk ∙ c.requires.nine

pub returns-in-Err-Disk-clause-failed : goal.returns-in-Err-Disk-clause-failed
returns-in-Err-Disk-clause-failed g c = tt

pub returns-in-Err-Disk-clause-images : goal.returns-in-Err-Disk-clause-images
returns-in-Err-Disk-clause-images g c =
    let nine = c.requires.nine in
    let within : 0 < length c.args.disks.now.items = omega (arith, nine) in
    same_images g.D.Disk.seen c.args.disks.now.items 0 c.index_mut.result.now c.reopen.new.disk within c.index_mut.ensures.value c.reopen.ensures.image

pub returns-in-Err-Disk-clause-cause : goal.returns-in-Err-Disk-clause-cause
returns-in-Err-Disk-clause-cause g c =
    let nine = c.requires.nine in
    let within : 0 < length c.args.disks.now.items = omega (arith, nine) in
    failed_step g.D.Disk.seen c.args.disks.now.items c.args.disks.now.items 0 c.index_mut.result.now c.reopen.new.disk within c.index_mut.ensures.value refl _ Step_err.Disk (ap (λ (e : StepErr). Err e) c.in-Err-Disk.field-0-is) c.in-Err-Disk.ensures.cause

pub returns-in-Err-Disk-clause-count : goal.returns-in-Err-Disk-clause-count
returns-in-Err-Disk-clause-count g c = length-set c.args.disks.now.items _ c.reopen.new.disk ∙ c.requires.nine

pub returns-in-Err-Memory-clause-failed : goal.returns-in-Err-Memory-clause-failed
returns-in-Err-Memory-clause-failed g c = tt

pub returns-in-Err-Memory-clause-images : goal.returns-in-Err-Memory-clause-images
returns-in-Err-Memory-clause-images g c =
    let nine = c.requires.nine in
    let within : 0 < length c.args.disks.now.items = omega (arith, nine) in
    same_images g.D.Disk.seen c.args.disks.now.items 0 c.index_mut.result.now c.reopen.new.disk within c.index_mut.ensures.value c.reopen.ensures.image

pub returns-in-Err-Memory-clause-cause : goal.returns-in-Err-Memory-clause-cause
returns-in-Err-Memory-clause-cause g c =
    let nine = c.requires.nine in
    let within : 0 < length c.args.disks.now.items = omega (arith, nine) in
    failed_step g.D.Disk.seen c.args.disks.now.items c.args.disks.now.items 0 c.index_mut.result.now c.reopen.new.disk within c.index_mut.ensures.value refl _ Step_err.Memory (ap (λ (e : StepErr). Err e) c.in-Err-Memory.field-0-is) c.in-Err-Memory.ensures.cause

pub returns-in-Err-Memory-clause-count : goal.returns-in-Err-Memory-clause-count
returns-in-Err-Memory-clause-count g c = length-set c.args.disks.now.items _ c.reopen.new.disk ∙ c.requires.nine
