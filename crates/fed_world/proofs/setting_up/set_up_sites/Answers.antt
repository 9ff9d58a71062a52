use Rattle.std.proofs.Common.{◌≡◌, ◌+◌, Err, Some, None, List, [], length, map, slice_get, slice_index_or, slice_set, refl, sym, ap, subst, ◌∙◌, length-set, arith}
use Rattle.std.proofs.lemmas.Option.{slice_get-get_or}
use Rattle.mdb_base.specs.declared.names.SiteId.{SiteId}
use Rattle.mdb_base.specs.Words.{first_where}
use Rattle.order_laws.proofs.ForCallers.{slice_get-in}
use Rattle.fed_rules.specs.declared.scenario.Scenario.{Scenario}
use Rattle.fed_rules.specs.declared.scenario.SiteLine.{SiteLine}
use Rattle.fed_rules.specs.Disk.{empty_disk}
use Rattle.fed_rules.specs.Plans.{IsScenario, declares}
use Rattle.fed_rules.specs.Scenarios.{home_of, sites}
use Rattle.fed_rules.specs.SitePast.{set_up_calls}
use Rattle.fed_rules.specs.SiteRecords.{Home}
use Rattle.any_engine.specs.declared.engine.AnyEngine.{AnyEngine}
use Rattle.any_engine.specs.Stands as Engines
use Rattle.actor_store.specs.declared.errors.StepErr.{StepErr}
use Rattle.actor_store.specs.declared.errors.StepErr.TheVariants as Step_err
use Rattle.local_dbms.specs.declared.dbms.LocalDbms.{LocalDbms}
use Rattle.local_dbms.specs.Stands as Dbms
use Rattle.local_dbms.specs.Stands.{own_programs}
use Rattle.site_core.specs.Store.{SomeStop}
use Rattle.fed_world.proofs.DeclaredSites.{has_line, line_homed, line_site}
use Rattle.fed_world.proofs.SetUps.{IsUpTo, all_up, none_up, stops_at_once}
use Rattle.fed_world.proofs.SetUpSteps.{disk_empty, disk_within, step_calm, step_failed, step_up, step_with_fault, step_without_memory}
use Rattle.fed_world.proofs.setting_up.set_up_sites.Goals as goal

pub returns-in_default-clause-failed : goal.returns-in_default-clause-failed
returns-in_default-clause-failed g c = stops_at_once g.D.Disk.tells (map g.D.Disk.seen c.args.disks.now.items) c.args.scenario.now c.requires.empty

pub returns-in_default-clause-cause : goal.returns-in_default-clause-cause
returns-in_default-clause-cause g c = refl

pub returns-in_default-clause-count : goal.returns-in_default-clause-count
returns-in_default-clause-count g c = c.requires.nine

pub loop-site-init : goal.loop-site-init
loop-site-init g c = record {
  up = none_up g.D.Disk.tells c.reserve.new.self.items (map g.D.Disk.seen c.args.disks.now.items) c.args.scenario.now (c.reserve.ensures.items ∙ c.new-cores.ensures.items) c.requires.empty;
  room = (let room = c.in-Ok.ensures.ok in omega (arith, room));
  nine = c.requires.nine;
  calm = refl;
}

pub loop-site-preserved-in_default-line_of : goal.loop-site-preserved-in_default-line_of
loop-site-preserved-in_default-line_of g c =
    let scenario : Scenario = c.args.scenario.now in
    let whole : IsScenario scenario = subst (λ (s : Scenario). IsScenario s) c.scenario.view_is c.scenario.invariant in
    let n = c.loop-site.site-index in
    let site : SiteId = slice_index_or c.args.declared.now n (record { 0 = 0 }) in
    let own : slice_get (sites scenario) n ≡ Some site = sym (ap (λ (zs : List SiteId). slice_get zs n) c.requires.declared) ∙ slice_get-get_or c.args.declared.now n (record { 0 = 0 }) c.loop-site-test.true in
    let none : first_where (declares site) scenario.sites ≡ None =
    sym (c.in_default-line_of.ensures ∙ (ap (λ (ls : List SiteLine). first_where (declares site) ls) c.as_slice.ensures ∙ ap (λ (s : Scenario). first_where (declares site) s.sites) c.scenario.view_is)) in
    absurd (has_line scenario site (slice_get-in (sites scenario) n site own) none)

pub index_mut-requires : goal.index_mut-requires
index_mut-requires g c =
    let scenario : Scenario = c.args.scenario.now in
    let whole : IsScenario scenario = subst (λ (s : Scenario). IsScenario s) c.scenario.view_is c.scenario.invariant in
    let n = c.loop-site.site-index in
    let site : SiteId = slice_index_or c.args.declared.now n (record { 0 = 0 }) in
    let own : slice_get (sites scenario) n ≡ Some site = sym (ap (λ (zs : List SiteId). slice_get zs n) c.requires.declared) ∙ slice_get-get_or c.args.declared.now n (record { 0 = 0 }) c.loop-site-test.true in
    let few = disk_within scenario whole n site own in
    let nine = c.loop-site.invariant.nine in
    let ok = c.loop-site.disks.ok.0 in
    omega (arith, few, nine, ok)

pub set_up_site-requires-clause-told : goal.set_up_site-requires-clause-told
set_up_site-requires-clause-told g c = c.requires.told

pub set_up_site-requires-clause-empty : goal.set_up_site-requires-clause-empty
set_up_site-requires-clause-empty g c =
    let scenario : Scenario = c.args.scenario.now in
    let whole : IsScenario scenario = subst (λ (s : Scenario). IsScenario s) c.scenario.view_is c.scenario.invariant in
    let n = c.loop-site.site-index in
    let site : SiteId = slice_index_or c.args.declared.now n (record { 0 = 0 }) in
    let own : slice_get (sites scenario) n ≡ Some site = sym (ap (λ (zs : List SiteId). slice_get zs n) c.requires.declared) ∙ slice_get-get_or c.args.declared.now n (record { 0 = 0 }) c.loop-site-test.true in
    let disks = c.loop-site.disks.items in
    let old = c.index_mut.result.now in
    disk_empty g.D.Disk.seen g.D.Disk.tells scenario whole c.loop-site.cores.items c.args.disks.now.items disks n site old old c.loop-site.invariant.nine own c.index_mut.ensures.value c.loop-site.invariant.up

pub set_up_site-requires-clause-declared : goal.set_up_site-requires-clause-declared
set_up_site-requires-clause-declared g c =
    let scenario : Scenario = c.args.scenario.now in
    let whole : IsScenario scenario = subst (λ (s : Scenario). IsScenario s) c.scenario.view_is c.scenario.invariant in
    let n = c.loop-site.site-index in
    let site : SiteId = slice_index_or c.args.declared.now n (record { 0 = 0 }) in
    let own : slice_get (sites scenario) n ≡ Some site = sym (ap (λ (zs : List SiteId). slice_get zs n) c.requires.declared) ∙ slice_get-get_or c.args.declared.now n (record { 0 = 0 }) c.loop-site-test.true in
    let found : first_where (declares site) scenario.sites ≡ Some c.in-Some.line =
    sym (c.in-Some.ensures ∙ (ap (λ (ls : List SiteLine). first_where (declares site) ls) c.as_slice.ensures ∙ ap (λ (s : Scenario). first_where (declares site) s.sites) c.scenario.view_is)) in
    line_homed scenario.sites site c.in-Some.line found

pub push_reserved-requires : goal.push_reserved-requires
push_reserved-requires g c =
    let all = c.loop-site.invariant.up.all in
    let room = c.loop-site.invariant.room in
    let ok = c.loop-site.cores.ok.0 in
    let less = c.loop-site-test.true in
    omega (arith, all, room, ok, less)

pub returns-in-Err-Disk-clause-failed : goal.returns-in-Err-Disk-clause-failed
returns-in-Err-Disk-clause-failed g c =
    let scenario : Scenario = c.args.scenario.now in
    let whole : IsScenario scenario = subst (λ (s : Scenario). IsScenario s) c.scenario.view_is c.scenario.invariant in
    let n = c.loop-site.site-index in
    let site : SiteId = slice_index_or c.args.declared.now n (record { 0 = 0 }) in
    let own : slice_get (sites scenario) n ≡ Some site = sym (ap (λ (zs : List SiteId). slice_get zs n) c.requires.declared) ∙ slice_get-get_or c.args.declared.now n (record { 0 = 0 }) c.loop-site-test.true in
    let disks = c.loop-site.disks.items in
    let old = c.index_mut.result.now in
    let new = c.set_up_site.new.disk in
    let found : first_where (declares site) scenario.sites ≡ Some c.in-Some.line =
    sym (c.in-Some.ensures ∙ (ap (λ (ls : List SiteLine). first_where (declares site) ls) c.as_slice.ensures ∙ ap (λ (s : Scenario). first_where (declares site) s.sites) c.scenario.view_is)) in
    let here : c.in-Some.line.site ≡ site = line_site scenario.sites site c.in-Some.line found in
    step_with_fault g.D.Disk.seen g.D.Disk.tells scenario whole c.loop-site.cores.items c.args.disks.now.items disks n site old new c.loop-site.invariant.nine own c.index_mut.ensures.value c.loop-site.invariant.up
    (subst (λ (z : SiteId). (home : Home) → home_of scenario z ≡ Some home → SomeStop (g.D.Disk.seen new).image empty_disk (set_up_calls home)) here (c.in-Err-Disk.ensures.broken (ap (λ (e : StepErr). Err e) c.in-Err-Disk.field-0-is)))

pub returns-in-Err-Disk-clause-cause : goal.returns-in-Err-Disk-clause-cause
returns-in-Err-Disk-clause-cause g c =
    let scenario : Scenario = c.args.scenario.now in
    let whole : IsScenario scenario = subst (λ (s : Scenario). IsScenario s) c.scenario.view_is c.scenario.invariant in
    let n = c.loop-site.site-index in
    let site : SiteId = slice_index_or c.args.declared.now n (record { 0 = 0 }) in
    let own : slice_get (sites scenario) n ≡ Some site = sym (ap (λ (zs : List SiteId). slice_get zs n) c.requires.declared) ∙ slice_get-get_or c.args.declared.now n (record { 0 = 0 }) c.loop-site-test.true in
    let disks = c.loop-site.disks.items in
    let old = c.index_mut.result.now in
    let new = c.set_up_site.new.disk in
    step_failed g.D.Disk.seen g.D.Disk.tells scenario whole c.loop-site.cores.items c.args.disks.now.items disks n site old new c.loop-site.invariant.nine own c.index_mut.ensures.value c.loop-site.invariant.calm _ Step_err.Disk (ap (λ (e : StepErr). Err e) c.in-Err-Disk.field-0-is) c.in-Err-Disk.ensures.cause

pub returns-in-Err-Disk-clause-count : goal.returns-in-Err-Disk-clause-count
returns-in-Err-Disk-clause-count g c = length-set c.loop-site.disks.items _ c.set_up_site.new.disk ∙ c.loop-site.invariant.nine

pub returns-in-Err-Memory-clause-failed : goal.returns-in-Err-Memory-clause-failed
returns-in-Err-Memory-clause-failed g c =
    let scenario : Scenario = c.args.scenario.now in
    let whole : IsScenario scenario = subst (λ (s : Scenario). IsScenario s) c.scenario.view_is c.scenario.invariant in
    let n = c.loop-site.site-index in
    let site : SiteId = slice_index_or c.args.declared.now n (record { 0 = 0 }) in
    let own : slice_get (sites scenario) n ≡ Some site = sym (ap (λ (zs : List SiteId). slice_get zs n) c.requires.declared) ∙ slice_get-get_or c.args.declared.now n (record { 0 = 0 }) c.loop-site-test.true in
    let disks = c.loop-site.disks.items in
    let old = c.index_mut.result.now in
    let new = c.set_up_site.new.disk in
    step_without_memory g.D.Disk.seen g.D.Disk.tells scenario whole c.loop-site.cores.items c.args.disks.now.items disks n site old new c.loop-site.invariant.nine own c.index_mut.ensures.value c.loop-site.invariant.up (c.in-Err-Memory.ensures.untouched (ap (λ (e : StepErr). Err e) c.in-Err-Memory.field-0-is))

pub returns-in-Err-Memory-clause-cause : goal.returns-in-Err-Memory-clause-cause
returns-in-Err-Memory-clause-cause g c =
    let scenario : Scenario = c.args.scenario.now in
    let whole : IsScenario scenario = subst (λ (s : Scenario). IsScenario s) c.scenario.view_is c.scenario.invariant in
    let n = c.loop-site.site-index in
    let site : SiteId = slice_index_or c.args.declared.now n (record { 0 = 0 }) in
    let own : slice_get (sites scenario) n ≡ Some site = sym (ap (λ (zs : List SiteId). slice_get zs n) c.requires.declared) ∙ slice_get-get_or c.args.declared.now n (record { 0 = 0 }) c.loop-site-test.true in
    let disks = c.loop-site.disks.items in
    let old = c.index_mut.result.now in
    let new = c.set_up_site.new.disk in
    step_failed g.D.Disk.seen g.D.Disk.tells scenario whole c.loop-site.cores.items c.args.disks.now.items disks n site old new c.loop-site.invariant.nine own c.index_mut.ensures.value c.loop-site.invariant.calm _ Step_err.Memory (ap (λ (e : StepErr). Err e) c.in-Err-Memory.field-0-is) c.in-Err-Memory.ensures.cause

pub returns-in-Err-Memory-clause-count : goal.returns-in-Err-Memory-clause-count
returns-in-Err-Memory-clause-count g c = length-set c.loop-site.disks.items _ c.set_up_site.new.disk ∙ c.loop-site.invariant.nine

pub loop-site-preserved : goal.loop-site-preserved
loop-site-preserved g c =
    let scenario : Scenario = c.args.scenario.now in
    let whole : IsScenario scenario = subst (λ (s : Scenario). IsScenario s) c.scenario.view_is c.scenario.invariant in
    let n = c.loop-site.site-index in
    let site : SiteId = slice_index_or c.args.declared.now n (record { 0 = 0 }) in
    let own : slice_get (sites scenario) n ≡ Some site = sym (ap (λ (zs : List SiteId). slice_get zs n) c.requires.declared) ∙ slice_get-get_or c.args.declared.now n (record { 0 = 0 }) c.loop-site-test.true in
    let disks = c.loop-site.disks.items in
    let old = c.index_mut.result.now in
    let new = c.set_up_site.new.disk in
    let found : first_where (declares site) scenario.sites ≡ Some c.in-Some.line =
    sym (c.in-Some.ensures ∙ (ap (λ (ls : List SiteLine). first_where (declares site) ls) c.as_slice.ensures ∙ ap (λ (s : Scenario). first_where (declares site) s.sites) c.scenario.view_is)) in
    let here : c.in-Some.line.site ≡ site = line_site scenario.sites site c.in-Some.line found in
    let core : LocalDbms AnyEngine = c.in-Ok-set_up_site.core in
    let after = slice_set disks site.0 new in
    record {
      up = subst (λ (ds : List (LocalDbms AnyEngine)). IsUpTo g.D.Disk.tells ds (map g.D.Disk.seen after) scenario (n + 1)) (sym c.push_reserved.ensures.items)
          (step_up g.D.Disk.seen g.D.Disk.tells scenario whole c.loop-site.cores.items c.args.disks.now.items disks n site old new c.loop-site.invariant.nine own c.index_mut.ensures.value c.loop-site.invariant.up core
          (subst (λ (z : SiteId). (home : Home) → home_of scenario z ≡ Some home → Dbms.Stands Engines.Stands g.D.Disk.tells core (g.D.Disk.seen new) home (own_programs z scenario.transactions) []) here c.in-Ok-set_up_site.ensures.stands));
      room = (let grown = c.push_reserved.ensures.capacity in let room = c.loop-site.invariant.room in omega (arith, grown, room));
      nine = length-set disks site.0 new ∙ c.loop-site.invariant.nine;
      calm = step_calm g.D.Disk.seen g.D.Disk.tells scenario whole c.loop-site.cores.items c.args.disks.now.items disks n site old new c.loop-site.invariant.nine own c.index_mut.ensures.value c.loop-site.invariant.calm _ core refl c.in-Ok-set_up_site.ensures.cause;
    }

pub returns-clause-stands : goal.returns-clause-stands
returns-clause-stands g c =
    let many = ap (λ (zs : List SiteId). length zs) c.requires.declared in
    let past = c.loop-site-test.false in
    let within = c.loop-site.auto.site-index-end in
    all_up g.D.Disk.tells c.loop-site.cores.items (map g.D.Disk.seen c.loop-site.disks.items) c.args.scenario.now c.loop-site.site-index c.loop-site.invariant.up (omega (arith, many, past, within))

pub returns-clause-cause : goal.returns-clause-cause
returns-clause-cause g c = c.loop-site.invariant.calm

pub returns-clause-count : goal.returns-clause-count
returns-clause-count g c = c.loop-site.invariant.nine
