use Rattle.std.proofs.Common.{◌≡◌, ◌+◌, Err, Some, None, List, length, map, slice_get, slice_index_or, slice_set, refl, sym, ap, subst, ◌∙◌, length-set, arith}
use Rattle.std.proofs.lemmas.Option.{slice_get-get_or}
use Rattle.mdb_base.specs.declared.names.SiteId.{SiteId}
use Rattle.mdb_base.specs.Words.{first_where}
use Rattle.order_laws.proofs.ForCallers.{slice_get-in}
use Rattle.fed_rules.specs.declared.scenario.Scenario.{Scenario}
use Rattle.fed_rules.specs.declared.scenario.SiteLine.{SiteLine}
use Rattle.fed_rules.specs.Plans.{IsScenario, declares}
use Rattle.fed_rules.specs.Scenarios.{sites}
use Rattle.any_engine.specs.declared.engine.AnyEngine.{AnyEngine}
use Rattle.actor_store.specs.declared.errors.StepErr.{StepErr}
use Rattle.actor_store.specs.declared.errors.StepErr.TheVariants as Step_err
use Rattle.local_dbms.specs.declared.dbms.LocalDbms.{LocalDbms}
use Rattle.found_disks.proofs.ForCallers.{same_images}
use Rattle.world_recovery.proofs.BackSteps.{calm_step, failed_step, first_stays, has_disk, is_here, step_back}
use Rattle.fed_world.proofs.ForCallers.{disk_within, has_line}
use Rattle.world_recovery.proofs.GoingBack.{AreBackTo, all_back, none_back, sites_same}
use Rattle.world_recovery.proofs.reopening.reopen_sites.Goals as goal

pub returns-in_default-clause-failed : goal.returns-in_default-clause-failed
returns-in_default-clause-failed g c = tt

pub returns-in_default-clause-first : goal.returns-in_default-clause-first
returns-in_default-clause-first g c = refl

pub returns-in_default-clause-images : goal.returns-in_default-clause-images
returns-in_default-clause-images g c = refl

pub returns-in_default-clause-cause : goal.returns-in_default-clause-cause
returns-in_default-clause-cause g c = refl

pub returns-in_default-clause-count : goal.returns-in_default-clause-count
returns-in_default-clause-count g c = c.requires.nine

pub loop-site-init : goal.loop-site-init
loop-site-init g c = record {
  back = λ found on. none_back g.D.Disk.tells c.reserve.new.self.items (map g.D.Disk.seen c.args.disks.now.items) found (c.reserve.ensures.items ∙ c.new-cores.ensures.items);
  room = (let room = c.in-Ok.ensures.ok in omega (arith, room));
  nine = c.requires.nine;
  first = refl;
  images = refl;
  calm = refl;
}

pub loop-site-preserved-in_default-line_of : goal.loop-site-preserved-in_default-line_of
loop-site-preserved-in_default-line_of g c =
    let scenario : Scenario = c.args.scenario.now in
    let whole : IsScenario scenario = subst (λ (s : Scenario). IsScenario s) c.scenario.view_is c.scenario.invariant in
    let n = c.loop-site.site-index in
    let site : SiteId = slice_index_or c.args.declared.now n (record { 0 = 0 }) in
    let own : slice_get (sites scenario) n ≡ Some site = sym (ap (λ (zs : List SiteId). slice_get zs n) c.requires.declared) ∙ slice_get-get_or c.args.declared.now n (record { 0 = 0 }) c.loop-site-test.true in
    let none : first_where (declares site) scenario.sites ≡ None =
    sym (c.in_default-line_of.ensures ∙ (ap (λ (ls : List SiteLine). first_where (declares site) ls) c.as_slice.ensures ∙ ap (λ (s : Scenario). first_where (declares site) s.sites) c.scenario.view_is)) in
    absurd (has_line scenario site (slice_get-in (sites scenario) n site own) none)

pub index_mut-requires : goal.index_mut-requires
index_mut-requires g c =
    let scenario : Scenario = c.args.scenario.now in
    let whole : IsScenario scenario = subst (λ (s : Scenario). IsScenario s) c.scenario.view_is c.scenario.invariant in
    let n = c.loop-site.site-index in
    let site : SiteId = slice_index_or c.args.declared.now n (record { 0 = 0 }) in
    let own : slice_get (sites scenario) n ≡ Some site = sym (ap (λ (zs : List SiteId). slice_get zs n) c.requires.declared) ∙ slice_get-get_or c.args.declared.now n (record { 0 = 0 }) c.loop-site-test.true in
    let few = disk_within scenario whole n site own in
    let nine = c.loop-site.invariant.nine in
    let ok = c.loop-site.disks.ok.0 in
    omega (arith, few, nine, ok)

pub reopen_site-requires-clause-told : goal.reopen_site-requires-clause-told
reopen_site-requires-clause-told g c = c.requires.told

pub reopen_site-requires-clause-found : goal.reopen_site-requires-clause-found
reopen_site-requires-clause-found g c =
    let scenario : Scenario = c.args.scenario.now in
    let whole : IsScenario scenario = subst (λ (s : Scenario). IsScenario s) c.scenario.view_is c.scenario.invariant in
    let n = c.loop-site.site-index in
    let site : SiteId = slice_index_or c.args.declared.now n (record { 0 = 0 }) in
    let own : slice_get (sites scenario) n ≡ Some site = sym (ap (λ (zs : List SiteId). slice_get zs n) c.requires.declared) ∙ slice_get-get_or c.args.declared.now n (record { 0 = 0 }) c.loop-site-test.true in
    let disks = c.loop-site.disks.items in
    let old = c.index_mut.result.now in
    let found : first_where (declares site) scenario.sites ≡ Some c.in-Some.line =
    sym (c.in-Some.ensures ∙ (ap (λ (ls : List SiteLine). first_where (declares site) ls) c.as_slice.ensures ∙ ap (λ (s : Scenario). first_where (declares site) s.sites) c.scenario.view_is)) in
    let here =
    is_here g.D.Disk.seen g.D.Disk.tells scenario whole c.args.disks.now.items disks n site old old c.loop-site.invariant.nine own c.index_mut.ensures.value c.loop-site.invariant.images c.requires.found.0 c.requires.found.1 c.in-Some.line found in
    (here.home, here.journal, here.stands, here.rule)

pub push_reserved-requires : goal.push_reserved-requires
push_reserved-requires g c =
    let (found, on) = c.requires.found in
    let back = c.loop-site.invariant.back found on in
    let all = back.all in
    let room = c.loop-site.invariant.room in
    let ok = c.loop-site.cores.ok.0 in
    let less = c.loop-site-test.true in
    omega (arith, all, room, ok, less)

pub returns-in-Err-Disk-clause-failed : goal.returns-in-Err-Disk-clause-failed
returns-in-Err-Disk-clause-failed g c = tt

pub returns-in-Err-Disk-clause-first : goal.returns-in-Err-Disk-clause-first
returns-in-Err-Disk-clause-first g c =
    let scenario : Scenario = c.args.scenario.now in
    let whole : IsScenario scenario = subst (λ (s : Scenario). IsScenario s) c.scenario.view_is c.scenario.invariant in
    let n = c.loop-site.site-index in
    let site : SiteId = slice_index_or c.args.declared.now n (record { 0 = 0 }) in
    let own : slice_get (sites scenario) n ≡ Some site = sym (ap (λ (zs : List SiteId). slice_get zs n) c.requires.declared) ∙ slice_get-get_or c.args.declared.now n (record { 0 = 0 }) c.loop-site-test.true in
    let disks = c.loop-site.disks.items in
    let old = c.index_mut.result.now in
    let new = c.reopen_site.new.disk in
    first_stays g.D.Disk.seen g.D.Disk.tells scenario whole c.args.disks.now.items disks n site old new c.loop-site.invariant.nine own c.index_mut.ensures.value ∙ c.loop-site.invariant.first

pub returns-in-Err-Disk-clause-images : goal.returns-in-Err-Disk-clause-images
returns-in-Err-Disk-clause-images g c =
    let scenario : Scenario = c.args.scenario.now in
    let whole : IsScenario scenario = subst (λ (s : Scenario). IsScenario s) c.scenario.view_is c.scenario.invariant in
    let n = c.loop-site.site-index in
    let site : SiteId = slice_index_or c.args.declared.now n (record { 0 = 0 }) in
    let own : slice_get (sites scenario) n ≡ Some site = sym (ap (λ (zs : List SiteId). slice_get zs n) c.requires.declared) ∙ slice_get-get_or c.args.declared.now n (record { 0 = 0 }) c.loop-site-test.true in
    let disks = c.loop-site.disks.items in
    let old = c.index_mut.result.now in
    let within = has_disk g.D.Disk.seen g.D.Disk.tells scenario whole c.args.disks.now.items disks n site old old c.loop-site.invariant.nine own c.index_mut.ensures.value in
    let new = c.reopen_site.new.disk in
    same_images g.D.Disk.seen disks site.0 old new within c.index_mut.ensures.value c.reopen_site.ensures.image ∙ c.loop-site.invariant.images

pub returns-in-Err-Disk-clause-cause : goal.returns-in-Err-Disk-clause-cause
returns-in-Err-Disk-clause-cause g c =
    let scenario : Scenario = c.args.scenario.now in
    let whole : IsScenario scenario = subst (λ (s : Scenario). IsScenario s) c.scenario.view_is c.scenario.invariant in
    let n = c.loop-site.site-index in
    let site : SiteId = slice_index_or c.args.declared.now n (record { 0 = 0 }) in
    let own : slice_get (sites scenario) n ≡ Some site = sym (ap (λ (zs : List SiteId). slice_get zs n) c.requires.declared) ∙ slice_get-get_or c.args.declared.now n (record { 0 = 0 }) c.loop-site-test.true in
    let disks = c.loop-site.disks.items in
    let old = c.index_mut.result.now in
    let within = has_disk g.D.Disk.seen g.D.Disk.tells scenario whole c.args.disks.now.items disks n site old old c.loop-site.invariant.nine own c.index_mut.ensures.value in
    let new = c.reopen_site.new.disk in
    failed_step g.D.Disk.seen c.args.disks.now.items disks site.0 old new within c.index_mut.ensures.value c.loop-site.invariant.calm _ Step_err.Disk (ap (λ (e : StepErr). Err e) c.in-Err-Disk.field-0-is) c.in-Err-Disk.ensures.cause

pub returns-in-Err-Disk-clause-count : goal.returns-in-Err-Disk-clause-count
returns-in-Err-Disk-clause-count g c = length-set c.loop-site.disks.items _ c.reopen_site.new.disk ∙ c.loop-site.invariant.nine

pub returns-in-Err-Memory-clause-failed : goal.returns-in-Err-Memory-clause-failed
returns-in-Err-Memory-clause-failed g c = tt

pub returns-in-Err-Memory-clause-first : goal.returns-in-Err-Memory-clause-first
returns-in-Err-Memory-clause-first g c =
    let scenario : Scenario = c.args.scenario.now in
    let whole : IsScenario scenario = subst (λ (s : Scenario). IsScenario s) c.scenario.view_is c.scenario.invariant in
    let n = c.loop-site.site-index in
    let site : SiteId = slice_index_or c.args.declared.now n (record { 0 = 0 }) in
    let own : slice_get (sites scenario) n ≡ Some site = sym (ap (λ (zs : List SiteId). slice_get zs n) c.requires.declared) ∙ slice_get-get_or c.args.declared.now n (record { 0 = 0 }) c.loop-site-test.true in
    let disks = c.loop-site.disks.items in
    let old = c.index_mut.result.now in
    let new = c.reopen_site.new.disk in
    first_stays g.D.Disk.seen g.D.Disk.tells scenario whole c.args.disks.now.items disks n site old new c.loop-site.invariant.nine own c.index_mut.ensures.value ∙ c.loop-site.invariant.first

pub returns-in-Err-Memory-clause-images : goal.returns-in-Err-Memory-clause-images
returns-in-Err-Memory-clause-images g c =
    let scenario : Scenario = c.args.scenario.now in
    let whole : IsScenario scenario = subst (λ (s : Scenario). IsScenario s) c.scenario.view_is c.scenario.invariant in
    let n = c.loop-site.site-index in
    let site : SiteId = slice_index_or c.args.declared.now n (record { 0 = 0 }) in
    let own : slice_get (sites scenario) n ≡ Some site = sym (ap (λ (zs : List SiteId). slice_get zs n) c.requires.declared) ∙ slice_get-get_or c.args.declared.now n (record { 0 = 0 }) c.loop-site-test.true in
    let disks = c.loop-site.disks.items in
    let old = c.index_mut.result.now in
    let within = has_disk g.D.Disk.seen g.D.Disk.tells scenario whole c.args.disks.now.items disks n site old old c.loop-site.invariant.nine own c.index_mut.ensures.value in
    let new = c.reopen_site.new.disk in
    same_images g.D.Disk.seen disks site.0 old new within c.index_mut.ensures.value c.reopen_site.ensures.image ∙ c.loop-site.invariant.images

pub returns-in-Err-Memory-clause-cause : goal.returns-in-Err-Memory-clause-cause
returns-in-Err-Memory-clause-cause g c =
    let scenario : Scenario = c.args.scenario.now in
    let whole : IsScenario scenario = subst (λ (s : Scenario). IsScenario s) c.scenario.view_is c.scenario.invariant in
    let n = c.loop-site.site-index in
    let site : SiteId = slice_index_or c.args.declared.now n (record { 0 = 0 }) in
    let own : slice_get (sites scenario) n ≡ Some site = sym (ap (λ (zs : List SiteId). slice_get zs n) c.requires.declared) ∙ slice_get-get_or c.args.declared.now n (record { 0 = 0 }) c.loop-site-test.true in
    let disks = c.loop-site.disks.items in
    let old = c.index_mut.result.now in
    let within = has_disk g.D.Disk.seen g.D.Disk.tells scenario whole c.args.disks.now.items disks n site old old c.loop-site.invariant.nine own c.index_mut.ensures.value in
    let new = c.reopen_site.new.disk in
    failed_step g.D.Disk.seen c.args.disks.now.items disks site.0 old new within c.index_mut.ensures.value c.loop-site.invariant.calm _ Step_err.Memory (ap (λ (e : StepErr). Err e) c.in-Err-Memory.field-0-is) c.in-Err-Memory.ensures.cause

pub returns-in-Err-Memory-clause-count : goal.returns-in-Err-Memory-clause-count
returns-in-Err-Memory-clause-count g c = length-set c.loop-site.disks.items _ c.reopen_site.new.disk ∙ c.loop-site.invariant.nine

pub loop-site-preserved : goal.loop-site-preserved
loop-site-preserved g c =
    let scenario : Scenario = c.args.scenario.now in
    let whole : IsScenario scenario = subst (λ (s : Scenario). IsScenario s) c.scenario.view_is c.scenario.invariant in
    let n = c.loop-site.site-index in
    let site : SiteId = slice_index_or c.args.declared.now n (record { 0 = 0 }) in
    let own : slice_get (sites scenario) n ≡ Some site = sym (ap (λ (zs : List SiteId). slice_get zs n) c.requires.declared) ∙ slice_get-get_or c.args.declared.now n (record { 0 = 0 }) c.loop-site-test.true in
    let disks = c.loop-site.disks.items in
    let old = c.index_mut.result.now in
    let within = has_disk g.D.Disk.seen g.D.Disk.tells scenario whole c.args.disks.now.items disks n site old old c.loop-site.invariant.nine own c.index_mut.ensures.value in
    let new = c.reopen_site.new.disk in
    let found : first_where (declares site) scenario.sites ≡ Some c.in-Some.line =
    sym (c.in-Some.ensures ∙ (ap (λ (ls : List SiteLine). first_where (declares site) ls) c.as_slice.ensures ∙ ap (λ (s : Scenario). first_where (declares site) s.sites) c.scenario.view_is)) in
    let core : LocalDbms AnyEngine = c.in-Ok-reopen_site.core in
    let after = slice_set disks site.0 new in
    record {
      back = λ found_here on.
          subst (λ (ds : List (LocalDbms AnyEngine)). AreBackTo g.D.Disk.tells ds (map g.D.Disk.seen after) found_here (n + 1)) (sym c.push_reserved.ensures.items)
          (step_back g.D.Disk.seen g.D.Disk.tells scenario whole c.args.disks.now.items disks n site old new c.loop-site.invariant.nine own c.index_mut.ensures.value found_here on.sites_are
          c.loop-site.cores.items (c.loop-site.invariant.back found_here on) c.in-Some.line found core c.reopen_site.ensures.image c.in-Ok-reopen_site.ensures.stands);
      room = (let grown = c.push_reserved.ensures.capacity in let room = c.loop-site.invariant.room in omega (arith, grown, room));
      nine = length-set disks site.0 new ∙ c.loop-site.invariant.nine;
      first = first_stays g.D.Disk.seen g.D.Disk.tells scenario whole c.args.disks.now.items disks n site old new c.loop-site.invariant.nine own c.index_mut.ensures.value ∙ c.loop-site.invariant.first;
      images = same_images g.D.Disk.seen disks site.0 old new within c.index_mut.ensures.value c.reopen_site.ensures.image ∙ c.loop-site.invariant.images;
      calm = calm_step g.D.Disk.seen c.args.disks.now.items disks site.0 old new within c.index_mut.ensures.value c.loop-site.invariant.calm _ core refl c.in-Ok-reopen_site.ensures.cause;
    }

pub returns-clause-back : goal.returns-clause-back
returns-clause-back g c =
    let whole : IsScenario c.args.scenario.now = subst (λ (s : Scenario). IsScenario s) c.scenario.view_is c.scenario.invariant in
    let many = ap (λ (zs : List SiteId). length zs) c.requires.declared in
    let past = c.loop-site-test.false in
    let within = c.loop-site.auto.site-index-end in
    λ found on.
    let same = ap (λ (zs : List SiteId). length zs) (sites_same c.args.scenario.now whole found on.sites_are) in
    all_back g.D.Disk.tells c.loop-site.cores.items (map g.D.Disk.seen c.loop-site.disks.items) found c.loop-site.site-index (c.loop-site.invariant.back found on) (omega (arith, many, past, within, same))

pub returns-clause-first : goal.returns-clause-first
returns-clause-first g c = c.loop-site.invariant.first

pub returns-clause-images : goal.returns-clause-images
returns-clause-images g c = c.loop-site.invariant.images

pub returns-clause-cause : goal.returns-clause-cause
returns-clause-cause g c = c.loop-site.invariant.calm

pub returns-clause-count : goal.returns-clause-count
returns-clause-count g c = c.loop-site.invariant.nine
