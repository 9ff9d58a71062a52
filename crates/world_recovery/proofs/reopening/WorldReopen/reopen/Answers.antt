use Rattle.std.proofs.Common.{List, map, sym, ap, subst, ◌∙◌}
use Rattle.std.proofs.lemmas.Result.{IfOk-weaker}
use Rattle.fed_rules.specs.declared.scenario.Scenario.{Scenario}
use Rattle.journal_disk.specs.Disk.{Image}
use Rattle.found_disks.specs.Finding.{found_in}
use Rattle.found_disks.specs.Reading.{images_of}
use Rattle.found_disks.proofs.ForCallers.{same_length}
use Rattle.world_recovery.specs.Reopening.{AreOnDisks, IsOnFirst}
use Rattle.world_recovery.proofs.BackSteps.{nine_images}
use Rattle.world_recovery.proofs.ReopenedWorlds.{on_disks, on_first, reopened_stands}
use Rattle.world_recovery.proofs.Reopens.{reopens_as, told_on}
use Rattle.world_recovery.proofs.reopening.WorldReopen.reopen.Goals as goal

pub find_journals-requires-clause-told : goal.find_journals-requires-clause-told
find_journals-requires-clause-told g c = c.requires.told

pub find_journals-requires-clause-nine : goal.find_journals-requires-clause-nine
find_journals-requires-clause-nine g c = c.requires.nine

pub plan_of-requires : goal.plan_of-requires
plan_of-requires g c = (images_of (map g.D.Disk.seen c.args.disks.now.items), c.in-Ok.ensures.usable)

pub reopen_world-requires-clause-told : goal.reopen_world-requires-clause-told
reopen_world-requires-clause-told g c = c.requires.told

pub reopen_world-requires-clause-nine : goal.reopen_world-requires-clause-nine
reopen_world-requires-clause-nine g c = same_length g.D.Disk.seen c.find_journals.new.disks.items c.args.disks.now.items c.in-Ok.ensures.images ∙ c.requires.nine

pub reopen_world-requires-clause-found : goal.reopen_world-requires-clause-found
reopen_world-requires-clause-found g c =
    let images = images_of (map g.D.Disk.seen c.args.disks.now.items) in
    let journals = c.in-Ok.journals in
    let f = c.in-Ok.ensures in
    let nine = nine_images g.D.Disk.seen c.args.disks.now.items c.requires.nine in
    let plan = c.in-Ok-plan_of.plan in
    let p = c.in-Ok-plan_of.ensures images f.usable in
    let same = ap (λ (s : Scenario). s.sites) p.scenario in (
      found_in images journals,
      subst (λ (is : List Image). IsOnFirst (found_in images journals) plan.scenario is) (sym f.images) (on_first images journals nine f.found.0 f.found.1 f.usable c.requires.synced plan.scenario same),
      subst (λ (is : List Image). AreOnDisks (found_in images journals) plan.scenario is) (sym f.images) (on_disks images journals nine f.found.0 f.found.1 f.usable c.requires.synced plan.scenario same),
    )

pub returns-in-Ok-plan_of-clause-reopened : goal.returns-in-Ok-plan_of-clause-reopened
returns-in-Ok-plan_of-clause-reopened g c =
    let images = images_of (map g.D.Disk.seen c.args.disks.now.items) in
    let new = map g.D.Disk.seen c.reopen_world.new.disks.items in
    let journals = c.in-Ok.journals in
    let f = c.in-Ok.ensures in
    let nine = nine_images g.D.Disk.seen c.args.disks.now.items c.requires.nine in
    let plan = c.in-Ok-plan_of.plan in
    let p = c.in-Ok-plan_of.ensures images f.usable in
    let same = ap (λ (s : Scenario). s.sites) p.scenario in
    let first = subst (λ (is : List Image). IsOnFirst (found_in images journals) plan.scenario is) (sym f.images) (on_first images journals nine f.found.0 f.found.1 f.usable c.requires.synced plan.scenario same) in
    let on = subst (λ (is : List Image). AreOnDisks (found_in images journals) plan.scenario is) (sym f.images) (on_disks images journals nine f.found.0 f.found.1 f.usable c.requires.synced plan.scenario same) in
    reopens_as g.D.Disk.tells c.reopen_world.result (map g.D.Disk.seen c.args.disks.now.items) new
    (IfOk-weaker c.reopen_world.result _ _
    (λ world back. record {
      journals = journals;
      read = f.found.0;
      named = f.found.1;
      stands = reopened_stands images journals nine f.found.0 f.found.1 f.usable c.requires.synced g.D.Disk.tells world new plan (c.reopen_world.ensures.images ∙ f.images) p
          (back (found_in images journals) first on);
    })
    c.reopen_world.ensures.back)
    c.reopen_world.ensures.failed

pub returns-in-Ok-plan_of-clause-images : goal.returns-in-Ok-plan_of-clause-images
returns-in-Ok-plan_of-clause-images g c = c.reopen_world.ensures.images ∙ c.in-Ok.ensures.images

pub returns-in-Ok-plan_of-clause-cause : goal.returns-in-Ok-plan_of-clause-cause
returns-in-Ok-plan_of-clause-cause g c =
    told_on c.reopen_world.result (map g.D.Disk.seen c.args.disks.now.items) (map g.D.Disk.seen c.find_journals.new.disks.items) (map g.D.Disk.seen c.reopen_world.new.disks.items)
    c.in-Ok.ensures.cause c.reopen_world.ensures.cause

pub returns-in-Ok-plan_of-clause-count : goal.returns-in-Ok-plan_of-clause-count
returns-in-Ok-plan_of-clause-count g c = c.reopen_world.ensures.count

pub returns-in-Ok-clause-images : goal.returns-in-Ok-clause-images
returns-in-Ok-clause-images g c = c.in-Ok.ensures.images

pub returns-in-Ok-clause-cause : goal.returns-in-Ok-clause-cause
returns-in-Ok-clause-cause g c = c.in-Ok.ensures.cause

pub returns-in-Ok-clause-count : goal.returns-in-Ok-clause-count
returns-in-Ok-clause-count g c = same_length g.D.Disk.seen c.find_journals.new.disks.items c.args.disks.now.items c.in-Ok.ensures.images ∙ c.requires.nine

pub returns-clause-reopened : goal.returns-clause-reopened
returns-clause-reopened g c = c.in-Err.ensures.found

pub returns-clause-images : goal.returns-clause-images
returns-clause-images g c = c.in-Err.ensures.images

pub returns-clause-cause : goal.returns-clause-cause
returns-clause-cause g c = c.in-Err.ensures.cause

pub returns-clause-count : goal.returns-clause-count
returns-clause-count g c = same_length g.D.Disk.seen c.find_journals.new.disks.items c.args.disks.now.items c.in-Err.ensures.images ∙ c.requires.nine
