use Rattle.std.proofs.Common.{List, map, refl, sym, subst, ◌∙◌}
use Rattle.journal_disk.specs.Disk.{Image}
use Rattle.found_disks.proofs.ForCallers.{told_later}
use Rattle.world_recovery.specs.Reopening.{AreOnDisks}
use Rattle.world_recovery.proofs.BackSteps.{coordinator_stays}
use Rattle.world_recovery.proofs.reopening.reopen_actors.Goals as goal

pub returns-in_default-clause-failed : goal.returns-in_default-clause-failed
returns-in_default-clause-failed g c = tt

pub returns-in_default-clause-images : goal.returns-in_default-clause-images
returns-in_default-clause-images g c = refl

pub returns-in_default-clause-cause : goal.returns-in_default-clause-cause
returns-in_default-clause-cause g c = refl

pub returns-in_default-clause-count : goal.returns-in_default-clause-count
returns-in_default-clause-count g c = c.requires.nine

pub reopen_coordinator-requires-clause-told : goal.reopen_coordinator-requires-clause-told
reopen_coordinator-requires-clause-told g c = c.requires.told

pub reopen_coordinator-requires-clause-nine : goal.reopen_coordinator-requires-clause-nine
reopen_coordinator-requires-clause-nine g c = c.requires.nine

pub reopen_coordinator-requires-clause-found : goal.reopen_coordinator-requires-clause-found
reopen_coordinator-requires-clause-found g c = (c.requires.found.0, c.requires.found.1)

pub reopen_sites-requires-clause-told : goal.reopen_sites-requires-clause-told
reopen_sites-requires-clause-told g c = c.requires.told

pub reopen_sites-requires-clause-nine : goal.reopen_sites-requires-clause-nine
reopen_sites-requires-clause-nine g c = c.reopen_coordinator.ensures.count

pub reopen_sites-requires-clause-declared : goal.reopen_sites-requires-clause-declared
reopen_sites-requires-clause-declared g c = c.as_slice.ensures.value ∙ c.in-Ok.ensures.declared

pub reopen_sites-requires-clause-found : goal.reopen_sites-requires-clause-found
reopen_sites-requires-clause-found g c =
    (c.requires.found.0, subst (λ (images : List Image). AreOnDisks c.requires.found.0 c.args.scenario.now images) (sym c.in-Ok-reopen_coordinator.ensures.images) c.requires.found.2)

pub returns-in-Ok-reopen_sites-clause-back : goal.returns-in-Ok-reopen_sites-clause-back
returns-in-Ok-reopen_sites-clause-back g c found first on =
    let old = map g.D.Disk.seen c.reopen_coordinator.new.disks.items in
    let new = map g.D.Disk.seen c.reopen_sites.new.disks.items in
    record {
      coordinator = coordinator_stays g.D.Disk.tells c.in-Ok-reopen_coordinator.coordinator old new found c.reopen_sites.ensures.first (c.in-Ok-reopen_coordinator.ensures.back found first);
      sites = c.in-Ok-reopen_sites.ensures.back found (subst (λ (images : List Image). AreOnDisks found c.args.scenario.now images) (sym c.in-Ok-reopen_coordinator.ensures.images) on);
    }

pub returns-in-Ok-reopen_sites-clause-images : goal.returns-in-Ok-reopen_sites-clause-images
returns-in-Ok-reopen_sites-clause-images g c = c.in-Ok-reopen_sites.ensures.images ∙ c.in-Ok-reopen_coordinator.ensures.images

pub returns-in-Ok-reopen_sites-clause-cause : goal.returns-in-Ok-reopen_sites-clause-cause
returns-in-Ok-reopen_sites-clause-cause g c = c.in-Ok-reopen_sites.ensures.cause ∙ c.in-Ok-reopen_coordinator.ensures.cause

pub returns-in-Ok-reopen_sites-clause-count : goal.returns-in-Ok-reopen_sites-clause-count
returns-in-Ok-reopen_sites-clause-count g c = c.reopen_sites.ensures.count

pub returns-in-Ok-reopen_coordinator-clause-failed : goal.returns-in-Ok-reopen_coordinator-clause-failed
returns-in-Ok-reopen_coordinator-clause-failed g c = c.in-Err-reopen_sites.ensures.failed

pub returns-in-Ok-reopen_coordinator-clause-images : goal.returns-in-Ok-reopen_coordinator-clause-images
returns-in-Ok-reopen_coordinator-clause-images g c = c.in-Err-reopen_sites.ensures.images ∙ c.in-Ok-reopen_coordinator.ensures.images

pub returns-in-Ok-reopen_coordinator-clause-cause : goal.returns-in-Ok-reopen_coordinator-clause-cause
returns-in-Ok-reopen_coordinator-clause-cause g c =
    told_later c.in-Err-reopen_sites.why (map g.D.Disk.seen c.args.disks.now.items) (map g.D.Disk.seen c.reopen_coordinator.new.disks.items) (map g.D.Disk.seen c.reopen_sites.new.disks.items)
    c.in-Ok-reopen_coordinator.ensures.cause c.in-Err-reopen_sites.ensures.cause

pub returns-in-Ok-reopen_coordinator-clause-count : goal.returns-in-Ok-reopen_coordinator-clause-count
returns-in-Ok-reopen_coordinator-clause-count g c = c.reopen_sites.ensures.count

pub returns-clause-failed : goal.returns-clause-failed
returns-clause-failed g c = c.in-Err.ensures.failed

pub returns-clause-images : goal.returns-clause-images
returns-clause-images g c = c.in-Err.ensures.images

pub returns-clause-cause : goal.returns-clause-cause
returns-clause-cause g c = c.in-Err.ensures.cause

pub returns-clause-count : goal.returns-clause-count
returns-clause-count g c = c.reopen_coordinator.ensures.count
