use Rattle.std.proofs.Common.{map, refl, subst, ◌∙◌}
use Rattle.std.proofs.lemmas.List.{length-map}
use Rattle.mdb_base.proofs.ForCallers.{made_of}
use Rattle.fed_rules.specs.declared.scenario.Scenario.{Scenario}
use Rattle.journal_disk.specs.Disk.{Seen}
use Rattle.fed_world.proofs.NewWorlds.{TellsBytes, new_stands}
use Rattle.fed_world.proofs.SetUps.{stops_at_once}
use Rattle.fed_world.proofs.world.World.new.Goals as goal

pub returns-in_default-clause-failed : goal.returns-in_default-clause-failed
returns-in_default-clause-failed g c = stops_at_once g.D.Disk.tells (map g.D.Disk.seen c.args.disks.now.items) c.args.scenario c.requires.empty

pub returns-in_default-clause-cause : goal.returns-in_default-clause-cause
returns-in_default-clause-cause g c = refl

pub returns-in_default-clause-count : goal.returns-in_default-clause-count
returns-in_default-clause-count g c = c.requires.nine

pub returns-in_default-beginning_of-clause-failed : goal.returns-in_default-beginning_of-clause-failed
returns-in_default-beginning_of-clause-failed g c = stops_at_once g.D.Disk.tells (map g.D.Disk.seen c.args.disks.now.items) c.args.scenario c.requires.empty

pub returns-in_default-beginning_of-clause-cause : goal.returns-in_default-beginning_of-clause-cause
returns-in_default-beginning_of-clause-cause g c = refl

pub returns-in_default-beginning_of-clause-count : goal.returns-in_default-beginning_of-clause-count
returns-in_default-beginning_of-clause-count g c = c.requires.nine

pub returns-in_default-new_coordinator-clause-failed : goal.returns-in_default-new_coordinator-clause-failed
returns-in_default-new_coordinator-clause-failed g c = stops_at_once g.D.Disk.tells (map g.D.Disk.seen c.args.disks.now.items) c.args.scenario c.requires.empty

pub returns-in_default-new_coordinator-clause-cause : goal.returns-in_default-new_coordinator-clause-cause
returns-in_default-new_coordinator-clause-cause g c = refl

pub returns-in_default-new_coordinator-clause-count : goal.returns-in_default-new_coordinator-clause-count
returns-in_default-new_coordinator-clause-count g c = c.requires.nine

pub set_up_sites-requires-clause-told : goal.set_up_sites-requires-clause-told
set_up_sites-requires-clause-told g c = c.requires.told

pub set_up_sites-requires-clause-declared : goal.set_up_sites-requires-clause-declared
set_up_sites-requires-clause-declared g c = c.as_slice.ensures.value ∙ c.in-Ok.ensures.declared

pub set_up_sites-requires-clause-nine : goal.set_up_sites-requires-clause-nine
set_up_sites-requires-clause-nine g c = c.requires.nine

pub set_up_sites-requires-clause-empty : goal.set_up_sites-requires-clause-empty
set_up_sites-requires-clause-empty g c = c.requires.empty

pub into_world-requires : goal.into_world-requires
into_world-requires g c = c.in-Ok-beginning_of.ensures

pub returns-in-Ok-set_up_sites-clause-stands : goal.returns-in-Ok-set_up_sites-clause-stands
returns-in-Ok-set_up_sites-clause-stands g c =
    let scenario : Scenario = c.args.scenario in
    let disks = c.set_up_sites.new.disks.items in
    new_stands g.D.Disk.tells c.into_world.result (map g.D.Disk.seen disks) scenario c.in-Ok.ensures.whole c.requires.told (length-map disks g.D.Disk.seen ∙ c.set_up_sites.ensures.count)
    (λ (seen : Seen) at. (let (disk, got, is) = made_of g.D.Disk.seen disks 0 seen at in subst (λ (s : Seen). TellsBytes s) is (record { bytes = g.met.D.Disk.told_size disk c.requires.told; sound = g.met.D.Disk.is_sound disk c.requires.told })))
    c.in-Ok-new_coordinator.coordinator c.in-Ok-set_up_sites.sites.items c.into_world.ensures c.in-Ok-new_coordinator.ensures c.in-Ok-set_up_sites.ensures.stands

pub returns-in-Ok-set_up_sites-clause-cause : goal.returns-in-Ok-set_up_sites-clause-cause
returns-in-Ok-set_up_sites-clause-cause g c = c.in-Ok-set_up_sites.ensures.cause

pub returns-in-Ok-set_up_sites-clause-count : goal.returns-in-Ok-set_up_sites-clause-count
returns-in-Ok-set_up_sites-clause-count g c = c.set_up_sites.ensures.count

pub returns-clause-failed : goal.returns-clause-failed
returns-clause-failed g c = c.in-Err.ensures.failed

pub returns-clause-cause : goal.returns-clause-cause
returns-clause-cause g c = c.in-Err.ensures.cause

pub returns-clause-count : goal.returns-clause-count
returns-clause-count g c = c.set_up_sites.ensures.count
