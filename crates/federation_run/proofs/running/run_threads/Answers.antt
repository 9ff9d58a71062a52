use Rattle.std.proofs.Common.{◌∙◌, inl, length, map, refl, rules, subst, sym, ap}
use Rattle.std.proofs.lemmas.List.{length-map}
use Rattle.fed_world.specs.declared.errors.WorldErr.{WorldErr}
use Rattle.fed_world.specs.Faults.{FailedAs, faults_of}
use Rattle.fed_world.specs.SettingUp.{FailsToStart}
use Rattle.federation_run.proofs.Closed.{ends_badly_since, has_run_since, is_left}
use Rattle.federation_run.proofs.Started.{fresh_apart, scenario_apart}
use Rattle.federation_run.proofs.running.run_threads.Goals as goal

pub returns-in-Err-Disk-clause-failed : goal.returns-in-Err-Disk-clause-failed
returns-in-Err-Disk-clause-failed g c =
    let old = map g.D.Disk.seen c.args.disks.now.items in
    let new = map g.D.Disk.seen c.new.new.disks.items in
    inl (record {
      none = c.of.ensures ∙ c.new-in-Err-Disk.ensures.items;
      stopped = subst (λ (why : WorldErr). FailsToStart g.D.Disk.tells why new c.args.scenario) c.in-Err-Disk.field-0-is c.in-Err-Disk.ensures.failed;
      rose = subst (λ (why : WorldErr). FailedAs why old new) c.in-Err-Disk.field-0-is c.in-Err-Disk.ensures.cause;
    })

pub same-scenario : goal.same-scenario
same-scenario g c = refl

pub wire_actors-requires : goal.wire_actors-requires
wire_actors-requires g c =
    (fresh_apart g.D.Disk.tells c.in-Ok.world (map g.D.Disk.seen c.new.new.disks.items) c.args.scenario c.in-Ok.ensures.stands c.into_cores-scenario.result c.into_cores-scenario.ensures).count

pub new-requires-clause-told : goal.new-requires-clause-told
new-requires-clause-told g c = c.requires.told

pub new-requires-clause-nine : goal.new-requires-clause-nine
new-requires-clause-nine g c = c.requires.nine

pub new-requires-clause-empty : goal.new-requires-clause-empty
new-requires-clause-empty g c = c.requires.empty

pub returns-in-Err-Memory-clause-count : goal.returns-in-Err-Memory-clause-count
returns-in-Err-Memory-clause-count g c = c.new.ensures.count

pub returns-in-Err-Disk-clause-count : goal.returns-in-Err-Disk-clause-count
returns-in-Err-Disk-clause-count g c = c.new.ensures.count

pub returns-in_default-clause-count : goal.returns-in_default-clause-count
returns-in_default-clause-count g c = c.new.ensures.count

pub run_over-requires : goal.run_over-requires
run_over-requires g c =
    let disks = map g.D.Disk.seen c.new.new.disks.items in
    let fresh = fresh_apart g.D.Disk.tells c.in-Ok.world disks c.args.scenario c.in-Ok.ensures.stands c.into_cores-scenario.result c.into_cores-scenario.ensures in
    let wired_actors = c.in-Ok-wire_actors.ensures g.D.Disk.tells disks fresh in
    (search rules, (search rules, (search rules, (search rules, (c.requires.told, (record { sites_are = refl; coordinator_is = refl; rings_are = refl }, wired_actors))))))

pub settle-requires : goal.settle-requires
settle-requires g c =
    let disks = map g.D.Disk.seen c.new.new.disks.items in
    let new = map g.D.Disk.seen c.run_over.new.disks.items in
    let fresh = fresh_apart g.D.Disk.tells c.in-Ok.world disks c.args.scenario c.in-Ok.ensures.stands c.into_cores-scenario.result c.into_cores-scenario.ensures in
    let wired_actors = c.in-Ok-wire_actors.ensures g.D.Disk.tells disks fresh in
    (g.D.Disk.tells, faults_of disks, new, is_left g.D.Disk.tells c.into_cores-scenario.result.scenario disks new c.in-Ok-wire_actors.actors c.in-Ok-run_over.left wired_actors c.in-Ok-run_over.ensures.left)

pub returns-in-Ok-run_over-clause-ran : goal.returns-in-Ok-run_over-clause-ran
returns-in-Ok-run_over-clause-ran g c =
    let old = map g.D.Disk.seen c.args.disks.now.items in
    let disks = map g.D.Disk.seen c.new.new.disks.items in
    let new = map g.D.Disk.seen c.run_over.new.disks.items in
    let own = c.into_cores-scenario.result.scenario in
    let fresh = fresh_apart g.D.Disk.tells c.in-Ok.world disks c.args.scenario c.in-Ok.ensures.stands c.into_cores-scenario.result c.into_cores-scenario.ensures in
    let wired_actors = c.in-Ok-wire_actors.ensures g.D.Disk.tells disks fresh in
    let left = is_left g.D.Disk.tells own disks new c.in-Ok-wire_actors.actors c.in-Ok-run_over.left wired_actors c.in-Ok-run_over.ensures.left in
    let same = scenario_apart g.D.Disk.tells c.in-Ok.world disks c.args.scenario c.in-Ok.ensures.stands c.into_cores-scenario.result c.into_cores-scenario.ensures in
    has_run_since g.D.Disk.tells old disks new c.args.scenario own c.in-Ok.ensures.cause same c.in-Ok-run_over.left left c.settle.result c.settle.ensures.ran

pub returns-in-Ok-run_over-clause-failed : goal.returns-in-Ok-run_over-clause-failed
returns-in-Ok-run_over-clause-failed g c =
    let old = map g.D.Disk.seen c.args.disks.now.items in
    let disks = map g.D.Disk.seen c.new.new.disks.items in
    let new = map g.D.Disk.seen c.run_over.new.disks.items in
    let own = c.into_cores-scenario.result.scenario in
    let fresh = fresh_apart g.D.Disk.tells c.in-Ok.world disks c.args.scenario c.in-Ok.ensures.stands c.into_cores-scenario.result c.into_cores-scenario.ensures in
    let wired_actors = c.in-Ok-wire_actors.ensures g.D.Disk.tells disks fresh in
    let left = is_left g.D.Disk.tells own disks new c.in-Ok-wire_actors.actors c.in-Ok-run_over.left wired_actors c.in-Ok-run_over.ensures.left in
    let same = scenario_apart g.D.Disk.tells c.in-Ok.world disks c.args.scenario c.in-Ok.ensures.stands c.into_cores-scenario.result c.into_cores-scenario.ensures in
    ends_badly_since g.D.Disk.tells old disks new c.args.scenario own c.in-Ok.ensures.cause same c.in-Ok-run_over.left left c.settle.result c.settle.ensures.stopped

pub returns-in-Ok-run_over-clause-count : goal.returns-in-Ok-run_over-clause-count
returns-in-Ok-run_over-clause-count g c = sym (length-map c.run_over.new.disks.items g.D.Disk.seen) ∙ c.in-Ok-run_over.ensures.left.nine

pub returns-in-Err-clause-count : goal.returns-in-Err-clause-count
returns-in-Err-clause-count g c = ap length c.in-Err.ensures.untouched ∙ c.new.ensures.count
