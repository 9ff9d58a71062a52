use Rattle.std.proofs.Common.{◌∙◌, map, slice_set, refl, sym, subst, arith, rules}
use Rattle.std.proofs.lemmas.List.{length-map}
use Rattle.fed_rules.specs.declared.commands.Line.{Line}
use Rattle.fed_world.specs.declared.errors.WorldErr.{WorldErr}
use Rattle.fed_world.specs.Faults.{FailedAs}
use Rattle.fed_world.proofs.CoordHeard.{fails_told, few_messages, first_disk, hears_told, may_ask_coord, roomed_stands}
use Rattle.fed_world.proofs.Disks.{seen_put}
use Rattle.fed_world.proofs.Growing.{few_commands}
use Rattle.fed_world.proofs.Faults.{failure_told, line_told}
use Rattle.fed_world.proofs.world.World.at_coordinator.Goals as goal

pub returns-in_default-clause-failed : goal.returns-in_default-clause-failed
returns-in_default-clause-failed g c session commands command s asks room =
    roomed_stands g.D.Disk.tells c.args.self.now (map g.D.Disk.seen c.args.disks.now.items) session commands s.stand _ refl (record { cores_are = refl; marks_are = refl; channels_are = c.make_room.ensures.same })

pub returns-in_default-clause-kept : goal.returns-in_default-clause-kept
returns-in_default-clause-kept g c = refl

pub returns-in_default-clause-keeps : goal.returns-in_default-clause-keeps
returns-in_default-clause-keeps g c = record { broken = refl; routes = refl; scenario = refl; begun = refl }

pub returns-in_default-clause-cause : goal.returns-in_default-clause-cause
returns-in_default-clause-cause g c = refl

pub returns-in_default-reserve-clause-failed : goal.returns-in_default-reserve-clause-failed
returns-in_default-reserve-clause-failed g c session commands command s asks room =
    roomed_stands g.D.Disk.tells c.args.self.now (map g.D.Disk.seen c.args.disks.now.items) session commands s.stand _ refl (record { cores_are = refl; marks_are = refl; channels_are = c.make_room.ensures.same })

pub returns-in_default-reserve-clause-kept : goal.returns-in_default-reserve-clause-kept
returns-in_default-reserve-clause-kept g c = refl

pub returns-in_default-reserve-clause-keeps : goal.returns-in_default-reserve-clause-keeps
returns-in_default-reserve-clause-keeps g c = record { broken = refl; routes = refl; scenario = refl; begun = refl }

pub returns-in_default-reserve-clause-cause : goal.returns-in_default-reserve-clause-cause
returns-in_default-reserve-clause-cause g c = refl

pub index_mut-requires : goal.index_mut-requires
index_mut-requires g c =
    let nine = c.requires.stood.stood.stand.others.nine in
    let seen = length-map c.args.disks.now.items g.D.Disk.seen in
    let size = c.args.disks.now.ok.0 in
    omega (arith, nine, seen, size)

pub ask-requires-clause-told : goal.ask-requires-clause-told
ask-requires-clause-told g c = c.requires.told

pub ask-requires-clause-stood : goal.ask-requires-clause-stood
ask-requires-clause-stood g c =
    let r = c.requires.stood in
    let at = first_disk g.D.Disk.seen c.args.disks.now.items c.index_mut.result.now r.session r.stood.stand.others c.index_mut.ensures.value in
    may_ask_coord g.D.Disk.tells c.args.self.now (map g.D.Disk.seen c.args.disks.now.items) r.session r.commands r.stood.stand (g.D.Disk.seen c.index_mut.result.now) (g.D.Disk.seen c.index_mut.result.now) at c.args.ask r.command r.asks

pub post-requires-clause-room : goal.post-requires-clause-room
post-requires-clause-room g c = c.in-Ok.ensures.room

pub post-requires-clause-empty : goal.post-requires-clause-empty
post-requires-clause-empty g c = c.reserve.ensures.items ∙ c.clear.ensures.items

pub post-requires-clause-places : goal.post-requires-clause-places
post-requires-clause-places g c =
    let room = c.in-Ok-reserve.ensures.ok in
    let many = c.len.ensures in
    let same = c.make_room.ensures.same.count in
    let size = c.args.self.now.traffic.ok.0 in
    omega (arith, room, many, same, size)

pub post-requires-clause-few : goal.post-requires-clause-few
post-requires-clause-few g c =
    let r = c.requires.stood in
    few_messages g.D.Disk.tells c.args.self.now (map g.D.Disk.seen c.args.disks.now.items) r.session r.commands r.stood.stand c.make_room.new.traffic.items c.make_room.ensures.same (few_commands r.session r.commands r.room)

pub as_slice-requires : goal.as_slice-requires
as_slice-requires g c = search rules

pub push_reserved-requires : goal.push_reserved-requires
push_reserved-requires g c = c.requires.room

pub returns-in-Ok-ask-clause-heard : goal.returns-in-Ok-ask-clause-heard
returns-in-Ok-ask-clause-heard g c =
    let line : Line = record { command = c.args.command.now; answer = c.in-Ok-ask.step.answer; sends = c.taken.result } in
    record {
      line = line;
      is = refl;
      lines = c.push_reserved.ensures.items;
      holds = λ session commands command s asks room.
          let at = first_disk g.D.Disk.seen c.args.disks.now.items c.index_mut.result.now session s.stand.others c.index_mut.ensures.value in
          hears_told g.D.Disk.tells c.args.self.now (map g.D.Disk.seen c.args.disks.now.items) session commands s.stand (g.D.Disk.seen c.index_mut.result.now) (g.D.Disk.seen c.ask.new.disk) at c.args.ask command asks
          s.has.begins _ _ c.make_room.new.traffic.items c.as_slice.result.now c.in-Ok-ask.step line (seen_put g.D.Disk.seen c.args.disks.now.items 0 c.ask.new.disk)
          (record { cores_are = refl; marks_are = refl; room = c.make_room.ensures.same; posted = c.post.ensures.posted }) c.as_slice.ensures.items c.in-Ok-ask.ensures.served c.as_slice.ensures.rising refl (c.taken.ensures.taken ∙ c.post.ensures.places);
    }

pub returns-in-Ok-ask-clause-keeps : goal.returns-in-Ok-ask-clause-keeps
returns-in-Ok-ask-clause-keeps g c = record { broken = refl; routes = refl; scenario = refl; begun = refl }

pub returns-in-Ok-ask-clause-cause : goal.returns-in-Ok-ask-clause-cause
returns-in-Ok-ask-clause-cause g c =
    let r = c.requires.stood in
    let at = first_disk g.D.Disk.seen c.args.disks.now.items c.index_mut.result.now r.session r.stood.stand.others c.index_mut.ensures.value in
    line_told (map g.D.Disk.seen c.args.disks.now.items) _ 0 (g.D.Disk.seen c.index_mut.result.now) (g.D.Disk.seen c.ask.new.disk) at
    (seen_put g.D.Disk.seen c.args.disks.now.items 0 c.ask.new.disk) _ c.in-Ok-ask.step refl c.in-Ok-ask.ensures.cause

pub returns-in-Err-clause-failed : goal.returns-in-Err-clause-failed
returns-in-Err-clause-failed g c session commands command s asks room =
    let at = first_disk g.D.Disk.seen c.args.disks.now.items c.index_mut.result.now session s.stand.others c.index_mut.ensures.value in
    fails_told g.D.Disk.tells c.args.self.now (map g.D.Disk.seen c.args.disks.now.items) session commands s.stand (g.D.Disk.seen c.index_mut.result.now) (g.D.Disk.seen c.ask.new.disk) at c.args.ask command asks
    c.in-Err.why c.world_err.result _ _ c.world_err.ensures (seen_put g.D.Disk.seen c.args.disks.now.items 0 c.ask.new.disk)
    (record { cores_are = refl; marks_are = refl; channels_are = c.make_room.ensures.same }) c.in-Err.ensures.failed

pub returns-in-Err-clause-kept : goal.returns-in-Err-clause-kept
returns-in-Err-clause-kept g c = refl

pub returns-in-Err-clause-keeps : goal.returns-in-Err-clause-keeps
returns-in-Err-clause-keeps g c = record { broken = refl; routes = refl; scenario = refl; begun = refl }

pub returns-in-Err-clause-cause : goal.returns-in-Err-clause-cause
returns-in-Err-clause-cause g c =
    let r = c.requires.stood in
    let at = first_disk g.D.Disk.seen c.args.disks.now.items c.index_mut.result.now r.session r.stood.stand.others c.index_mut.ensures.value in
    subst (λ (why : WorldErr). FailedAs why (map g.D.Disk.seen c.args.disks.now.items) (map g.D.Disk.seen (slice_set c.args.disks.now.items 0 c.ask.new.disk))) (sym c.world_err.ensures)
    (failure_told (map g.D.Disk.seen c.args.disks.now.items) _ 0 (g.D.Disk.seen c.index_mut.result.now) (g.D.Disk.seen c.ask.new.disk) at
    (seen_put g.D.Disk.seen c.args.disks.now.items 0 c.ask.new.disk) _ c.in-Err.why refl c.in-Err.ensures.cause)
