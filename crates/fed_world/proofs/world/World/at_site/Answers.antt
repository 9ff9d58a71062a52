use Rattle.std.proofs.Common.{◌≡◌, Some, length, map, slice_get, slice_set, refl, sym, subst, arith}
use Rattle.std.proofs.lemmas.List.{length-map}
use Rattle.std.proofs.lemmas.Option.{slice_get_read, slice_get_within}
use Rattle.fed_rules.specs.Scenarios.{sites}
use Rattle.fed_world.specs.declared.errors.WorldErr.{WorldErr}
use Rattle.fed_world.specs.Faults.{FailedAs}
use Rattle.fed_world.proofs.Disks.{seen_put}
use Rattle.fed_world.proofs.Faults.{failure_told, line_told}
use Rattle.fed_world.proofs.SiteHeard.{fails_from, few_sent, hears_from, is_read, may_hear, number_within}
use Rattle.fed_world.proofs.world.World.at_site.Goals as goal

pub index_mut-traffic-requires : goal.index_mut-traffic-requires
index_mut-traffic-requires g c =
    let r = c.requires.stood in
    let inside = slice_get_within (sites r.session.plan) c.args.place r.asks.home.site r.asks.at in
    let many = r.stood.stand.actors.sites.all_channels in
    let size = c.args.self.now.traffic.ok.0 in
    omega (arith, inside, many, size)

pub index_mut-requires : goal.index_mut-requires
index_mut-requires g c =
    let r = c.requires.stood in
    let inside = slice_get_within (sites r.session.plan) c.args.place r.asks.home.site r.asks.at in
    let many = r.stood.stand.actors.sites.all_cores in
    let size = c.args.self.now.cores.sites.items.ok.0 in
    omega (arith, inside, many, size)

pub index_mut-requires-2 : goal.index_mut-requires-2
index_mut-requires-2 g c =
    let r = c.requires.stood in
    let inside = slice_get_within (sites r.session.plan) c.args.place r.asks.home.site r.asks.at in
    let many = r.stood.stand.actors.sites.all_marks in
    let size = c.args.self.now.cores.marks.ok.0 in
    omega (arith, inside, many, size)

pub index_mut-requires-3 : goal.index_mut-requires-3
index_mut-requires-3 g c =
    let r = c.requires.stood in
    let channels = c.args.self.now.traffic.items in
    let channel = c.index_mut-traffic.result.now in
    let inside = slice_get_within (sites r.session.plan) c.args.place r.asks.home.site r.asks.at in
    let many = r.stood.stand.actors.sites.all_channels in
    let at : slice_get channels c.args.place ≡ Some channel = slice_get_read channels (length channels) c.args.place channel refl (omega (arith, inside, many)) c.index_mut-traffic.ensures.value in
    let within = number_within g.D.Disk.tells c.args.self.now (map g.D.Disk.seen c.args.disks.now.items) r.session r.commands r.stood.stand c.args.place r.asks.home.site channel r.asks.at at in
    let seen = length-map c.args.disks.now.items g.D.Disk.seen in
    let size = c.args.disks.now.ok.0 in
    omega (arith, within, seen, size)

pub tell_seat-told-requires-clause-told : goal.tell_seat-told-requires-clause-told
tell_seat-told-requires-clause-told g c = c.requires.told

pub tell_seat-told-requires-clause-stood : goal.tell_seat-told-requires-clause-stood
tell_seat-told-requires-clause-stood g c =
    let r = c.requires.stood in
    let read = is_read g.D.Disk.seen g.D.Disk.tells c.args.self.now c.args.disks.now.items r.session r.commands c.args.place c.args.ask r.command c.index_mut.result.now c.index_mut-2.result.now c.index_mut-traffic.result.now c.index_mut-3.result.now
    r.stood.stand r.asks c.index_mut.ensures.value c.index_mut-2.ensures.value c.index_mut-traffic.ensures.value c.index_mut-3.ensures.value in
    may_hear g.D.Disk.tells c.args.self.now (map g.D.Disk.seen c.args.disks.now.items) r.session r.commands r.stood.stand c.args.place c.args.ask r.command r.asks c.index_mut.result.now c.index_mut-2.result.now c.index_mut-traffic.result.now
    (g.D.Disk.seen c.index_mut-3.result.now) read r.stood.has.begins r.room

pub tell_seat-told-requires-clause-few : goal.tell_seat-told-requires-clause-few
tell_seat-told-requires-clause-few g c =
    let r = c.requires.stood in
    let channels = c.args.self.now.traffic.items in
    let channel = c.index_mut-traffic.result.now in
    let inside = slice_get_within (sites r.session.plan) c.args.place r.asks.home.site r.asks.at in
    let many = r.stood.stand.actors.sites.all_channels in
    let at : slice_get channels c.args.place ≡ Some channel = slice_get_read channels (length channels) c.args.place channel refl (omega (arith, inside, many)) c.index_mut-traffic.ensures.value in
    few_sent g.D.Disk.tells c.args.self.now (map g.D.Disk.seen c.args.disks.now.items) r.session r.commands r.stood.stand c.args.place r.asks.home.site channel r.asks.at at r.room

pub tell_seat-told-requires-clause-room : goal.tell_seat-told-requires-clause-room
tell_seat-told-requires-clause-room g c = c.requires.room

pub returns-in-Ok-clause-heard : goal.returns-in-Ok-clause-heard
returns-in-Ok-clause-heard g c =
    let told = c.in-Ok.ensures.served in
    record {
      line = told.line;
      is = told.is;
      lines = told.lines;
      holds = λ session commands command s asks room.
          let read = is_read g.D.Disk.seen g.D.Disk.tells c.args.self.now c.args.disks.now.items session commands c.args.place c.args.ask command c.index_mut.result.now c.index_mut-2.result.now c.index_mut-traffic.result.now c.index_mut-3.result.now
          s.stand asks c.index_mut.ensures.value c.index_mut-2.ensures.value c.index_mut-traffic.ensures.value c.index_mut-3.ensures.value in
          hears_from g.D.Disk.tells c.args.self.now (map g.D.Disk.seen c.args.disks.now.items) session commands s.stand c.args.place c.args.ask command asks c.index_mut.result.now c.index_mut-2.result.now c.index_mut-traffic.result.now
          (g.D.Disk.seen c.index_mut-3.result.now) read (g.D.Disk.seen c.tell_seat-told.new.disk) _ _ c.tell_seat-told.new.dbms c.tell_seat-told.new.marks c.tell_seat-told.new.traffic
          (seen_put g.D.Disk.seen c.args.disks.now.items c.index_mut-traffic.result.now.site.0 c.tell_seat-told.new.disk) (record { coordinator_is = refl; cores_are = refl; marks_are = refl; channels_are = refl }) s.has.begins room told.line told.holds;
    }

pub returns-in-Ok-clause-keeps : goal.returns-in-Ok-clause-keeps
returns-in-Ok-clause-keeps g c = record { broken = refl; routes = refl; scenario = refl; begun = refl }

pub returns-in-Ok-clause-cause : goal.returns-in-Ok-clause-cause
returns-in-Ok-clause-cause g c =
    let r = c.requires.stood in
    let read = is_read g.D.Disk.seen g.D.Disk.tells c.args.self.now c.args.disks.now.items r.session r.commands c.args.place c.args.ask r.command c.index_mut.result.now c.index_mut-2.result.now c.index_mut-traffic.result.now c.index_mut-3.result.now
    r.stood.stand r.asks c.index_mut.ensures.value c.index_mut-2.ensures.value c.index_mut-traffic.ensures.value c.index_mut-3.ensures.value in
    line_told (map g.D.Disk.seen c.args.disks.now.items) _ c.index_mut-traffic.result.now.site.0 (g.D.Disk.seen c.index_mut-3.result.now) (g.D.Disk.seen c.tell_seat-told.new.disk) read.disk
    (seen_put g.D.Disk.seen c.args.disks.now.items c.index_mut-traffic.result.now.site.0 c.tell_seat-told.new.disk) _ _ refl c.in-Ok.ensures.cause

pub returns-in-Err-clause-failed : goal.returns-in-Err-clause-failed
returns-in-Err-clause-failed g c session commands command s asks room =
    let read = is_read g.D.Disk.seen g.D.Disk.tells c.args.self.now c.args.disks.now.items session commands c.args.place c.args.ask command c.index_mut.result.now c.index_mut-2.result.now c.index_mut-traffic.result.now c.index_mut-3.result.now
    s.stand asks c.index_mut.ensures.value c.index_mut-2.ensures.value c.index_mut-traffic.ensures.value c.index_mut-3.ensures.value in
    fails_from g.D.Disk.tells c.args.self.now (map g.D.Disk.seen c.args.disks.now.items) session commands s.stand c.args.place c.args.ask command asks c.index_mut.result.now c.index_mut-2.result.now c.index_mut-traffic.result.now
    (g.D.Disk.seen c.index_mut-3.result.now) read (g.D.Disk.seen c.tell_seat-told.new.disk) _ _ c.tell_seat-told.new.dbms c.tell_seat-told.new.marks c.tell_seat-told.new.traffic
    (seen_put g.D.Disk.seen c.args.disks.now.items c.index_mut-traffic.result.now.site.0 c.tell_seat-told.new.disk) (record { coordinator_is = refl; cores_are = refl; marks_are = refl; channels_are = refl }) s.has.begins room c.in-Err.why c.world_err.result c.world_err.ensures c.in-Err.ensures.failed

pub returns-in-Err-clause-kept : goal.returns-in-Err-clause-kept
returns-in-Err-clause-kept g c = c.in-Err.ensures.kept

pub returns-in-Err-clause-keeps : goal.returns-in-Err-clause-keeps
returns-in-Err-clause-keeps g c = record { broken = refl; routes = refl; scenario = refl; begun = refl }

pub returns-in-Err-clause-cause : goal.returns-in-Err-clause-cause
returns-in-Err-clause-cause g c =
    let r = c.requires.stood in
    let read = is_read g.D.Disk.seen g.D.Disk.tells c.args.self.now c.args.disks.now.items r.session r.commands c.args.place c.args.ask r.command c.index_mut.result.now c.index_mut-2.result.now c.index_mut-traffic.result.now c.index_mut-3.result.now
    r.stood.stand r.asks c.index_mut.ensures.value c.index_mut-2.ensures.value c.index_mut-traffic.ensures.value c.index_mut-3.ensures.value in
    subst (λ (why : WorldErr). FailedAs why (map g.D.Disk.seen c.args.disks.now.items) (map g.D.Disk.seen (slice_set c.args.disks.now.items c.index_mut-traffic.result.now.site.0 c.tell_seat-told.new.disk))) (sym c.world_err.ensures)
    (failure_told (map g.D.Disk.seen c.args.disks.now.items) _ c.index_mut-traffic.result.now.site.0 (g.D.Disk.seen c.index_mut-3.result.now) (g.D.Disk.seen c.tell_seat-told.new.disk) read.disk
    (seen_put g.D.Disk.seen c.args.disks.now.items c.index_mut-traffic.result.now.site.0 c.tell_seat-told.new.disk) _ c.in-Err.why refl c.in-Err.ensures.cause)
