use Rattle.std.proofs.Common.{◌+◌, true, refl, sym, ◌∙◌}
use Rattle.mdb_base.proofs.ForCallers.{map_err, map_ok}
use Rattle.fed_rules.specs.declared.answers.Answer.TheVariants as Say
use Rattle.fed_rules.specs.declared.events.CoordStep.{CoordStep}
use Rattle.fed_rules.specs.CoordPast.{disk, trip}
use Rattle.journal_disk.proofs.ForCallers.{none_at_most}
use Rattle.actor_store.proofs.ForCallers.{from_kept}
use Rattle.coord_core.specs.declared.coord.CoordCore.{CoordCore}
use Rattle.coord_core.specs.Stands.{calls_for}
use Rattle.coord_tables.specs.Sending.{after_taken}
use Rattle.coord_tables.proofs.ForCallers.{initiates_is, sent_line, sent_tables}
use Rattle.coord_core.proofs.CalledLaws.{fails_behind, steps_behind}
use Rattle.coord_core.proofs.Fits.{initiation_fits, initiation_in_range}
use Rattle.coord_core.proofs.Sent.{sent_pending}
use Rattle.coord_core.proofs.Roomed.{stands_roomed}
use Rattle.coord_core.proofs.Still.{serves, up_is}
use Rattle.coord_core.proofs.coord.CoordCore.initiate.Goals as goal

pub room_for-requires-clause-fits : goal.room_for-requires-clause-fits
room_for-requires-clause-fits g c =
    let m = c.requires.may in
    initiation_fits m.terms m.past c.args.tid c.args.dues.now c.args.entry m.stood.holds.sound (c.requires.entry m.terms m.past m.stood m.holds)

pub returns-in_default-room_for-clause-failed : goal.returns-in_default-room_for-clause-failed
returns-in_default-room_for-clause-failed g c = λ terms past event k i. (
  stands_roomed g.P.TakePolicy.policy g.D.Disk.tells c.args.self.now c.room_for.new.store (g.D.Disk.seen c.args.disk.now) (g.D.Disk.seen c.room_for.new.disk) terms past c.room_for.ensures.keeps c.room_for.ensures.standing k,
  none_at_most (0 + calls_for terms past event) (g.D.Disk.seen c.args.disk.now) (g.D.Disk.seen c.room_for.new.disk) c.room_for.ensures.called,
)

pub end-requires-clause-kept : goal.end-requires-clause-kept
end-requires-clause-kept g c =
    let m = c.requires.may in
    (m.stood.stored.old, (disk m.past, trip m.past, c.room_for.ensures.keeps _ _ _ m.stood.stored.behind))

pub end-requires-clause-in_range : goal.end-requires-clause-in_range
end-requires-clause-in_range g c =
    let m = c.requires.may in
    initiation_in_range m.terms m.past c.args.tid c.args.dues.now c.args.entry m.stood.holds.sound m.holds (c.requires.entry m.terms m.past m.stood m.holds)

pub end-requires-clause-payload : goal.end-requires-clause-payload
end-requires-clause-payload g c =
    let m = c.requires.may in
    initiation_fits m.terms m.past c.args.tid c.args.dues.now c.args.entry m.stood.holds.sound (c.requires.entry m.terms m.past m.stood m.holds)

pub returns-clause-answered : goal.returns-clause-answered
returns-clause-answered g c =
    let old = c.args.self.now in
    let core : CoordCore g.row.P.Denot = record old { tables = c.sent.new.self; store = c.room_for.new.store } in
    let step : CoordStep = record { answer = Say.Initiates; sends = c.in-Ok.sends } in
    let before = g.D.Disk.seen c.args.disk.now in
    let roomed = g.D.Disk.seen c.room_for.new.disk in
    let after = g.D.Disk.seen c.end.new.disk in
    map_ok _ _ c.end.result c.end.ensures.answered (λ ended each terms past event k i.
    let s = serves g.P.TakePolicy.policy g.D.Disk.tells old terms past k.holds c.requires.up in
    let entry = c.requires.entry terms past k i.undecided in
    let forces = sym c.requires.some ∙ initiates_is terms past c.args.tid c.args.dues.now c.args.entry entry in
    let served = sent_tables terms past event c.args.tid c.args.taken c.args.defers c.args.dues.now old.tables.exec (after_taken c.args.tid c.args.taken old.tables.exec) i true old.tables c.take_reply.new.self c.sent.new.self
    refl c.take_reply.ensures.known c.take_reply.ensures.exec c.take_reply.ensures.stages c.take_reply.ensures.committed c.take_reply.ensures.graph c.sent.ensures.known c.sent.ensures.stages c.sent.ensures.exec c.sent.ensures.committed c.sent.ensures.graph s in
    steps_behind g.P.TakePolicy.policy g.D.Disk.tells 0 before roomed ended c.end.new.self after terms past _ c.room_for.ensures.called
    (each terms past event (sent_line terms.protocols past event c.args.tid c.args.defers c.args.dues.now true)
    (sent_pending terms past event c.args.tid c.args.taken c.args.defers c.args.dues.now old.tables.exec (after_taken c.args.tid c.args.taken old.tables.exec) i true g.P.TakePolicy.policy g.D.Disk.tells step old core
    before roomed c.args.entry k forces entry refl c.in-Ok.ensures (from_kept k.stored (c.room_for.ensures.keeps _ _ _ k.stored.behind))
    (up_is g.P.TakePolicy.policy g.D.Disk.tells old terms past k.holds c.requires.up) refl refl refl served)))

pub returns-clause-failed : goal.returns-clause-failed
returns-clause-failed g c =
    let old = c.args.self.now in
    let core : CoordCore g.row.P.Denot = record old { tables = c.sent.new.self; store = c.room_for.new.store } in
    let step : CoordStep = record { answer = Say.Initiates; sends = c.in-Ok.sends } in
    let before = g.D.Disk.seen c.args.disk.now in
    let roomed = g.D.Disk.seen c.room_for.new.disk in
    let after = g.D.Disk.seen c.end.new.disk in
    map_err _ _ c.end.result c.end.ensures.failed (λ why each terms past event k i.
    let s = serves g.P.TakePolicy.policy g.D.Disk.tells old terms past k.holds c.requires.up in
    let entry = c.requires.entry terms past k i.undecided in
    let forces = sym c.requires.some ∙ initiates_is terms past c.args.tid c.args.dues.now c.args.entry entry in
    let served = sent_tables terms past event c.args.tid c.args.taken c.args.defers c.args.dues.now old.tables.exec (after_taken c.args.tid c.args.taken old.tables.exec) i true old.tables c.take_reply.new.self c.sent.new.self
    refl c.take_reply.ensures.known c.take_reply.ensures.exec c.take_reply.ensures.stages c.take_reply.ensures.committed c.take_reply.ensures.graph c.sent.ensures.known c.sent.ensures.stages c.sent.ensures.exec c.sent.ensures.committed c.sent.ensures.graph s in
    fails_behind g.P.TakePolicy.policy g.D.Disk.tells (0 + calls_for terms past event) before roomed why c.end.new.self after terms past event c.room_for.ensures.called
    (each terms past event (sent_line terms.protocols past event c.args.tid c.args.defers c.args.dues.now true)
    (sent_pending terms past event c.args.tid c.args.taken c.args.defers c.args.dues.now old.tables.exec (after_taken c.args.tid c.args.taken old.tables.exec) i true g.P.TakePolicy.policy g.D.Disk.tells step old core
    before roomed c.args.entry k forces entry refl c.in-Ok.ensures (from_kept k.stored (c.room_for.ensures.keeps _ _ _ k.stored.behind))
    (up_is g.P.TakePolicy.policy g.D.Disk.tells old terms past k.holds c.requires.up) refl refl refl served)))
