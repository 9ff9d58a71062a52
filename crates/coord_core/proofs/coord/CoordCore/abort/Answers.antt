use Rattle.std.proofs.Common.{◌+◌, List, Some, map, refl, sym, ap, subst, ◌∙◌}
use Rattle.mdb_base.proofs.ForCallers.{map_err, map_ok}
use Rattle.presumptions.specs.declared.Decision.TheVariants as Decision_is
use Rattle.fed_rules.specs.declared.answers.Answer.TheVariants as Say
use Rattle.fed_rules.specs.declared.events.CoordStep.{CoordStep}
use Rattle.fed_rules.specs.CoordPast.{disk, records, trip}
use Rattle.fed_rules.specs.CoordRecords.{commits}
use Rattle.ticket_graph.specs.Graph.{AreHeld, Graph, StandsFor}
use Rattle.journal_disk.proofs.ForCallers.{none_at_most}
use Rattle.actor_store.proofs.ForCallers.{from_kept}
use Rattle.coord_core.specs.declared.coord.CoordCore.{CoordCore}
use Rattle.coord_tables.specs.declared.stages.Stage.{Stage}
use Rattle.coord_tables.specs.declared.tables.Tables.{Tables}
use Rattle.coord_tables.specs.Stages.{stage_tickets}
use Rattle.coord_tables.proofs.ForCallers.{abort_serving, aborted, table_forgets}
use Rattle.coord_core.specs.Stands.{calls_for}
use Rattle.coord_core.proofs.Fits.{abort_record_fits, abort_record_in_range}
use Rattle.coord_core.proofs.Aborts.{abort_pending}
use Rattle.coord_core.proofs.CalledLaws.{fails_behind, steps_behind}
use Rattle.coord_core.proofs.Roomed.{stands_roomed}
use Rattle.coord_core.proofs.Still.{serves, up_is}
use Rattle.coord_core.proofs.coord.CoordCore.abort.Goals as goal

pub room_for-requires-clause-fits : goal.room_for-requires-clause-fits
room_for-requires-clause-fits g c =
    let m = c.requires.may in
    let s = serves g.P.TakePolicy.policy g.D.Disk.tells c.args.self.now m.terms m.past m.stood.holds c.requires.up in
    abort_record_fits m.terms m.past c.args.tid c.in-Ok-abort_record.entry m.stood.holds.sound (c.in-Ok-abort_record.ensures m.terms m.past m.stood.holds.sound s m.holds)

pub returns-in_default-room_for-clause-failed : goal.returns-in_default-room_for-clause-failed
returns-in_default-room_for-clause-failed g c = λ terms past event k i. (
  stands_roomed g.P.TakePolicy.policy g.D.Disk.tells c.args.self.now c.room_for.new.store (g.D.Disk.seen c.args.disk.now) (g.D.Disk.seen c.room_for.new.disk) terms past c.room_for.ensures.keeps c.room_for.ensures.standing k,
  none_at_most (0 + calls_for terms past event) (g.D.Disk.seen c.args.disk.now) (g.D.Disk.seen c.room_for.new.disk) c.room_for.ensures.called,
)

pub end-requires-clause-kept : goal.end-requires-clause-kept
end-requires-clause-kept g c =
    let m = c.requires.may in
    (m.stood.stored.old, (disk m.past, trip m.past, c.room_for.ensures.keeps _ _ _ m.stood.stored.behind))

pub end-requires-clause-in_range : goal.end-requires-clause-in_range
end-requires-clause-in_range g c =
    let m = c.requires.may in
    let s = serves g.P.TakePolicy.policy g.D.Disk.tells c.args.self.now m.terms m.past m.stood.holds c.requires.up in
    abort_record_in_range m.terms m.past c.args.tid c.in-Ok-abort_record.entry m.stood.holds.sound m.holds (c.in-Ok-abort_record.ensures m.terms m.past m.stood.holds.sound s m.holds)

pub end-requires-clause-payload : goal.end-requires-clause-payload
end-requires-clause-payload g c =
    let m = c.requires.may in
    let s = serves g.P.TakePolicy.policy g.D.Disk.tells c.args.self.now m.terms m.past m.stood.holds c.requires.up in
    abort_record_fits m.terms m.past c.args.tid c.in-Ok-abort_record.entry m.stood.holds.sound (c.in-Ok-abort_record.ensures m.terms m.past m.stood.holds.sound s m.holds)

pub returns-clause-answered : goal.returns-clause-answered
returns-clause-answered g c =
    let old = c.args.self.now in
    let core : CoordCore g.row.P.Denot = record old { tables = c.prune.new.self; store = c.room_for.new.store } in
    let step : CoordStep = record { answer = Say.Decides Decision_is.Abort (Some c.args.cause) c.decide-forgets.result; sends = c.in-Ok.sends } in
    let before = g.D.Disk.seen c.args.disk.now in
    let roomed = g.D.Disk.seen c.room_for.new.disk in
    let after = g.D.Disk.seen c.end.new.disk in
    map_ok _ _ c.end.result c.end.ensures.answered (λ ended each terms past event k i.
    let s = serves g.P.TakePolicy.policy g.D.Disk.tells old terms past k.holds c.requires.up in
    let sound = k.holds.sound in
    let sends = c.in-Ok.ensures terms past sound s i.undecided in
    let entry = c.in-Ok-abort_record.ensures terms past sound s i.undecided in
    let is = table_forgets terms past event c.args.tid c.args.cause i sound old.tables c.in-Ok-abort_record.entry c.is_some-first.result c.decide-forgets.result s entry c.is_some-first.ensures c.decide-forgets.ensures.forgets in
    let served = abort_serving terms past event c.args.tid c.args.cause i sound old.tables c.prune.new.self c.is_some-first.result c.decide-forgets.result is.0 is.1
    (ap (λ (t : Tables). t.known) c.prune.ensures.tables ∙ c.decide-forgets.ensures.known) (ap (λ (t : Tables). t.exec) c.prune.ensures.tables ∙ c.decide-forgets.ensures.exec) c.decide-forgets.ensures.apart
    (ap (λ (t : Tables). t.stages.listed) c.prune.ensures.tables ∙ c.decide-forgets.ensures.stages) (ap (λ (t : Tables). t.committed) c.prune.ensures.tables ∙ c.decide-forgets.ensures.committed)
    (c.prune.ensures.stands (commits (records past)) (subst (λ (h : Graph). StandsFor (commits (records past)) h) (sym c.decide-forgets.ensures.graph) s.graph))
    (subst (λ (ss : List Stage). AreHeld (map stage_tickets ss) c.prune.new.self.graph) (sym (ap (λ (t : Tables). t.stages.listed) c.prune.ensures.tables)) c.prune.ensures.held) s in
    steps_behind g.P.TakePolicy.policy g.D.Disk.tells 0 before roomed ended c.end.new.self after terms past _ c.room_for.ensures.called
    (each terms past event (aborted terms past event c.args.tid c.args.cause i sound)
    (abort_pending terms past event c.args.tid c.args.cause i sound g.P.TakePolicy.policy g.D.Disk.tells step old core before roomed c.in-Ok-abort_record.entry c.decide-forgets.result k entry is.0 refl
    sends
    (from_kept k.stored (c.room_for.ensures.keeps _ _ _ k.stored.behind)) (up_is g.P.TakePolicy.policy g.D.Disk.tells old terms past k.holds c.requires.up) refl refl refl served)))

pub returns-clause-failed : goal.returns-clause-failed
returns-clause-failed g c =
    let old = c.args.self.now in
    let core : CoordCore g.row.P.Denot = record old { tables = c.prune.new.self; store = c.room_for.new.store } in
    let step : CoordStep = record { answer = Say.Decides Decision_is.Abort (Some c.args.cause) c.decide-forgets.result; sends = c.in-Ok.sends } in
    let before = g.D.Disk.seen c.args.disk.now in
    let roomed = g.D.Disk.seen c.room_for.new.disk in
    let after = g.D.Disk.seen c.end.new.disk in
    map_err _ _ c.end.result c.end.ensures.failed (λ why each terms past event k i.
    let s = serves g.P.TakePolicy.policy g.D.Disk.tells old terms past k.holds c.requires.up in
    let sound = k.holds.sound in
    let sends = c.in-Ok.ensures terms past sound s i.undecided in
    let entry = c.in-Ok-abort_record.ensures terms past sound s i.undecided in
    let is = table_forgets terms past event c.args.tid c.args.cause i sound old.tables c.in-Ok-abort_record.entry c.is_some-first.result c.decide-forgets.result s entry c.is_some-first.ensures c.decide-forgets.ensures.forgets in
    let served = abort_serving terms past event c.args.tid c.args.cause i sound old.tables c.prune.new.self c.is_some-first.result c.decide-forgets.result is.0 is.1
    (ap (λ (t : Tables). t.known) c.prune.ensures.tables ∙ c.decide-forgets.ensures.known) (ap (λ (t : Tables). t.exec) c.prune.ensures.tables ∙ c.decide-forgets.ensures.exec) c.decide-forgets.ensures.apart
    (ap (λ (t : Tables). t.stages.listed) c.prune.ensures.tables ∙ c.decide-forgets.ensures.stages) (ap (λ (t : Tables). t.committed) c.prune.ensures.tables ∙ c.decide-forgets.ensures.committed)
    (c.prune.ensures.stands (commits (records past)) (subst (λ (h : Graph). StandsFor (commits (records past)) h) (sym c.decide-forgets.ensures.graph) s.graph))
    (subst (λ (ss : List Stage). AreHeld (map stage_tickets ss) c.prune.new.self.graph) (sym (ap (λ (t : Tables). t.stages.listed) c.prune.ensures.tables)) c.prune.ensures.held) s in
    fails_behind g.P.TakePolicy.policy g.D.Disk.tells (0 + calls_for terms past event) before roomed why c.end.new.self after terms past event c.room_for.ensures.called
    (each terms past event (aborted terms past event c.args.tid c.args.cause i sound)
    (abort_pending terms past event c.args.tid c.args.cause i sound g.P.TakePolicy.policy g.D.Disk.tells step old core before roomed c.in-Ok-abort_record.entry c.decide-forgets.result k entry is.0 refl
    sends
    (from_kept k.stored (c.room_for.ensures.keeps _ _ _ k.stored.behind)) (up_is g.P.TakePolicy.policy g.D.Disk.tells old terms past k.holds c.requires.up) refl refl refl served)))
