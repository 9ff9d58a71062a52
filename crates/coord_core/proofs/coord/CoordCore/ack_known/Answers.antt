use Rattle.std.proofs.Common.{◌+◌, refl, sym, ap, ◌∙◌}
use Rattle.mdb_base.proofs.ForCallers.{map_err, map_ok}
use Rattle.fed_rules.specs.declared.events.CoordEvent.TheVariants as Ev
use Rattle.fed_rules.specs.declared.messages.FromSite.TheVariants as From
use Rattle.fed_rules.specs.CoordPast.{disk, trip}
use Rattle.protocol_table.specs.declared.ends.AckEnd.{AckEnd}
use Rattle.protocol_table.specs.declared.ends.AckEnd.TheVariants as Ack
use Rattle.protocol_table.specs.Ends.{after_ack}
use Rattle.journal_disk.proofs.ForCallers.{none_at_most}
use Rattle.actor_store.proofs.ForCallers.{from_kept}
use Rattle.coord_core.specs.declared.coord.CoordCore.{CoordCore}
use Rattle.coord_tables.proofs.ForCallers.{ack_line}
use Rattle.coord_core.specs.Stands.{calls_for}
use Rattle.coord_core.proofs.Fits.{decided_in_range, end_fits}
use Rattle.coord_core.proofs.Acking.{ack_pending}
use Rattle.coord_core.proofs.CalledLaws.{fails_behind, steps_behind}
use Rattle.coord_core.proofs.Endings.{pending_quiet}
use Rattle.coord_core.proofs.Roomed.{stands_roomed}
use Rattle.coord_core.proofs.Still.{serves, up_is}
use Rattle.coord_core.proofs.coord.CoordCore.ack_known.Goals as goal

pub room_for-requires-clause-fits : goal.room_for-requires-clause-fits
room_for-requires-clause-fits g c = end_fits c.args.tid

pub returns-in_default-clause-failed : goal.returns-in_default-clause-failed
returns-in_default-clause-failed g c = λ terms past k st. (
  stands_roomed g.P.TakePolicy.policy g.D.Disk.tells c.args.self.now c.room_for.new.store (g.D.Disk.seen c.args.disk.now) (g.D.Disk.seen c.room_for.new.disk) terms past c.room_for.ensures.keeps c.room_for.ensures.standing k,
  none_at_most (0 + calls_for terms past (Ev.Take c.args.site (From.Ack c.args.tid))) (g.D.Disk.seen c.args.disk.now) (g.D.Disk.seen c.room_for.new.disk) c.room_for.ensures.called,
)

pub returns-in-Ignored-clause-answered : goal.returns-in-Ignored-clause-answered
returns-in-Ignored-clause-answered g c = λ terms past k st.
    let old = c.args.self.now in
    let core : CoordCore g.row.P.Denot = record old { tables = c.ack.new.self; store = c.room_for.new.store } in
    let s = serves g.P.TakePolicy.policy g.D.Disk.tells old terms past k.holds c.requires.up in
    let tables = c.ack.ensures.tables ∙ ap (λ (end : AckEnd). record old.tables { known = after_ack end c.args.tid c.args.site old.tables.known }) c.in-Ignored.is in
    steps_behind g.P.TakePolicy.policy g.D.Disk.tells 0 (g.D.Disk.seen c.args.disk.now) (g.D.Disk.seen c.room_for.new.disk) c.silent.result core (g.D.Disk.seen c.room_for.new.disk) terms past _ c.room_for.ensures.called
    (pending_quiet g.P.TakePolicy.policy g.D.Disk.tells c.silent.result core (g.D.Disk.seen c.room_for.new.disk) terms past (Ev.Take c.args.site (From.Ack c.args.tid)) (ack_line c.args.site c.args.tid Ack.Ignored)
    (ack_pending g.P.TakePolicy.policy g.D.Disk.tells c.silent.result old core (g.D.Disk.seen c.args.disk.now) (g.D.Disk.seen c.room_for.new.disk) terms past c.args.site c.args.tid c.args.decision Ack.Ignored
    k s (up_is g.P.TakePolicy.policy g.D.Disk.tells old terms past k.holds c.requires.up) st (sym c.in-Ignored.is ∙ c.ack.ensures.end) tables c.silent.ensures.answer c.silent.ensures.sends
    (from_kept k.stored (c.room_for.ensures.keeps _ _ _ k.stored.behind)) refl refl refl)
    (c.room_for.ensures.standing ∙ c.requires.up))

pub returns-in-Acked-clause-answered : goal.returns-in-Acked-clause-answered
returns-in-Acked-clause-answered g c = λ terms past k st.
    let old = c.args.self.now in
    let core : CoordCore g.row.P.Denot = record old { tables = c.ack.new.self; store = c.room_for.new.store } in
    let s = serves g.P.TakePolicy.policy g.D.Disk.tells old terms past k.holds c.requires.up in
    let tables = c.ack.ensures.tables ∙ ap (λ (end : AckEnd). record old.tables { known = after_ack end c.args.tid c.args.site old.tables.known }) c.in-Acked.is in
    steps_behind g.P.TakePolicy.policy g.D.Disk.tells 0 (g.D.Disk.seen c.args.disk.now) (g.D.Disk.seen c.room_for.new.disk) c.silent-in-Acked.result core (g.D.Disk.seen c.room_for.new.disk) terms past _ c.room_for.ensures.called
    (pending_quiet g.P.TakePolicy.policy g.D.Disk.tells c.silent-in-Acked.result core (g.D.Disk.seen c.room_for.new.disk) terms past (Ev.Take c.args.site (From.Ack c.args.tid)) (ack_line c.args.site c.args.tid Ack.Acked)
    (ack_pending g.P.TakePolicy.policy g.D.Disk.tells c.silent-in-Acked.result old core (g.D.Disk.seen c.args.disk.now) (g.D.Disk.seen c.room_for.new.disk) terms past c.args.site c.args.tid c.args.decision Ack.Acked
    k s (up_is g.P.TakePolicy.policy g.D.Disk.tells old terms past k.holds c.requires.up) st (sym c.in-Acked.is ∙ c.ack.ensures.end) tables c.silent-in-Acked.ensures.answer c.silent-in-Acked.ensures.sends
    (from_kept k.stored (c.room_for.ensures.keeps _ _ _ k.stored.behind)) refl refl refl)
    (c.room_for.ensures.standing ∙ c.requires.up))

pub note-requires-clause-kept : goal.note-requires-clause-kept
note-requires-clause-kept g c =
    let m = c.requires.may in
    (m.stood.stored.old, (disk m.past, trip m.past, c.room_for.ensures.keeps _ _ _ m.stood.stored.behind))

pub note-requires-clause-in_range : goal.note-requires-clause-in_range
note-requires-clause-in_range g c =
    let m = c.requires.may in
    decided_in_range m.terms m.past c.args.tid c.args.decision m.stood.holds.sound m.holds

pub note-requires-clause-payload : goal.note-requires-clause-payload
note-requires-clause-payload g c = end_fits c.args.tid

pub returns-in-Forgets-clause-answered : goal.returns-in-Forgets-clause-answered
returns-in-Forgets-clause-answered g c = map_ok _ _ c.note.result c.note.ensures.answered (λ ended each terms past k st.
    let old = c.args.self.now in
    let core : CoordCore g.row.P.Denot = record old { tables = c.ack.new.self; store = c.room_for.new.store } in
    let s = serves g.P.TakePolicy.policy g.D.Disk.tells old terms past k.holds c.requires.up in
    let tables = c.ack.ensures.tables ∙ ap (λ (end : AckEnd). record old.tables { known = after_ack end c.args.tid c.args.site old.tables.known }) c.in-Forgets.is in
    steps_behind g.P.TakePolicy.policy g.D.Disk.tells 0 (g.D.Disk.seen c.args.disk.now) (g.D.Disk.seen c.room_for.new.disk) ended c.note.new.self (g.D.Disk.seen c.note.new.disk) terms past _ c.room_for.ensures.called
    (each terms past (Ev.Take c.args.site (From.Ack c.args.tid)) (ack_line c.args.site c.args.tid Ack.Forgets)
    (ack_pending g.P.TakePolicy.policy g.D.Disk.tells c.silent-step.result old core (g.D.Disk.seen c.args.disk.now) (g.D.Disk.seen c.room_for.new.disk) terms past c.args.site c.args.tid c.args.decision Ack.Forgets
    k s (up_is g.P.TakePolicy.policy g.D.Disk.tells old terms past k.holds c.requires.up) st (sym c.in-Forgets.is ∙ c.ack.ensures.end) tables c.silent-step.ensures.answer c.silent-step.ensures.sends
    (from_kept k.stored (c.room_for.ensures.keeps _ _ _ k.stored.behind)) refl refl refl)))

pub returns-in-Forgets-clause-failed : goal.returns-in-Forgets-clause-failed
returns-in-Forgets-clause-failed g c = map_err _ _ c.note.result c.note.ensures.failed (λ why each terms past k st.
    let old = c.args.self.now in
    let core : CoordCore g.row.P.Denot = record old { tables = c.ack.new.self; store = c.room_for.new.store } in
    let s = serves g.P.TakePolicy.policy g.D.Disk.tells old terms past k.holds c.requires.up in
    let tables = c.ack.ensures.tables ∙ ap (λ (end : AckEnd). record old.tables { known = after_ack end c.args.tid c.args.site old.tables.known }) c.in-Forgets.is in
    fails_behind g.P.TakePolicy.policy g.D.Disk.tells (0 + calls_for terms past (Ev.Take c.args.site (From.Ack c.args.tid))) (g.D.Disk.seen c.args.disk.now) (g.D.Disk.seen c.room_for.new.disk) why c.note.new.self (g.D.Disk.seen c.note.new.disk)
    terms past (Ev.Take c.args.site (From.Ack c.args.tid)) c.room_for.ensures.called
    (each terms past (Ev.Take c.args.site (From.Ack c.args.tid)) (ack_line c.args.site c.args.tid Ack.Forgets)
    (ack_pending g.P.TakePolicy.policy g.D.Disk.tells c.silent-step.result old core (g.D.Disk.seen c.args.disk.now) (g.D.Disk.seen c.room_for.new.disk) terms past c.args.site c.args.tid c.args.decision Ack.Forgets
    k s (up_is g.P.TakePolicy.policy g.D.Disk.tells old terms past k.holds c.requires.up) st (sym c.in-Forgets.is ∙ c.ack.ensures.end) tables c.silent-step.ensures.answer c.silent-step.ensures.sends
    (from_kept k.stored (c.room_for.ensures.keeps _ _ _ k.stored.behind)) refl refl refl)))
