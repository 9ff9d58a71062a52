use Rattle.std.proofs.Common.{◌≡◌, ◌+◌, true, cond, map, IsSome, Option, List, Some, None, ◌∷◌, refl, sym, ap, subst, ◌∙◌}
use Rattle.mdb_base.specs.declared.names.SiteTicket.{SiteTicket}
use Rattle.mdb_base.specs.declared.names.Tid.{Tid}
use Rattle.presumptions.specs.declared.Decision.TheVariants as Decision_is
use Rattle.fed_rules.specs.declared.answers.Answer.TheVariants as Say
use Rattle.fed_rules.specs.declared.events.CoordStep.{CoordStep}
use Rattle.fed_rules.specs.declared.records.CoordRecord.TheVariants as Rec
use Rattle.fed_rules.specs.CoordRecords.{commits}
use Rattle.fed_rules.specs.CoordPast.{disk, records, trip}
use Rattle.journal_disk.specs.Frames.{IsPayload}
use Rattle.journal_disk.proofs.ForCallers.{none_at_most}
use Rattle.coord_journal.specs.Spelling.{InRange, spelling}
use Rattle.ticket_graph.specs.Graph.{AreHeld, Graph, StandsFor}
use Rattle.frame_journal.specs.Journal.{HasRoom, written_size}
use Rattle.protocol_table.specs.declared.known.Known.{Known}
use Rattle.protocol_table.specs.Attempts.{IsUndecided}
use Rattle.coord_core.specs.declared.coord.CoordCore.{CoordCore}
use Rattle.coord_tables.specs.declared.stages.Stage.{Stage}
use Rattle.coord_tables.specs.declared.tables.Tables.{Tables}
use Rattle.coord_tables.specs.Stages.{stage_tickets}
use Rattle.coord_core.specs.Found.{was_found}
use Rattle.coord_core.specs.Stands.{calls_for}
use Rattle.coord_core.specs.Store.{Keeps, KeepsBehind, Store}
use Rattle.coord_tables.specs.Trees.{Tree, committed_in, entry_of}
use Rattle.mdb_base.specs.Names.{same_tx}
use Rattle.mdb_base.proofs.ForCallers.{map_err, map_ok}
use Rattle.coord_tables.specs.Voting.{vote_event}
use Rattle.coord_tables.proofs.ForCallers.{HasDecided, committed, cycle_aborting, lacks_decision, last_open, one_each}
use Rattle.coord_core.proofs.CalledLaws.{fails_behind, steps_behind}
use Rattle.coord_core.proofs.Fits.{commit_fits, commit_in_range}
use Rattle.coord_core.proofs.Committing.{commit_pending, core_same, stands_as}
use Rattle.coord_core.proofs.Still.{serves, up_is}
use Rattle.coord_core.proofs.coord.CoordCore.last_vote.Goals as goal

pub decisions-requires : goal.decisions-requires
decisions-requires g c =
    let m = c.requires.may in
    record {
      terms = m.terms;
      past = m.past;
      sound = m.stood.holds.sound;
      serving = serves g.P.TakePolicy.policy g.D.Disk.tells c.args.self.now m.terms m.past m.stood.holds c.requires.up;
      holds = last_open m.terms m.past c.args.site c.args.tid c.args.ticket c.args.tickets.now m.stood.holds.sound m.holds;
    }

pub room_for_commit-requires-clause-fits : goal.room_for_commit-requires-clause-fits
room_for_commit-requires-clause-fits g c =
    let m = c.requires.may in
    subst (λ (ks : List SiteTicket). IsPayload (spelling (Rec.Commit c.args.tid ks))) (sym c.in-Ok-same_tickets.ensures)
    (commit_fits m.terms m.past c.args.site c.args.tid c.args.ticket c.args.tickets.now m.stood.holds.sound m.holds)

pub returns-in_default-room_for_commit-clause-failed : goal.returns-in_default-room_for_commit-clause-failed
returns-in_default-room_for_commit-clause-failed g c = λ terms past k l.
    let most = 0 + calls_for terms past (vote_event c.args.site c.args.tid (Some c.args.ticket)) in
    (c.room_for_commit.ensures.stands terms past k, none_at_most most (g.D.Disk.seen c.args.disk.now) (g.D.Disk.seen c.room_for_commit.new.disk) c.room_for_commit.ensures.called)

pub try_tickets-requires-clause-up : goal.try_tickets-requires-clause-up
try_tickets-requires-clause-up g c = c.room_for_commit.ensures.standing ∙ c.requires.up

pub try_tickets-requires-clause-may : goal.try_tickets-requires-clause-may
try_tickets-requires-clause-may g c =
    let m = c.requires.may in
    record {
      terms = m.terms;
      past = m.past;
      stood = c.room_for_commit.ensures.stands m.terms m.past m.stood;
      holds = one_each m.terms m.past c.args.site c.args.tid c.args.ticket c.args.tickets.now m.stood.holds.sound m.holds;
    }

pub returns-in-Err-clause-failed : goal.returns-in-Err-clause-failed
returns-in-Err-clause-failed g c = λ terms past k l.
    let most = 0 + calls_for terms past (vote_event c.args.site c.args.tid (Some c.args.ticket)) in (
      stands_as g.P.TakePolicy.policy g.D.Disk.tells c.room_for_commit.new.self c.try_tickets.new.self (g.D.Disk.seen c.room_for_commit.new.disk) terms past c.in-Err.ensures.memory (c.room_for_commit.ensures.stands terms past k),
      none_at_most most (g.D.Disk.seen c.args.disk.now) (g.D.Disk.seen c.room_for_commit.new.disk) c.room_for_commit.ensures.called,
    )

pub abort-requires-clause-up : goal.abort-requires-clause-up
abort-requires-clause-up g c =
    ap (λ (core : CoordCore g.row.P.Denot). core.store.standing) c.try_tickets.ensures.others ∙ c.room_for_commit.ensures.standing ∙ c.requires.up

pub abort-requires-clause-may : goal.abort-requires-clause-may
abort-requires-clause-may g c =
    let m = c.requires.may in
    let same = core_same c.room_for_commit.new.self c.try_tickets.new.self c.try_tickets.ensures.others (rw c.in-Ok-Cycle.field-0-is at c.in-Ok-Cycle.ensures.refused) in
    record {
      terms = m.terms;
      past = m.past;
      stood = stands_as g.P.TakePolicy.policy g.D.Disk.tells c.room_for_commit.new.self c.try_tickets.new.self (g.D.Disk.seen c.room_for_commit.new.disk) m.terms m.past same (c.room_for_commit.ensures.stands m.terms m.past m.stood);
      holds = last_open m.terms m.past c.args.site c.args.tid c.args.ticket c.args.tickets.now m.stood.holds.sound m.holds;
    }

pub returns-in-Ok-Cycle-clause-answered : goal.returns-in-Ok-Cycle-clause-answered
returns-in-Ok-Cycle-clause-answered g c =
    let same = core_same c.room_for_commit.new.self c.try_tickets.new.self c.try_tickets.ensures.others (rw c.in-Ok-Cycle.field-0-is at c.in-Ok-Cycle.ensures.refused) in
    map_ok _ _ c.abort.result c.abort.ensures.answered (λ step each terms past k l.
    let k2 = c.room_for_commit.ensures.stands terms past k in
    let cycle = rw c.in-Ok-Cycle.field-0-is at (c.in-Ok-Cycle.ensures.verdict terms past k2 (one_each terms past c.args.site c.args.tid c.args.ticket c.args.tickets.now k.holds.sound l)) in
    steps_behind g.P.TakePolicy.policy g.D.Disk.tells 0 (g.D.Disk.seen c.args.disk.now) (g.D.Disk.seen c.room_for_commit.new.disk) step c.abort.new.self (g.D.Disk.seen c.abort.new.disk) terms past _ c.room_for_commit.ensures.called
    (each terms past (vote_event c.args.site c.args.tid (Some c.args.ticket))
    (stands_as g.P.TakePolicy.policy g.D.Disk.tells c.room_for_commit.new.self c.try_tickets.new.self (g.D.Disk.seen c.room_for_commit.new.disk) terms past same k2)
    (cycle_aborting terms past c.args.site c.args.tid c.args.ticket c.args.tickets.now k.holds.sound l c.in-Ok-Cycle.edges cycle)))

pub returns-in-Ok-Cycle-clause-failed : goal.returns-in-Ok-Cycle-clause-failed
returns-in-Ok-Cycle-clause-failed g c =
    let same = core_same c.room_for_commit.new.self c.try_tickets.new.self c.try_tickets.ensures.others (rw c.in-Ok-Cycle.field-0-is at c.in-Ok-Cycle.ensures.refused) in
    map_err _ _ c.abort.result c.abort.ensures.failed (λ why each terms past k l.
    let k2 = c.room_for_commit.ensures.stands terms past k in
    let cycle = rw c.in-Ok-Cycle.field-0-is at (c.in-Ok-Cycle.ensures.verdict terms past k2 (one_each terms past c.args.site c.args.tid c.args.ticket c.args.tickets.now k.holds.sound l)) in
    fails_behind g.P.TakePolicy.policy g.D.Disk.tells (0 + calls_for terms past (vote_event c.args.site c.args.tid (Some c.args.ticket))) (g.D.Disk.seen c.args.disk.now) (g.D.Disk.seen c.room_for_commit.new.disk) why c.abort.new.self (g.D.Disk.seen c.abort.new.disk)
    terms past (vote_event c.args.site c.args.tid (Some c.args.ticket)) c.room_for_commit.ensures.called
    (each terms past (vote_event c.args.site c.args.tid (Some c.args.ticket))
    (stands_as g.P.TakePolicy.policy g.D.Disk.tells c.room_for_commit.new.self c.try_tickets.new.self (g.D.Disk.seen c.room_for_commit.new.disk) terms past same k2)
    (cycle_aborting terms past c.args.site c.args.tid c.args.ticket c.args.tickets.now k.holds.sound l c.in-Ok-Cycle.edges cycle)))

pub decide-forgets-requires : goal.decide-forgets-requires
decide-forgets-requires g c =
    let m = c.requires.may in
    let k = c.room_for_commit.ensures.stands m.terms m.past m.stood in
    let s = serves g.P.TakePolicy.policy g.D.Disk.tells c.room_for_commit.new.self m.terms m.past k.holds (c.room_for_commit.ensures.standing ∙ c.requires.up) in
    subst (λ (ks : List Known). IsUndecided c.args.tid ks) (sym (ap (λ (core : CoordCore g.row.P.Denot). core.tables.known) c.try_tickets.ensures.others))
    (lacks_decision c.room_for_commit.new.self.tables m.terms m.past c.args.tid s (last_open m.terms m.past c.args.site c.args.tid c.args.ticket c.args.tickets.now m.stood.holds.sound m.holds))

pub add-requires : goal.add-requires
add-requires g c =
    subst (λ (l : Tree (Option Tid)). IsSome (entry_of l.listed c.args.tid.tx)) (sym (c.decide-forgets.ensures.committed ∙ ap (λ (core : CoordCore g.row.P.Denot). core.tables.committed) c.try_tickets.ensures.others)) c.in-Ok-room_for_commit.ensures.spare

pub end-requires-clause-kept : goal.end-requires-clause-kept
end-requires-clause-kept g c =
    let m = c.requires.may in
    let k = (c.room_for_commit.ensures.stands m.terms m.past m.stood).stored in
    let P : Store → Type 0 = λ s. KeepsBehind g.D.Disk.tells (g.D.Disk.seen c.room_for_commit.new.disk) s k.old (disk m.past) (trip m.past) in
    (k.old, (disk m.past, trip m.past, subst P (sym (ap (λ (core : CoordCore g.row.P.Denot). core.store) c.try_tickets.ensures.others)) k.behind))

pub end-requires-clause-up : goal.end-requires-clause-up
end-requires-clause-up g c =
    ap (λ (core : CoordCore g.row.P.Denot). core.store.standing) c.try_tickets.ensures.others ∙ c.room_for_commit.ensures.standing ∙ c.requires.up

pub end-requires-clause-reserved : goal.end-requires-clause-reserved
end-requires-clause-reserved g c =
    subst (λ (s : Store). HasRoom (written_size spelling (Rec.Commit c.args.tid c.in-Ok-same_tickets.recorded)) s.journal) (sym (ap (λ (core : CoordCore g.row.P.Denot). core.store) c.try_tickets.ensures.others))
    c.in-Ok-room_for_commit.ensures.room

pub end-requires-clause-in_range : goal.end-requires-clause-in_range
end-requires-clause-in_range g c =
    let m = c.requires.may in
    subst (λ (ks : List SiteTicket). InRange (Rec.Commit c.args.tid ks)) (sym c.in-Ok-same_tickets.ensures)
    (commit_in_range m.terms m.past c.args.site c.args.tid c.args.ticket c.args.tickets.now m.stood.holds.sound m.holds)

pub end-requires-clause-payload : goal.end-requires-clause-payload
end-requires-clause-payload g c =
    let m = c.requires.may in
    subst (λ (ks : List SiteTicket). IsPayload (spelling (Rec.Commit c.args.tid ks))) (sym c.in-Ok-same_tickets.ensures)
    (commit_fits m.terms m.past c.args.site c.args.tid c.args.ticket c.args.tickets.now m.stood.holds.sound m.holds)

pub returns-in-Ok-Added-clause-answered : goal.returns-in-Ok-Added-clause-answered
returns-in-Ok-Added-clause-answered g c =
    let roomed : CoordCore g.row.P.Denot = c.room_for_commit.new.self in
    let tried : CoordCore g.row.P.Denot = c.try_tickets.new.self in
    let others : tried ≡ record roomed { tables = record roomed.tables { graph = tried.tables.graph } } = c.try_tickets.ensures.others in
    let core : CoordCore g.row.P.Denot = record tried { tables = c.prune.new.self } in
    let step : CoordStep = record { answer = Say.Decides Decision_is.Commit None c.decide-forgets.result; sends = c.in-Ok.sends } in
    let decided : HasDecided c.args.tid Decision_is.Commit true c.decide-forgets.result tried.tables c.decide-forgets.new.self = record {
      forgets = c.decide-forgets.ensures.forgets;
      known = c.decide-forgets.ensures.known;
      exec = c.decide-forgets.ensures.exec;
      apart = c.decide-forgets.ensures.apart;
      stages = c.decide-forgets.ensures.stages;
      committed = c.decide-forgets.ensures.committed;
      graph = c.decide-forgets.ensures.graph;
    } in
    let d = subst (λ (t : Tables). HasDecided c.args.tid Decision_is.Commit true c.decide-forgets.result t c.decide-forgets.new.self) (ap (λ (one : CoordCore g.row.P.Denot). one.tables) others) decided in
    let kept : core.tables ≡ record c.decide-forgets.new.self { committed = c.add.new.self; graph = core.tables.graph } = c.prune.ensures.tables in
    map_ok _ _ c.end.result c.end.ensures.answered (λ ended each terms past k l.
    let sound = k.holds.sound in
    let was = serves g.P.TakePolicy.policy g.D.Disk.tells c.args.self.now terms past k.holds c.requires.up in
    let u = last_open terms past c.args.site c.args.tid c.args.ticket c.args.tickets.now sound l in
    let sends = c.in-Ok.ensures terms past sound was u in
    let k2 = c.room_for_commit.ensures.stands terms past k in
    let up = c.room_for_commit.ensures.standing ∙ c.requires.up in
    let s = serves g.P.TakePolicy.policy g.D.Disk.tells roomed terms past k2.holds up in
    let fresh = one_each terms past c.args.site c.args.tid c.args.ticket c.args.tickets.now sound l in
    let none = rw c.in-Ok-Added.field-0-is at (c.in-Ok-Added.ensures.verdict terms past k2 fresh) in
    let graph = rw c.in-Ok-Added.field-0-is at (c.in-Ok-Added.ensures.stands terms past k2 fresh) in
    steps_behind g.P.TakePolicy.policy g.D.Disk.tells 0 (g.D.Disk.seen c.args.disk.now) (g.D.Disk.seen c.room_for_commit.new.disk) ended c.end.new.self (g.D.Disk.seen c.end.new.disk) terms past _ c.room_for_commit.ensures.called
    (each terms past (vote_event c.args.site c.args.tid (Some c.args.ticket)) (committed terms past c.args.site c.args.tid c.args.ticket c.args.tickets.now sound l)
    (commit_pending terms past c.args.site c.args.tid c.args.ticket c.args.tickets.now sound l g.P.TakePolicy.policy g.D.Disk.tells step roomed core (g.D.Disk.seen c.room_for_commit.new.disk) (g.D.Disk.seen c.room_for_commit.new.disk)
    c.decide-forgets.result c.in-Ok-same_tickets.recorded c.in-Ok-same_tickets.ensures k2 s (up_is g.P.TakePolicy.policy g.D.Disk.tells roomed terms past k2.holds up) none
    d.forgets (ap (λ (t : Tables). t.known) kept ∙ d.known) (ap (λ (t : Tables). t.exec) kept ∙ d.exec) d.apart (ap (λ (t : Tables). t.stages.listed) kept ∙ d.stages)
    (λ tx. ap (λ (t : Tables). committed_in t.committed.listed tx) kept ∙ c.add.ensures tx ∙ ap (λ (h : Tree (Option Tid)). cond (same_tx c.args.tid.tx tx) (Some c.args.tid) (committed_in h.listed tx)) d.committed)
    (c.prune.ensures.stands (record { tid = c.args.tid; tickets = c.args.tickets.now } ∷ commits (records past))
    (subst (λ (h : Graph). StandsFor (record { tid = c.args.tid; tickets = c.args.tickets.now } ∷ commits (records past)) h) (sym c.decide-forgets.ensures.graph) graph))
    (subst (λ (ss : List Stage). AreHeld (map stage_tickets ss) core.tables.graph) (sym (ap (λ (t : Tables). t.stages.listed) kept)) c.prune.ensures.held)
    refl sends
    (subst (λ (st : Store). Keeps (was_found past) g.D.Disk.tells (g.D.Disk.seen c.room_for_commit.new.disk) st (disk past) (trip past)) (sym (ap (λ (one : CoordCore g.row.P.Denot). one.store) others)) k2.stored)
    (ap (λ (one : CoordCore g.row.P.Denot). one.protocols) others) (ap (λ (one : CoordCore g.row.P.Denot). one.policy) others) (ap (λ (one : CoordCore g.row.P.Denot). one.begun) others))))

pub returns-in-Ok-Added-clause-failed : goal.returns-in-Ok-Added-clause-failed
returns-in-Ok-Added-clause-failed g c =
    let roomed : CoordCore g.row.P.Denot = c.room_for_commit.new.self in
    let tried : CoordCore g.row.P.Denot = c.try_tickets.new.self in
    let others : tried ≡ record roomed { tables = record roomed.tables { graph = tried.tables.graph } } = c.try_tickets.ensures.others in
    let core : CoordCore g.row.P.Denot = record tried { tables = c.prune.new.self } in
    let step : CoordStep = record { answer = Say.Decides Decision_is.Commit None c.decide-forgets.result; sends = c.in-Ok.sends } in
    let decided : HasDecided c.args.tid Decision_is.Commit true c.decide-forgets.result tried.tables c.decide-forgets.new.self = record {
      forgets = c.decide-forgets.ensures.forgets;
      known = c.decide-forgets.ensures.known;
      exec = c.decide-forgets.ensures.exec;
      apart = c.decide-forgets.ensures.apart;
      stages = c.decide-forgets.ensures.stages;
      committed = c.decide-forgets.ensures.committed;
      graph = c.decide-forgets.ensures.graph;
    } in
    let d = subst (λ (t : Tables). HasDecided c.args.tid Decision_is.Commit true c.decide-forgets.result t c.decide-forgets.new.self) (ap (λ (one : CoordCore g.row.P.Denot). one.tables) others) decided in
    let kept : core.tables ≡ record c.decide-forgets.new.self { committed = c.add.new.self; graph = core.tables.graph } = c.prune.ensures.tables in
    map_err _ _ c.end.result c.end.ensures.failed (λ why each terms past k l.
    let sound = k.holds.sound in
    let was = serves g.P.TakePolicy.policy g.D.Disk.tells c.args.self.now terms past k.holds c.requires.up in
    let u = last_open terms past c.args.site c.args.tid c.args.ticket c.args.tickets.now sound l in
    let sends = c.in-Ok.ensures terms past sound was u in
    let k2 = c.room_for_commit.ensures.stands terms past k in
    let up = c.room_for_commit.ensures.standing ∙ c.requires.up in
    let s = serves g.P.TakePolicy.policy g.D.Disk.tells roomed terms past k2.holds up in
    let fresh = one_each terms past c.args.site c.args.tid c.args.ticket c.args.tickets.now sound l in
    let none = rw c.in-Ok-Added.field-0-is at (c.in-Ok-Added.ensures.verdict terms past k2 fresh) in
    let graph = rw c.in-Ok-Added.field-0-is at (c.in-Ok-Added.ensures.stands terms past k2 fresh) in
    fails_behind g.P.TakePolicy.policy g.D.Disk.tells (0 + calls_for terms past (vote_event c.args.site c.args.tid (Some c.args.ticket))) (g.D.Disk.seen c.args.disk.now) (g.D.Disk.seen c.room_for_commit.new.disk) why c.end.new.self (g.D.Disk.seen c.end.new.disk)
    terms past (vote_event c.args.site c.args.tid (Some c.args.ticket)) c.room_for_commit.ensures.called
    (each terms past (vote_event c.args.site c.args.tid (Some c.args.ticket)) (committed terms past c.args.site c.args.tid c.args.ticket c.args.tickets.now sound l)
    (commit_pending terms past c.args.site c.args.tid c.args.ticket c.args.tickets.now sound l g.P.TakePolicy.policy g.D.Disk.tells step roomed core (g.D.Disk.seen c.room_for_commit.new.disk) (g.D.Disk.seen c.room_for_commit.new.disk)
    c.decide-forgets.result c.in-Ok-same_tickets.recorded c.in-Ok-same_tickets.ensures k2 s (up_is g.P.TakePolicy.policy g.D.Disk.tells roomed terms past k2.holds up) none
    d.forgets (ap (λ (t : Tables). t.known) kept ∙ d.known) (ap (λ (t : Tables). t.exec) kept ∙ d.exec) d.apart (ap (λ (t : Tables). t.stages.listed) kept ∙ d.stages)
    (λ tx. ap (λ (t : Tables). committed_in t.committed.listed tx) kept ∙ c.add.ensures tx ∙ ap (λ (h : Tree (Option Tid)). cond (same_tx c.args.tid.tx tx) (Some c.args.tid) (committed_in h.listed tx)) d.committed)
    (c.prune.ensures.stands (record { tid = c.args.tid; tickets = c.args.tickets.now } ∷ commits (records past))
    (subst (λ (h : Graph). StandsFor (record { tid = c.args.tid; tickets = c.args.tickets.now } ∷ commits (records past)) h) (sym c.decide-forgets.ensures.graph) graph))
    (subst (λ (ss : List Stage). AreHeld (map stage_tickets ss) core.tables.graph) (sym (ap (λ (t : Tables). t.stages.listed) kept)) c.prune.ensures.held)
    refl sends
    (subst (λ (st : Store). Keeps (was_found past) g.D.Disk.tells (g.D.Disk.seen c.room_for_commit.new.disk) st (disk past) (trip past)) (sym (ap (λ (one : CoordCore g.row.P.Denot). one.store) others)) k2.stored)
    (ap (λ (one : CoordCore g.row.P.Denot). one.protocols) others) (ap (λ (one : CoordCore g.row.P.Denot). one.policy) others) (ap (λ (one : CoordCore g.row.P.Denot). one.begun) others))))
