use Rattle.std.proofs.Common.{false, is_some, Some, None, refl, sym, ap, ◌∙◌, arith}
use Rattle.mdb_base.specs.declared.names.Tid.{Tid}
use Rattle.mdb_base.proofs.ForCallers.{none_left, nothing_is}
use Rattle.fed_rules.specs.declared.commands.Command.TheVariants as Cmd
use Rattle.local_dbms.proofs.ForCallers.{recalled}
use Rattle.site_core.specs.Made.{about}
use Rattle.fed_hosts.specs.declared.site_actor.LineParts.{LineParts}
use Rattle.host_laws.specs.Hearing.{Bears}
use Rattle.host_laws.specs.Turns.{past_of}
use Rattle.host_laws.proofs.ForCallers.{about_in_range}
use Rattle.fed_hosts.proofs.Lines.{short_past, view_beside}
use Rattle.fed_hosts.proofs.Faults.{clean}
use Rattle.fed_hosts.proofs.Served.{kept_beside}
use Rattle.fed_hosts.proofs.Turning.{give_line, last_fits, left_aside, line_ready, put_back, unread_late, unread_none, unread_own}
use Rattle.fed_hosts.proofs.site_actor.SiteActor.hear.Goals as goal
use Rattle.fed_hosts.proofs.site_actor.SiteActor.hear.Goals.{then-envelope-ge-MOST_STAMP-via-then-envelope-ge-MOST_STAMP, then-envelope-ge-MOST_STAMP-via-else-envelope-ge-MOST_STAMP+then-is_own}

pub returns-in_default-clause-keeps : goal.returns-in_default-clause-keeps
returns-in_default-clause-keeps g c =
    let h = c.requires.keeps in
    left_aside g.E.LocalEngine.stands g.D.Disk.tells g.D.Disk.seen g.N.Plan.sites g.N.Wires.rings c.args.packet c.args.self.now h
    (unread_none h.keeps.plan.programs c.args.packet c.decode_to.result c.decode_to.ensures.only (none_left c.decode_to.result c.in_default.not-Some))

pub returns-then-envelope-ge-MOST_STAMP-clause-keeps : goal.returns-then-envelope-ge-MOST_STAMP-clause-keeps
returns-then-envelope-ge-MOST_STAMP-clause-keeps g c =
    let h = c.requires.keeps in
    let k = h.keeps in
    let old = c.args.self.now in
    let stands = g.E.LocalEngine.stands in
    let envelope = c.in-Some.envelope in
    left_aside stands g.D.Disk.tells g.D.Disk.seen g.N.Plan.sites g.N.Wires.rings c.args.packet old h
    (elim c.then-envelope-ge-MOST_STAMP.branch [
      | then-envelope-ge-MOST_STAMP-via-then-envelope-ge-MOST_STAMP w ↦
          unread_late k.plan.programs c.args.packet c.decode_to.result envelope c.decode_to.ensures.only c.in-Some.is (omega (arith, w.if-envelope-ge-MOST_STAMP.true))
      | then-envelope-ge-MOST_STAMP-via-else-envelope-ge-MOST_STAMP+then-is_own w ↦
          unread_own k.plan.programs c.args.packet c.decode_to.result envelope c.decode_to.ensures.only c.in-Some.is
          (ap (λ (t : Tid). is_some (k.plan.programs t.tx)) (sym w.about.ensures)
          ∙ sym (w.is_own.ensures k.plan.home k.plan.programs (past_of k.plan k.turns) (recalled stands g.D.Disk.tells old.dbms (g.D.Disk.seen old.disk) k.plan.home k.plan.programs (past_of k.plan k.turns) k.standing)) ∙ w.if-is_own.true)
    ])

pub ask-requires-clause-stood : goal.ask-requires-clause-stood
ask-requires-clause-stood g c =
    let h = c.requires.keeps in
    let k = h.keeps in
    let old = c.args.self.now in
    let stands = g.E.LocalEngine.stands in
    let past = past_of k.plan k.turns in
    record {
      home = k.plan.home;
      programs = k.plan.programs;
      past = past;
      stood = k.standing;
      holds = record {
        short = short_past stands g.D.Disk.tells g.D.Disk.seen g.N.Plan.sites g.N.Wires.rings false h.before old k;
        foreign = nothing_is (k.plan.programs (about c.in-Some.envelope.message).tx)
            (ap (λ (t : Tid). is_some (k.plan.programs t.tx)) (sym c.about.ensures)
            ∙ sym (c.is_own.ensures k.plan.home k.plan.programs past (recalled stands g.D.Disk.tells old.dbms (g.D.Disk.seen old.disk) k.plan.home k.plan.programs past k.standing)) ∙ c.if-is_own.false);
        in_range = about_in_range c.in-Some.envelope.message c.in-Some.ensures.in_range.message;
      };
    }

pub carry-requires-clause-room : goal.carry-requires-clause-room
carry-requires-clause-room g c = record { lines = c.requires.room.lines; sent = c.requires.room.sent; outlet = c.requires.room.outlet }

pub carry-requires-clause-ready : goal.carry-requires-clause-ready
carry-requires-clause-ready g c =
    let k = c.requires.keeps.keeps in
    let old = c.args.self.now in
    let mid = record old { dbms = c.ask.new.self; disk = c.ask.new.disk } in
    let told : LineParts = record { command = Cmd.Give old.ends.site c.in-Some.envelope.index; answer = c.in-Ok.step.answer; send = c.in-Ok.step.sends; after = c.in-Some.envelope.stamp } in
    line_ready g.E.LocalEngine.stands g.D.Disk.tells g.D.Disk.seen g.N.Plan.sites g.N.Wires.rings mid k.plan k.turns told (kept_beside old c.ask.new.self c.ask.new.disk k.plan k.turns k.kept)
    (record { lines = c.requires.room.lines; sent = c.requires.room.sent; outlet = c.requires.room.outlet }) (omega (arith, c.if-envelope-ge-MOST_STAMP.false))

pub carry-requires-clause-last : goal.carry-requires-clause-last
carry-requires-clause-last g c =
    let k = c.requires.keeps.keeps in
    last_fits g.E.LocalEngine.stands g.D.Disk.tells g.D.Disk.seen g.N.Plan.sites g.N.Wires.rings c.args.self.now k.plan k.turns k.kept

pub put_back-requires-clause-last : goal.put_back-requires-clause-last
put_back-requires-clause-last g c = (c.requires.keeps.before, c.requires.keeps.took)

pub returns-in-Ok-clause-keeps : goal.returns-in-Ok-clause-keeps
returns-in-Ok-clause-keeps g c =
    let stands = g.E.LocalEngine.stands in
    let tells = g.D.Disk.tells in
    let seen = g.D.Disk.seen in
    let h = c.requires.keeps in
    let k = h.keeps in
    let old = c.args.self.now in
    let past = past_of k.plan k.turns in
    let envelope = c.in-Some.envelope in
    let foreign = nothing_is (k.plan.programs (about envelope.message).tx)
    (ap (λ (t : Tid). is_some (k.plan.programs t.tx)) (sym c.about.ensures)
    ∙ sym (c.is_own.ensures k.plan.home k.plan.programs past (recalled stands tells old.dbms (seen old.disk) k.plan.home k.plan.programs past k.standing)) ∙ c.if-is_own.false) in
    let bears : Bears k.plan.programs c.args.packet envelope =
    record { in_range = c.in-Some.ensures.in_range; spelled = c.in-Some.ensures.spelled; small = omega (arith, c.if-envelope-ge-MOST_STAMP.false); foreign = foreign } in
    let short = short_past stands tells seen g.N.Plan.sites g.N.Wires.rings false h.before old k in
    let sends = c.in-Ok.ensures.served k.plan.home k.plan.programs past k.standing (record { short = short; foreign = foreign; in_range = about_in_range envelope.message c.in-Some.ensures.in_range.message }) in
    (give_line stands tells seen g.N.Plan.sites g.N.Wires.rings old c.ask.new.self c.ask.new.disk c.carry.new.self c.requires.few (clean _ _ c.in-Ok.step c.in-Ok.ensures.cause) c.carry.ensures.beside c.carry.ensures.moved_on c.args.packet h envelope c.in-Ok.step bears sends
    (c.carry.ensures.carried tells (seen c.ask.new.disk))).keeps

pub returns-in_default-clause-takes : goal.returns-in_default-clause-takes
returns-in_default-clause-takes g c home programs past stood =
    record { bears = None; read = unread_none programs c.args.packet c.decode_to.result c.decode_to.ensures.only (none_left c.decode_to.result c.in_default.not-Some); given = record { lines = refl; says = refl } }

pub returns-then-envelope-ge-MOST_STAMP-clause-takes : goal.returns-then-envelope-ge-MOST_STAMP-clause-takes
returns-then-envelope-ge-MOST_STAMP-clause-takes g c home programs past stood =
    let old = c.args.self.now in
    let envelope = c.in-Some.envelope in
    record {
      bears = None;
      read = elim c.then-envelope-ge-MOST_STAMP.branch [
        | then-envelope-ge-MOST_STAMP-via-then-envelope-ge-MOST_STAMP w ↦
            unread_late programs c.args.packet c.decode_to.result envelope c.decode_to.ensures.only c.in-Some.is (omega (arith, w.if-envelope-ge-MOST_STAMP.true))
        | then-envelope-ge-MOST_STAMP-via-else-envelope-ge-MOST_STAMP+then-is_own w ↦
            unread_own programs c.args.packet c.decode_to.result envelope c.decode_to.ensures.only c.in-Some.is
            (ap (λ (t : Tid). is_some (programs t.tx)) (sym w.about.ensures)
            ∙ sym (w.is_own.ensures home programs past (recalled g.E.LocalEngine.stands g.D.Disk.tells old.dbms (g.D.Disk.seen old.disk) home programs past stood)) ∙ w.if-is_own.true)
      ];
      given = record { lines = refl; says = refl };
    }

pub returns-in-Ok-clause-takes : goal.returns-in-Ok-clause-takes
returns-in-Ok-clause-takes g c home programs past' stood =
    let stands = g.E.LocalEngine.stands in
    let tells = g.D.Disk.tells in
    let seen = g.D.Disk.seen in
    let h = c.requires.keeps in
    let k = h.keeps in
    let old = c.args.self.now in
    let past = past_of k.plan k.turns in
    let envelope = c.in-Some.envelope in
    let foreign = nothing_is (k.plan.programs (about envelope.message).tx)
    (ap (λ (t : Tid). is_some (k.plan.programs t.tx)) (sym c.about.ensures)
    ∙ sym (c.is_own.ensures k.plan.home k.plan.programs past (recalled stands tells old.dbms (seen old.disk) k.plan.home k.plan.programs past k.standing)) ∙ c.if-is_own.false) in
    let bears : Bears k.plan.programs c.args.packet envelope =
    record { in_range = c.in-Some.ensures.in_range; spelled = c.in-Some.ensures.spelled; small = omega (arith, c.if-envelope-ge-MOST_STAMP.false); foreign = foreign } in
    let short = short_past stands tells seen g.N.Plan.sites g.N.Wires.rings false h.before old k in
    let sends = c.in-Ok.ensures.served k.plan.home k.plan.programs past k.standing (record { short = short; foreign = foreign; in_range = about_in_range envelope.message c.in-Some.ensures.in_range.message }) in
    let line = give_line stands tells seen g.N.Plan.sites g.N.Wires.rings old c.ask.new.self c.ask.new.disk c.carry.new.self c.requires.few (clean _ _ c.in-Ok.step c.in-Ok.ensures.cause) c.carry.ensures.beside c.carry.ensures.moved_on c.args.packet h envelope c.in-Ok.step bears sends
    (c.carry.ensures.carried tells (seen c.ask.new.disk)) in
    record {
      bears = Some envelope;
      read = record {
        in_range = bears.in_range;
        spelled = bears.spelled;
        small = bears.small;
        foreign = nothing_is (programs (about envelope.message).tx)
            (ap (λ (t : Tid). is_some (programs t.tx)) (sym c.about.ensures)
            ∙ sym (c.is_own.ensures home programs past' (recalled stands tells old.dbms (seen old.disk) home programs past' stood)) ∙ c.if-is_own.false);
      };
      given = record { answer = c.in-Ok.step.answer; adds = line.adds; says = refl };
    }

pub returns-in-Ok-clause-others : goal.returns-in-Ok-clause-others
returns-in-Ok-clause-others g c = view_beside (record c.args.self.now { dbms = c.ask.new.self; disk = c.ask.new.disk }) c.carry.new.self c.carry.ensures.beside

pub returns-in-Err-clause-failed : goal.returns-in-Err-clause-failed
returns-in-Err-clause-failed g c =
    let stands = g.E.LocalEngine.stands in
    let tells = g.D.Disk.tells in
    let seen = g.D.Disk.seen in
    let sites = g.N.Plan.sites in
    let rings = g.N.Wires.rings in
    let h = c.requires.keeps in
    let k = h.keeps in
    let old = c.args.self.now in
    let past = past_of k.plan k.turns in
    let envelope = c.in-Some.envelope in
    let foreign = nothing_is (k.plan.programs (about envelope.message).tx)
    (ap (λ (t : Tid). is_some (k.plan.programs t.tx)) (sym c.about.ensures)
    ∙ sym (c.is_own.ensures k.plan.home k.plan.programs past (recalled stands tells old.dbms (seen old.disk) k.plan.home k.plan.programs past k.standing)) ∙ c.if-is_own.false) in
    let bears : Bears k.plan.programs c.args.packet envelope =
    record { in_range = c.in-Some.ensures.in_range; spelled = c.in-Some.ensures.spelled; small = omega (arith, c.if-envelope-ge-MOST_STAMP.false); foreign = foreign } in
    let short = short_past stands tells seen sites rings false h.before old k in
    let fails = c.in-Err.ensures.failed k.plan.home k.plan.programs past k.standing (record { short = short; foreign = foreign; in_range = about_in_range envelope.message c.in-Some.ensures.in_range.message }) in
    put_back stands tells seen sites rings c.args.packet old h c.ask.new.self c.ask.new.disk c.put_back.new.self c.in-Err.why envelope bears c.put_back.ensures.taken c.put_back.ensures.back c.put_back.ensures.ring fails
    c.in-Err.ensures.cause
