-- What a turn of the coordinator's host leaves: of a start, and of a packet.
use Rattle.std.proofs.Common.{◌≡◌, ℕ, zero, suc, ◌||◌, ◌+◌, ◌<◌, ◌^◌, Bool, true, false, cond, Err, Option, Some, None, List, [], ◌∷◌, ◌++◌, length, slice_get, slice_set, append-nil, eq-eqb, refl, sym, ap, ◌∙◌, subst, arith}
use Rattle.std.specs.Global.{Vec}
use Rattle.std.specs.Prelude.{option_map, option_to_list}
use Rattle.std.specs.Vec.{vec_capacity, vec_len}
use Rattle.std.proofs.lemmas.Option.{same_Some, slice_get-map}
use Rattle.mdb_base.specs.declared.names.SiteId.{SiteId}
use Rattle.mdb_base.specs.Names.{same_site}
use Rattle.mdb_base.specs.Counts.{HasCauseOf}
use Rattle.mdb_base.specs.Words.{some_of}
use Rattle.mdb_base.proofs.ForCallers.{slice_get-there}
use Rattle.session_routes.proofs.ForCallers.{get_put}
use Rattle.presumptions.specs.declared.Participant.{Participant}
use Rattle.fed_rules.specs.declared.commands.Command.TheVariants as Cmd
use Rattle.fed_rules.specs.declared.commands.Stamped.{Stamped}
use Rattle.fed_rules.specs.declared.events.CoordEvent.{CoordEvent}
use Rattle.fed_rules.specs.declared.events.CoordEvent.TheVariants as Ev
use Rattle.fed_rules.specs.declared.events.CoordStep.{CoordStep}
use Rattle.fed_rules.specs.declared.messages.FromSite.{FromSite}
use Rattle.fed_rules.specs.declared.messages.ToSite.{ToSite}
use Rattle.fed_rules.specs.CoordPast.{attempts_of}
use Rattle.fed_rules.specs.Policies.{Policy}
use Rattle.fed_rules.specs.Requests.{Request, Submits}
use Rattle.fed_rules.specs.Right.{MayPrint}
use Rattle.fed_rules.specs.SitePast.{begins_tx}
use Rattle.fed_messages.specs.declared.Envelope.{Envelope}
use Rattle.fed_messages.specs.declared.Packet.{Packet}
use Rattle.global_exec.specs.Pasts.{IsAmong}
use Rattle.journal_disk.specs.Disk.{Seen}
use Rattle.fed_rules.proofs.ForCallers.{BeginsNothing}
use Rattle.coord_tables.specs.Terms.{line_of}
use Rattle.global_manager.specs.declared.asks.CoordAsk.{CoordAsk}
use Rattle.global_manager.specs.declared.manager.GlobalManager.{GlobalManager}
use Rattle.global_manager.specs.Asks.{CanAsk}
use Rattle.actor_store.specs.declared.errors.StepErr.{StepErr}
use Rattle.actor_store.specs.declared.errors.StepErr.TheVariants as Err_is
use Rattle.global_manager.specs.Stands.{Fails, Sends, SomeManaged, Stands}
use Rattle.scripted_link.specs.declared.inlet.Inlet.{Inlet}
use Rattle.scripted_link.specs.Inlets.{inlet_ring, returned, taken}
use Rattle.scripted_link.specs.declared.outlet.Outlet.{Outlet}
use Rattle.scripted_link.specs.Outlets.{HasMovedOn, IsReserved, offered, outlet_wire}
use Rattle.scripted_link.specs.Rings.{Wire}
use Rattle.fed_hosts.specs.declared.coord_actor.CoordActor.{CoordActor}
use Rattle.fed_hosts.specs.declared.coord_actor.CoordLineParts.{CoordLineParts}
use Rattle.fed_hosts.specs.declared.ports.Port.{Port}
use Rattle.fed_hosts.specs.declared.rounds.Arrived.{Arrived}
use Rattle.fed_hosts.specs.CoordCarrying.{IsBesideCoordLines, IsCoordTold, coord_turn_of}
use Rattle.host_laws.specs.CoordHearing.{BearsFrom, IsReadFrom}
use Rattle.host_laws.specs.CoordHistory.{IsCoordCommand}
use Rattle.fed_hosts.specs.CoordKeeps.{CoordKeeps, CoordKeepsFor, IsCoordKept, IsCoordPlanned, IsCoordUnfinished}
use Rattle.host_laws.specs.CoordPlans.{CoordPlan}
use Rattle.fed_hosts.specs.CoordRooms.{HasCoordRoom, IsCoordReady}
use Rattle.fed_hosts.specs.CoordServing.{HoldsFrom}
use Rattle.fed_hosts.specs.Serving.{has_failed}
use Rattle.fed_hosts.specs.CoordTurns.{TakesFrom}
use Rattle.host_laws.specs.CoordTurns.{CoordTurn, MayAnswer, coord_behind, coord_past_of, coord_request, coord_sends}
use Rattle.host_laws.specs.Plans.{most_lines}
use Rattle.host_laws.specs.Lines.{stamp_of}
use Rattle.fed_hosts.specs.Ports.{EachBecomes, backs_of, HaveFewSent, HaveMovedOn, HasPortRoom, HavePortRoom}
use Rattle.fed_hosts.specs.Rounds.{ArePolled, ArePutBack, IsBesideInlet, IsPolled, IsPutBack, arrived_at}
use Rattle.fed_hosts.proofs.Changes.{became, becomes_into, changed_one}
use Rattle.fed_hosts.proofs.CoordAdding.{KeepsRings, rings_planned}
use Rattle.fed_hosts.proofs.CoordAsked.{begins_printed, submit_counts}
use Rattle.fed_hosts.proofs.CoordHeard.{heard_aside, heard_back, heard_none, heard_taken}
use Rattle.fed_hosts.proofs.CoordOwn.{line_goes}
use Rattle.fed_hosts.proofs.CoordSame.{HasSentSame, coord_kept_ports, moved_ports, same_coord}
use Rattle.fed_hosts.proofs.CoordServed.{CoordCarries, HasCoordLine, coord_keeps_failed, coord_keeps_heard, coord_line_carried, heard_alone, submitted}
use Rattle.fed_hosts.proofs.Polled.{arrived_elsewhere, arrived_here, beside_inlet, with_inlet}

module _ (plan : CoordPlan) (turns : List CoordTurn) (told : CoordLineParts) (took : Option (Envelope FromSite)) (event : CoordEvent) where
  event_told : IsCoordCommand plan turns told.command took → told.after ≡ stamp_of took → stamp_of took < 2 ^ 62 → coord_request plan (coord_past_of plan turns) told.command took ≡ Submits event → BeginsNothing event
      → MayPrint plan.terms.protocols (coord_past_of plan turns) (line_of plan.terms (coord_past_of plan turns) event) (line_of plan.terms (coord_past_of plan turns) event).event told.answer
      → told.sends ≡ (line_of plan.terms (coord_past_of plan turns) event).sends → IsCoordTold plan turns told took
  event_told command after small request not said sent =
      let past = coord_past_of plan turns in
      let is = sym request in
      record {
        command = command;
        after = after;
        small = small;
        answer = subst (λ (q : Request CoordEvent). MayAnswer plan.terms past q told.answer) is said;
        sends = subst (λ (q : Request CoordEvent). told.sends ≡ coord_sends plan.terms past q) is sent;
        counted = λ tx. subst (λ (q : Request CoordEvent). attempts_of (coord_behind plan.terms past q) tx ≡ cond (begins_tx tx told.answer) (suc (attempts_of past tx)) (attempts_of past tx)) is
            (submit_counts plan.terms plan.programs past (λ t p q. Unit {0}) event told.answer tx said);
        few = λ tx e.
            let begins = sym (begins_printed tx plan.terms past (line_of plan.terms past event) (line_of plan.terms past event).event told.answer said) ∙ e in
            let (tid, steps, event_is, of) = line_goes plan.terms past event tx begins in
            let none : ⊥ = subst BeginsNothing event_is not in
            absurd none;
      }

-- the number of the messages that were sent to each site has room
pub few_sent : {P D : Type 0} (plan : CoordPlan) (turns : List CoordTurn) (actor : CoordActor P D) → IsCoordKept plan turns actor → HaveFewSent actor.ports.items
few_sent plan turns actor kept place port at =
    let l = kept.logged in
    let sent = ap (λ (ms : List ToSite). length ms) (l.ports place port at).sent in
    let few = l.few_sent port.ends.site in
    let short = l.short in
    omega (arith, sent, few, short)

-- the room and the numbers of a line
pub coord_line_ready : {P D : Type 0} (actor : CoordActor P D) (plan : CoordPlan) (turns : List CoordTurn) (told : CoordLineParts) → IsCoordKept plan turns actor → HasCoordRoom actor → told.after < 2 ^ 62 → IsCoordReady actor told
coord_line_ready actor plan turns told kept room small =
    let l = kept.logged in
    let last = l.last in
    let low = l.low in
    let short = l.short in
    let lines = room.lines in
    record {
      line = omega (arith, lines);
      last = omega (arith, last, low, short);
      after = omega (arith, small);
      places = room.places;
      ports = room.ports;
      few = few_sent plan turns actor kept;
    }

pub coord_last_fits : {P D : Type 0} (actor : CoordActor P D) (plan : CoordPlan) (turns : List CoordTurn) → IsCoordKept plan turns actor → actor.last + 2 < 2 ^ 64
coord_last_fits actor plan turns kept =
    let last = kept.logged.last in
    let low = kept.logged.low in
    let short = kept.logged.short in
    omega (arith, last, low, short)

some_at : (site : SiteId) (protocols : List Participant) (place : ℕ) (member : Participant) → slice_get protocols place ≡ Some member → site ≡ member.site → IsAmong site protocols
some_at site [] place member at is = cc
some_at site (x ∷ xs) zero member at is =
    let same : x ≡ member = same_Some x member at in
    let test : same_site x.site site ≡ true = eq-eqb x.site.0 site.0 (ap (λ (m : Participant). m.site.0) same ∙ ap (λ (s : SiteId). s.0) (sym is)) in
    ap (λ (b : Bool). b || some_of (λ member. same_site member.site site) xs) test
some_at site (x ∷ xs) (suc place) member at is = or_true (same_site x.site site) (some_of (λ member. same_site member.site site) xs) (some_at site xs place member at is) where
  or_true : (a b : Bool) → b ≡ true → (a || b) ≡ true
  or_true true b e = refl
  or_true false b e = e

-- the site of a port is one of the coordinator's
pub port_among : (rings : List Wire) (plan : CoordPlan) (ports : List Port) (place : ℕ) (port : Port) → IsCoordPlanned rings plan ports → slice_get ports place ≡ Some port → IsAmong port.ends.site plan.terms.protocols
port_among rings plan ports place port planned at =
    let p = planned.each place port at in
    some_at port.ends.site plan.terms.protocols place p.member p.at p.site

-- a packet that is left aside makes no line
pub leaves_aside : (rings : List Wire) (plan : CoordPlan) (ports : List Port) (arrived : Arrived) (lines : List Stamped) → IsCoordPlanned rings plan ports → arrived.place < length ports → IsReadFrom arrived.packet None
    → TakesFrom plan arrived.place arrived.packet lines lines false
leaves_aside rings plan ports arrived lines planned within none = from (slice_get-there ports arrived.place within) where
  from : (port : Port) × (slice_get ports arrived.place ≡ Some port) → TakesFrom plan arrived.place arrived.packet lines lines false
  from (port, at) = let p = planned.each arrived.place port at in record { member = p.member; at = p.at; bears = None; read = none; taken = record { lines = refl; says = refl } }

beside_inlets : (old new : List Port) → EachBecomes (λ place a b. IsBesideInlet a b) old new → EachBecomes (λ place a b. KeepsRings a b) old new
beside_inlets old new beside = becomes_into (λ place a b. IsBesideInlet a b) (λ place a b. KeepsRings a b) old new (λ place a b is. record { site = is.site; ring = is.ring; wire = ap (λ (o : Outlet). outlet_wire o) is.outlet }) beside

sent_inlets : (old new : List Port) → EachBecomes (λ place a b. IsBesideInlet a b) old new → EachBecomes (λ place a b. HasSentSame a b) old new
sent_inlets old new beside = becomes_into (λ place a b. IsBesideInlet a b) (λ place a b. HasSentSame a b) old new (λ place a b is. record { site = is.site; offers = ap (λ (o : Outlet). offered o) is.outlet; sent = ap (λ v. v.items) is.sent }) beside

-- no outlet was touched
moved_inlets : (old new : List Port) → EachBecomes (λ place a b. IsBesideInlet a b) old new → HaveMovedOn old → HaveMovedOn new
moved_inlets old new beside had = moved_ports (λ place a b. IsBesideInlet a b) old new (λ place a b is had. subst (λ (o : Outlet). HasMovedOn o) (sym is.outlet) had) beside had

-- the ports that were asked have the room that they had
pub room_polled : (arrived : Option Arrived) (old now : List Port) → ArePolled arrived old now → HavePortRoom old → HavePortRoom now
room_polled arrived old now polled room place port at = from (became (λ place a b. IsPolled (arrived_at arrived place) a b) old now polled place port at) where
  from : (before : Port) × (slice_get old place ≡ Some before) × IsPolled (arrived_at arrived place) before port → HasPortRoom port
  from (before, was, is) =
      let had = room place before was in
      record {
        sent = subst (λ (to : Vec ToSite). vec_len to < vec_capacity to) (sym is.beside.sent) had.sent;
        outlet = subst (λ (o : Outlet). IsReserved o) (sym is.beside.outlet) had.outlet;
      }

-- the inlet at the place of the packet that came in has it again
pub was_put_back : (ports : List Port) (arrived : Arrived) (port : Port) (inlet : Inlet) → arrived.place < length ports → slice_get ports arrived.place ≡ Some port → inlet_ring inlet ≡ inlet_ring port.ends.inlet
    → taken port.ends.inlet ≡ taken inlet ++ arrived.packet ∷ [] → ArePutBack arrived ports (slice_set ports arrived.place (with_inlet port inlet))
was_put_back ports arrived port inlet within at ring took =
    changed_one (λ place a b. IsPutBack (arrived_at (Some arrived) place) a b) ports arrived.place port (with_inlet port inlet) within at
    (record { beside = beside_inlet port inlet ring; took = took ∙ sym (ap (λ (o : Option Packet). taken inlet ++ option_to_list o) (arrived_here arrived)) })
    (λ place other apart was. record {
      beside = record { site = refl; outlet = refl; sent = refl; ring = refl };
      took = sym (ap (λ (o : Option Packet). taken other.ends.inlet ++ option_to_list o) (arrived_elsewhere arrived place apart) ∙ append-nil _);
    })

module _ {P D : Type 0} (test : P → Policy) (tells : Bool) (seen : D → Seen) (plan : CoordPlan) (rings : List Wire) where
  -- the coordinator stands for it, and may be asked this
  pub stood_managed : (ports : List Port) (actor : CoordActor P D) (ask : CoordAsk) (k : CoordKeepsFor test tells seen plan rings false ports actor) → CanAsk ask plan.terms plan.programs (coord_past_of plan k.turns)
      → SomeManaged (Stands test tells actor.manager (seen actor.disk)) (CanAsk ask)
  stood_managed ports actor ask k can = record { terms = plan.terms; programs = plan.programs; past = coord_past_of plan k.turns; stood = k.standing; holds = can }

  -- what the host keeps whatever its inlets become
  abbrev keeps_inlets : (before : List Port) (old : CoordActor P D) (ports : Vec Port) → EachBecomes (λ place a b. IsBesideInlet a b) old.ports.items ports.items → CoordKeepsFor test tells seen plan rings false before old
      → CoordKeepsFor test tells seen plan rings false before (record old { ports = ports })
  keeps_inlets before old ports beside k = record {
    turns = k.turns;
    planned = rings_planned rings plan old.ports.items ports.items (beside_inlets old.ports.items ports.items beside) k.planned;
    kept = coord_kept_ports old ports plan k.turns (sent_inlets old.ports.items ports.items beside) k.kept;
    moved_on = moved_inlets old.ports.items ports.items beside k.moved_on;
    heard = k.heard;
    standing = k.standing;
    faults = k.faults;
  }

  abbrev polled_inlets : (arrived : Option Arrived) (old new : List Port) → ArePolled arrived old new → EachBecomes (λ place a b. IsBesideInlet a b) old new
  polled_inlets arrived old new polled = becomes_into (λ place a b. IsPolled (arrived_at arrived place) a b) (λ place a b. IsBesideInlet a b) old new (λ place a b is. is.beside) polled

  -- where each inlet gave none
  pub keeps_none : (old : CoordActor P D) (ports : Vec Port) → ArePolled None old.ports.items ports.items → CoordKeeps test tells seen plan rings false old → CoordKeeps test tells seen plan rings false (record old { ports = ports })
  keeps_none old ports polled k =
      let kept = keeps_inlets old.ports.items old ports (polled_inlets None old.ports.items ports.items polled) k in
      record { turns = k.turns; planned = kept.planned; kept = kept.kept; moved_on = kept.moved_on; heard = heard_none k.turns old.ports.items ports.items polled k.heard; standing = k.standing; faults = k.faults }

  -- where a packet came in
  pub holds_arrived : (old : CoordActor P D) (ports : Vec Port) (arrived : Arrived) → ArePolled (Some arrived) old.ports.items ports.items → CoordKeeps test tells seen plan rings false old
      → HoldsFrom test tells seen plan rings arrived (record old { ports = ports })
  holds_arrived old ports arrived polled k =
      record { before = old.ports.items; polled = polled; keeps = keeps_inlets old.ports.items old ports (polled_inlets (Some arrived) old.ports.items ports.items polled) k }

  -- one that is left aside
  pub aside_keeps : (arrived : Arrived) (actor : CoordActor P D) → HoldsFrom test tells seen plan rings arrived actor → IsReadFrom arrived.packet None → CoordKeeps test tells seen plan rings false actor
  aside_keeps arrived actor h none =
      let k = h.keeps in
      record { turns = k.turns; planned = k.planned; kept = k.kept; moved_on = k.moved_on; heard = heard_aside k.turns h.before actor.ports.items arrived h.polled k.heard none; standing = k.standing; faults = k.faults }

  -- one that was put back, where its message wasn't answered
  pub back_keeps : {T : Type 0} (arrived : Arrived) (old : CoordActor P D) (h : HoldsFrom test tells seen plan rings arrived old) (manager : GlobalManager P) (disk : D) (ports : Vec Port) (why : StepErr) (event : CoordEvent)
      → ArePutBack arrived old.ports.items ports.items → IsCoordUnfinished plan (backs_of ports.items) h.keeps.turns event
      → Fails (Stands test tells manager (seen disk)) why plan.terms plan.programs (coord_past_of plan h.keeps.turns) (Submits event)
      → HasCauseOf {T = T} Err_is.Disk (seen old.disk).faults (seen disk).faults (Err why)
      → CoordKeeps test tells seen plan rings (has_failed why) (record old { manager = manager; disk = disk; ports = ports })
  back_keeps arrived old h manager disk ports why event back unfinished fails cause =
      let k = h.keeps in
      let mid = record old { ports = ports } in
      let new = record mid { manager = manager; disk = disk } in
      let beside = becomes_into (λ place a b. IsPutBack (arrived_at (Some arrived) place) a b) (λ place a b. IsBesideInlet a b) old.ports.items ports.items (λ place a b is. is.beside) back in
      let failed = coord_keeps_failed test tells seen plan rings h.before mid new manager disk why (keeps_inlets h.before old ports beside k) (Submits event)
      (λ other e. subst (IsCoordUnfinished plan (backs_of ports.items) k.turns) (submitted event other e) unfinished) fails cause (same_coord new) in
      coord_keeps_heard test tells seen plan rings (has_failed why) h.before ports.items new failed (heard_back failed.turns arrived h.before old.ports.items ports.items h.polled back failed.heard)

  -- what such a command takes
  pub unfinished_take : (ports : List Port) (turns : List CoordTurn) (arrived : Arrived) (port : Port) (inlet : Inlet) (envelope : Envelope FromSite) → IsCoordPlanned rings plan ports → arrived.place < length ports
      → slice_get ports arrived.place ≡ Some port → returned inlet ≡ Some arrived.packet → BearsFrom arrived.packet envelope
      → IsCoordUnfinished plan (backs_of (slice_set ports arrived.place (with_inlet port inlet))) turns (Ev.Take port.ends.site envelope.message)
  unfinished_take ports turns arrived port inlet envelope planned within at back bears =
      let member = planned.each arrived.place port at in
      let back_of = λ (other : Port). returned other.ends.inlet in
      record {
        command = Cmd.Take port.ends.site envelope.index;
        took = Some envelope;
        could = (port_among rings plan ports arrived.place port planned at, record { envelope = envelope; is = refl; place_is = refl });
        borne = record {
          place = arrived.place;
          member = member.member;
          at = member.at;
          site_is = member.site;
          packet = arrived.packet;
          back = slice_get-map back_of (slice_set ports arrived.place (with_inlet port inlet)) arrived.place
              ∙ ap (option_map back_of) (get_put ports arrived.place (with_inlet port inlet) within)
              ∙ ap (λ (o : Option Packet). Some o) back;
          bears = bears;
        };
        is = refl;
      }

  module _ (old : CoordActor P D) (manager : GlobalManager P) (disk : D) (new : CoordActor P D) (few : length old.lines.items < most_lines) (faults : (seen disk).faults ≡ (seen old.disk).faults)
      (beside : IsBesideCoordLines (record old { manager = manager; disk = disk }) new) (moved_on : HaveMovedOn new.ports.items) where
    -- the line of a start
    pub coord_start_line : (k : CoordKeeps test tells seen plan rings false old) (step : CoordStep)
        → Sends (Stands test tells manager (seen disk)) step plan.terms plan.programs (coord_past_of plan k.turns) Ev.Back → (told : CoordLineParts)
        → told ≡ record { command = Cmd.Back 0; answer = step.answer; sends = step.sends; after = 0 }
        → CoordCarries test tells (seen disk) (record old { manager = manager; disk = disk }) new told → HasCoordLine test tells seen plan rings old new told
    coord_start_line k step sends told told_is carries =
        let made : CoordLineParts = record { command = Cmd.Back 0; answer = step.answer; sends = step.sends; after = 0 } in
        let is = event_told plan k.turns made None Ev.Back (refl, refl) refl (omega arith) refl tt sends.said sends.sent in
        subst (λ (t : CoordLineParts). HasCoordLine test tells seen plan rings old new t) (sym told_is)
        (coord_line_carried test tells seen plan rings old manager disk new k.turns made None k.planned k.kept few is refl sends.next
        (heard_alone (coord_turn_of (record old { manager = manager; disk = disk }) made None) k.turns old.ports.items refl k.heard) (faults ∙ k.faults)
        (subst (λ (t : CoordLineParts). CoordCarries test tells (seen disk) (record old { manager = manager; disk = disk }) new t) told_is carries) beside moved_on)

    -- the line of a message that is taken
    pub coord_take_line : (arrived : Arrived) (h : HoldsFrom test tells seen plan rings arrived old) (from : Port) (envelope : Envelope FromSite) (step : CoordStep)
        → slice_get old.ports.items arrived.place ≡ Some from → BearsFrom arrived.packet envelope
        → Sends (Stands test tells manager (seen disk)) step plan.terms plan.programs (coord_past_of plan h.keeps.turns) (Ev.Take from.ends.site envelope.message) → (told : CoordLineParts)
        → told ≡ record { command = Cmd.Take from.ends.site envelope.index; answer = step.answer; sends = step.sends; after = envelope.stamp }
        → CoordCarries test tells (seen disk) (record old { manager = manager; disk = disk }) new told → HasCoordLine test tells seen plan rings old new told
    coord_take_line arrived h from envelope step at bears sends told told_is carries =
        let k = h.keeps in
        let made : CoordLineParts = record { command = Cmd.Take from.ends.site envelope.index; answer = step.answer; sends = step.sends; after = envelope.stamp } in
        let among = port_among rings plan old.ports.items arrived.place from k.planned at in
        let is = event_told plan k.turns made (Some envelope) (Ev.Take from.ends.site envelope.message) (among, record { envelope = envelope; is = refl; place_is = refl }) refl bears.small refl tt sends.said sends.sent in
        subst (λ (t : CoordLineParts). HasCoordLine test tells seen plan rings old new t) (sym told_is)
        (coord_line_carried test tells seen plan rings old manager disk new k.turns made (Some envelope) k.planned k.kept few is refl sends.next
        (heard_taken rings plan (coord_turn_of (record old { manager = manager; disk = disk }) made (Some envelope)) k.turns h.before old.ports.items arrived envelope from k.planned k.standing.core.holds.sound.rising h.polled k.heard bears at refl refl)
        (faults ∙ k.faults) (subst (λ (t : CoordLineParts). CoordCarries test tells (seen disk) (record old { manager = manager; disk = disk }) new t) told_is carries) beside moved_on)
