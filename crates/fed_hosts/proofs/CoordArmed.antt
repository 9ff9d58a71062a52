-- The arming of a stop behind the lines of the coordinator's host, where one has to be armed.
use Rattle.std.proofs.Common.{◌≡◌, ℕ, suc, ◌+◌, ◌≤◌, ◌<◌, Bool, true, false, cond, is_some, Some, None, List, [], ◌∷◌, ◌++◌, length, slice_get, append-nil, refl, sym, ap, ◌∙◌, subst, arith}
use Rattle.mdb_base.proofs.ForCallers.{each_at_place}
use Rattle.fed_rules.specs.declared.answers.Answer.{Answer}
use Rattle.fed_rules.specs.declared.answers.Answer.TheVariants as Say
use Rattle.fed_rules.specs.declared.commands.Command.TheVariants as Cmd
use Rattle.fed_rules.specs.declared.commands.Place.{Place}
use Rattle.fed_rules.specs.declared.events.CoordEvent.TheVariants as Ev
use Rattle.fed_rules.specs.declared.messages.Sent.{Sent}
use Rattle.fed_rules.specs.declared.scenario.StopLine.{StopLine}
use Rattle.fed_rules.specs.CoordPast.{CoordHappening, attempts_of, trip}
use Rattle.fed_rules.specs.Policies.{Policy}
use Rattle.fed_rules.specs.Right.{MayPrint}
use Rattle.fed_rules.specs.SitePast.{begins_tx}
use Rattle.journal_disk.specs.Disk.{Seen}
use Rattle.coord_core.proofs.ForCallers.{trip_line}
use Rattle.global_manager.specs.declared.manager.GlobalManager.{GlobalManager}
use Rattle.global_manager.specs.Stands.{Sends, Stands}
use Rattle.scripted_link.specs.Rings.{Wire}
use Rattle.fed_hosts.specs.declared.coord_actor.CoordActor.{CoordActor}
use Rattle.fed_hosts.specs.declared.coord_actor.CoordLineParts.{CoordLineParts}
use Rattle.fed_hosts.specs.declared.ports.Port.{Port}
use Rattle.fed_hosts.specs.CoordCarrying.{HasCoordArmed, IsCoordTold, coord_turn_of}
use Rattle.fed_hosts.specs.CoordKeeps.{IsCoordLogged, IsCoordPlanned}
use Rattle.host_laws.specs.CoordPlans.{CoordPlan}
use Rattle.fed_hosts.specs.CoordRooms.{HasCoordAdded}
use Rattle.host_laws.specs.CoordTurns.{CoordTurn, coord_is_due, coord_past_of, coord_trips_of}
use Rattle.fed_hosts.specs.Keeps.{IsStop}
use Rattle.host_laws.specs.Plans.{most_lines}
use Rattle.host_laws.specs.Lines.{next_stamp}
use Rattle.fed_hosts.specs.Ports.{ArePosted, IsPosted, places_at}
use Rattle.fed_hosts.proofs.Changes.{becomes_self}
use Rattle.fed_hosts.proofs.CoordAdding.{coord_logged_more}
use Rattle.fed_hosts.proofs.CoordTrips.{coord_none_left, coord_one_due, coord_one_set, coord_settles}
use Rattle.fed_hosts.proofs.Words.{length_turned}

-- as many lines as turns
pub coord_as_many : {P D : Type 0} (plan : CoordPlan) (turns : List CoordTurn) (actor : CoordActor P D) → IsCoordLogged plan turns actor → length actor.lines.items ≡ length turns
coord_as_many plan turns actor logged = ap length logged.lines ∙ length_turned (λ (turn : CoordTurn). turn.line) turns

pub coord_unarmed_set : (plan : CoordPlan) (turns : List CoordTurn) (set : Bool) → set ≡ is_some (trip (coord_past_of plan turns)) → set ≡ true → length turns < most_lines → coord_is_due plan turns ≡ false
coord_unarmed_set plan turns set is e less = coord_one_set plan turns (sym is ∙ e)

-- a line that sends nothing leaves the ports
none_posted : (stamp : ℕ) (port : Port) → IsPosted [] stamp port port
none_posted stamp port = record { site = refl; inlet = refl; wire = refl; offers = sym (append-nil _); sent = sym (append-nil _) }

silent_posted : (stamp : ℕ) (ports : List Port) → ArePosted [] stamp ports ports
silent_posted stamp ports = becomes_self (λ place a b. IsPosted [] stamp a b) ports (λ place port at. none_posted stamp port)

none_found : (ports : List Port) → places_at [] ports ≡ []
none_found [] = refl
none_found (port ∷ ports) = none_found ports

module _ {P : Type 0} (test : P → Policy) (tells : Bool) (seen : Seen) (plan : CoordPlan) (turns : List CoordTurn) where
  -- the line that arms a stop is told as the rules say
  trip_told : (stop : StopLine) (told : CoordLineParts) (manager : GlobalManager P) → slice_get plan.stops (coord_trips_of turns) ≡ Some stop
      → told ≡ record told { command = Cmd.Trip stop.actor stop.calls stop.cut; sends = []; after = 0 }
      → Sends (Stands test tells manager seen) (record { answer = told.answer; sends = [] }) plan.terms plan.programs (coord_past_of plan turns) (Ev.Trip stop.calls stop.cut)
      → IsCoordTold plan turns (record told { command = Cmd.Trip stop.actor stop.calls stop.cut; sends = []; after = 0 }) None
  trip_told stop told manager at is sends =
      let past = coord_past_of plan turns in
      let line = trip_line plan.terms past stop.calls stop.cut in
      let set : told.answer ≡ Say.Set =
      subst (λ (x : CoordHappening). MayPrint plan.terms.protocols past x x.event told.answer) line sends.said in
      record {
        command = (at, refl);
        after = refl;
        small = omega arith;
        answer = sends.said;
        sends = sends.sent;
        counted = λ tx. ap (λ (x : CoordHappening). attempts_of (x ∷ past) tx) line ∙ ap (λ (a : Answer). cond (begins_tx tx a) (suc (attempts_of past tx)) (attempts_of past tx)) (sym set);
        few = λ tx e. let set_begins : begins_tx tx Say.Set ≡ true = subst (λ (a : Answer). begins_tx tx a ≡ true) set e in cc;
      }

module _ {P D : Type 0} (test : P → Policy) (tells : Bool) (seen : Seen) (plan : CoordPlan) (turns : List CoordTurn) where
  -- none has to be armed
  pub coord_unarmed : (actor : CoordActor P D) → IsCoordLogged plan turns actor → Stands test tells actor.manager seen plan.terms plan.programs (coord_past_of plan turns)
      → (length turns < most_lines → coord_is_due plan turns ≡ false) → HasCoordArmed test tells seen plan turns actor.lines.items actor
  coord_unarmed actor logged stood settled = record {
    more = turns;
    arming = [];
    is_arming = tt;
    lines = sym (append-nil actor.lines.items);
    kept = record { logged = logged; settled = settled };
    stood = stood;
    took = λ site. refl;
  }

  pub coord_unarmed_full : (actor : CoordActor P D) → IsCoordLogged plan turns actor → most_lines ≤ length actor.lines.items → length turns < most_lines → coord_is_due plan turns ≡ false
  coord_unarmed_full actor logged full less = let same = coord_as_many plan turns actor logged in absurd (omega (arith, same, full, less))

  pub coord_unarmed_left : (actor : CoordActor P D) → IsCoordLogged plan turns actor → length actor.stops.items ≤ actor.armed → length turns < most_lines → coord_is_due plan turns ≡ false
  coord_unarmed_left actor logged all less =
      let stops = ap length logged.stops in
      let armed = logged.armed in
      coord_none_left plan turns (omega (arith, stops, armed, all))

  -- the line that arms a stop
  pub coord_arms : (rings : List Wire) (old new : CoordActor P D) (stop : StopLine) (told : CoordLineParts) → IsCoordLogged plan turns old → 1 ≤ length turns → IsCoordPlanned rings plan old.ports.items
      → length turns < most_lines → old.armed < length old.stops.items → slice_get old.stops.items old.armed ≡ Some stop → is_some (trip (coord_past_of plan turns)) ≡ false
      → told ≡ record told { command = Cmd.Trip stop.actor stop.calls stop.cut; sends = []; after = 0 }
      → Sends (Stands test tells new.manager seen) (record { answer = told.answer; sends = [] }) plan.terms plan.programs (coord_past_of plan turns) (Ev.Trip stop.calls stop.cut)
      → HasCoordAdded old new told → new.stops ≡ old.stops → new.armed ≡ suc old.armed → HasCoordArmed test tells seen plan turns old.lines.items new
  coord_arms rings old new stop told logged some planned less left at unset is sends added same armed =
      let at' : slice_get plan.stops (coord_trips_of turns) ≡ Some stop =
      subst (λ (n : ℕ). slice_get plan.stops n ≡ Some stop) logged.armed (subst (λ (xs : List StopLine). slice_get xs old.armed ≡ Some stop) logged.stops at) in
      let left' : coord_trips_of turns < length plan.stops = let e = ap length logged.stops in let f = logged.armed in omega (arith, e, f, left) in
      let told' = record told { command = Cmd.Trip stop.actor stop.calls stop.cut; sends = []; after = 0 } in
      let trip_is' = trip_told test tells seen plan turns stop told new.manager at' is sends in
      let due = coord_one_due plan turns some unset left' in
      let added' : HasCoordAdded old new told' = subst (λ (t : CoordLineParts). HasCoordAdded old new t) is added in
      let turn = coord_turn_of old told' None in
      let one = each_at_place (IsStop 0) plan.stops (coord_trips_of turns) stop planned.stops at' in
      record {
        more = turn ∷ turns;
        arming = turn.line ∷ [];
        is_arming = refl;
        lines = added'.lines;
        kept = record {
          logged = coord_logged_more rings plan turns told' None old new logged trip_is' planned (sym due) less added' same (armed ∙ ap suc logged.armed);
          settled = λ fewer. coord_settles plan turns stop.calls stop.cut one.calls (turn ∷ turns) refl;
        };
        stood = sends.next;
        took = λ site. refl;
      }

-- a line that was noted, as one that is told
pub noted_added : {P D : Type 0} (old new : CoordActor P D) (told : CoordLineParts) → told.sends ≡ [] → told.after ≡ 0
    → new.lines.items ≡ old.lines.items ++ record { stamp = old.last + 1; line = record { command = told.command; answer = told.answer; sends = [] } } ∷ [] → new.ports ≡ old.ports → new.last ≡ old.last + 1 → HasCoordAdded old new told
noted_added {P} {D} old new told silent alone lines ports last =
    let stamp : next_stamp old.last told.after ≡ old.last + 1 = omega (arith, alone) in
    record {
      lines = lines
          ∙ ap (λ (n : ℕ). old.lines.items ++ record { stamp = n; line = record { command = told.command; answer = told.answer; sends = [] } } ∷ []) (sym stamp)
          ∙ ap (λ (ps : List Place). old.lines.items ++ record { stamp = next_stamp old.last told.after; line = record { command = told.command; answer = told.answer; sends = ps } } ∷ [])
          (sym (ap (λ (sends : List Sent). places_at sends old.ports.items) silent ∙ none_found old.ports.items));
      ports = subst (λ (sends : List Sent). ArePosted sends (next_stamp old.last told.after) old.ports.items new.ports.items) (sym silent)
          (subst (λ (ps : List Port). ArePosted [] (next_stamp old.last told.after) old.ports.items ps) (sym (ap (λ v. v.items) ports)) (silent_posted (next_stamp old.last told.after) old.ports.items));
      last = last ∙ sym stamp;
    }
