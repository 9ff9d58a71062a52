-- How the coordinator's host begins, and what it leaves.
use Rattle.std.proofs.Common.{◌≡◌, Bool, false, List, [], ◌∷◌, map, refl, sym, ◌∙◌, subst, arith}
use Rattle.mdb_base.specs.Rising.{IsRising}
use Rattle.fed_rules.specs.declared.commands.Stamped.{Stamped}
use Rattle.fed_rules.specs.Policies.{Policy}
use Rattle.fed_messages.specs.declared.Packet.{Packet}
use Rattle.journal_disk.specs.Disk.{Seen}
use Rattle.scripted_link.specs.Rings.{Wire}
use Rattle.scripted_link.proofs.ForCallers.{unoffered_moved}
use Rattle.fed_hosts.specs.declared.coord_actor.CoordActor.{CoordActor}
use Rattle.host_laws.specs.CoordHearing.{HasHeardFrom}
use Rattle.host_laws.specs.CoordHistory.{IsCoordHistory}
use Rattle.fed_hosts.specs.CoordHosts.{CanOpenCoord, IsHeldCoord}
use Rattle.fed_hosts.specs.CoordKeeps.{CoordKeeps}
use Rattle.host_laws.specs.CoordPlans.{CoordPlan}
use Rattle.host_laws.specs.CoordTurns.{CoordTurn, coord_last_stamp}
use Rattle.host_laws.specs.Lines.{stamp_of}
use Rattle.fed_hosts.proofs.Rising.{Rise, above, newest, rise_turned}

newest_is : (turns : List CoordTurn) → newest (map (λ (turn : CoordTurn). turn.line) turns) ≡ coord_last_stamp turns
newest_is [] = refl
newest_is (turn ∷ turns) = refl

stamps_rise : (plan : CoordPlan) (turns : List CoordTurn) → IsCoordHistory plan turns → Rise (map (λ (turn : CoordTurn). turn.line) turns)
stamps_rise plan [] right = tt
stamps_rise plan (turn ∷ turns) right =
    let stamp = right.0.stamp in
    let more = above (coord_last_stamp turns) (stamp_of turn.took) in
    let newest = newest_is turns in
    (omega (arith, stamp, more, newest), stamps_rise plan turns right.1)

module _ {P D : Type 0} (test : P → Policy) (tells : Bool) (seen : D → Seen) (plan : CoordPlan) (rings : List Wire) where
  pub coord_opens : (actor : CoordActor P D) → CanOpenCoord test tells plan rings actor.manager (seen actor.disk) actor.stops.items actor.ports.items → actor.lines.items ≡ [] → actor.armed ≡ 0 → actor.last ≡ 0
      → CoordKeeps test tells seen plan rings false actor
  coord_opens actor can lines armed last = record {
    turns = [];
    planned = can.planned;
    kept = record {
      logged = record {
        right = tt;
        lines = lines;
        ports = λ place port at. record { sent = (can.new place port at).sent_none; offers = (can.new place port at).offered_none };
        stops = can.stops_are;
        armed = armed;
        last = last;
        low = omega arith;
        short = omega arith;
        few_sent = λ site. omega arith;
        counted = λ tx. refl;
        few = λ tx. omega arith;
      };
      settled = λ less. refl;
    };
    moved_on = λ place port at. unoffered_moved port.ends.outlet (can.new place port at).offered_none;
    heard = λ place port at. subst (λ (ps : List Packet). HasHeardFrom ps []) (sym (can.new place port at).taken_none) (record { takings = []; packets_are = refl; read = tt; envelopes_are = refl });
    standing = can.stood;
    faults = can.faults;
  }

  pub coord_held : (failed : Bool) (actor : CoordActor P D) → CoordKeeps test tells seen plan rings failed actor → (lines : List Stamped) → lines ≡ actor.lines.items
      → IsHeldCoord test tells seen plan rings (record { manager = actor.manager; disk = actor.disk; lines = lines; ports = actor.ports; failed = failed })
  coord_held failed actor k lines lines_are =
      let l = k.kept.logged in
      record {
        turns = k.turns;
        planned = k.planned;
        right = l.right;
        lines = lines_are ∙ l.lines;
        rise = subst (λ (ls : List Stamped). IsRising (λ (line : Stamped). line.stamp) ls) (sym (lines_are ∙ l.lines)) (rise_turned (map (λ (turn : CoordTurn). turn.line) k.turns) (stamps_rise plan k.turns l.right));
        ports = l.ports;
        moved_on = k.moved_on;
        heard = k.heard;
        short = l.short;
        few = l.few;
        settled = k.kept.settled;
        standing = k.standing;
        faults = k.faults;
      }
