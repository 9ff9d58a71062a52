-- A line of the coordinator's host with the stop that is armed behind it.
use Rattle.std.proofs.Common.{◌≡◌, ℕ, suc, ◌≤◌, ◌<◌, Bool, false, cond, Option, List, ◌∷◌, ◌++◌, [], length, refl, sym, ap, ◌∙◌, subst, arith}
use Rattle.std.specs.Global.{Vec}
use Rattle.fed_rules.specs.declared.commands.Stamped.{Stamped}
use Rattle.fed_rules.specs.declared.messages.FromSite.{FromSite}
use Rattle.fed_rules.specs.Policies.{Policy}
use Rattle.fed_messages.specs.declared.Envelope.{Envelope}
use Rattle.journal_disk.specs.Disk.{Seen}
use Rattle.global_manager.specs.declared.manager.GlobalManager.{GlobalManager}
use Rattle.global_manager.specs.Stands.{Stands}
use Rattle.scripted_link.specs.Rings.{Wire}
use Rattle.fed_hosts.specs.declared.coord_actor.CoordActor.{CoordActor}
use Rattle.fed_hosts.specs.declared.coord_actor.CoordLineParts.{CoordLineParts}
use Rattle.fed_hosts.specs.declared.ports.Port.{Port}
use Rattle.fed_hosts.specs.CoordCarrying.{HasCoordArmed, IsCoordTold, coord_turn_of}
use Rattle.fed_hosts.specs.CoordKeeps.{IsCoordKept, IsCoordLogged, IsCoordPlanned}
use Rattle.host_laws.specs.CoordPlans.{CoordPlan}
use Rattle.fed_hosts.specs.CoordRooms.{HasCoordAdded, IsBesideCoord}
use Rattle.host_laws.specs.CoordTurns.{CoordTurn, coord_past_of}
use Rattle.host_laws.specs.Plans.{most_lines}
use Rattle.fed_hosts.specs.Ports.{AreSamePorts}
use Rattle.host_laws.specs.Turns.{is_trip}
use Rattle.fed_hosts.proofs.CoordAdding.{coord_logged_more, ports_planned, posted_beside}
use Rattle.fed_hosts.proofs.CoordSame.{coord_kept_same}

module _ {P D : Type 0} (test : P → Policy) (tells : Bool) (seen : Seen) (plan : CoordPlan) (turns : List CoordTurn) where
  -- what the outlets move changes nothing that is kept
  coord_flushed : (lines : List Stamped) (actor : CoordActor P D) (ports : Vec Port) → AreSamePorts actor.ports.items ports.items → HasCoordArmed test tells seen plan turns lines actor
      → HasCoordArmed test tells seen plan turns lines (record actor { ports = ports })
  coord_flushed lines actor ports same h = record {
    more = h.more;
    arming = h.arming;
    is_arming = h.is_arming;
    lines = h.lines;
    kept = coord_kept_same actor (record actor { ports = ports }) (record { manager = refl; disk = refl; ports = same; stops = refl; armed = refl; lines = refl; last = refl }) plan h.more h.kept;
    stood = h.stood;
    took = h.took;
  }

module _ {P D : Type 0} (test : P → Policy) (tells : Bool) (seen : Seen) (rings : List Wire) (plan : CoordPlan) (turns : List CoordTurn) (told : CoordLineParts) (took : Option (Envelope FromSite)) where
  pub coord_carried : (old mid armed : CoordActor P D) (ports : Vec Port) → IsCoordKept plan turns old → length turns < most_lines → IsCoordTold plan turns told took → is_trip told.command ≡ false
      → IsCoordPlanned rings plan old.ports.items → Stands test tells old.manager seen plan.terms plan.programs (coord_past_of plan (coord_turn_of old told took ∷ turns))
      → HasCoordAdded old mid told → IsBesideCoord old mid
      → ((more : List CoordTurn) → IsCoordLogged plan more mid → 1 ≤ length more → IsCoordPlanned rings plan mid.ports.items → Stands test tells mid.manager seen plan.terms plan.programs (coord_past_of plan more)
      → HasCoordArmed test tells seen plan more mid.lines.items armed)
      → AreSamePorts armed.ports.items ports.items
      → HasCoordArmed test tells seen plan (coord_turn_of old told took ∷ turns) (old.lines.items ++ (coord_turn_of old told took).line ∷ []) (record armed { ports = ports })
  coord_carried old mid armed ports kept less is untripped planned stood added beside arms same =
      let turn = coord_turn_of old told took in
      let count : mid.armed ≡ cond (is_trip told.command) (suc old.armed) old.armed = beside.armed ∙ ap (λ (b : Bool). cond b (suc old.armed) old.armed) (sym untripped) in
      let count' = count ∙ ap (λ (n : ℕ). cond (is_trip told.command) (suc n) n) kept.logged.armed in
      let logged = coord_logged_more rings plan turns told took old mid kept.logged is planned (untripped ∙ sym (kept.settled less)) less added beside.stops count' in
      let planned' = ports_planned rings plan old.ports.items mid.ports.items (posted_beside told.sends _ old.ports.items mid.ports.items added.ports) planned in
      let stood' = subst (λ (m : GlobalManager P). Stands test tells m seen plan.terms plan.programs (coord_past_of plan (turn ∷ turns))) (sym beside.manager) stood in
      let h = arms (turn ∷ turns) logged (omega arith) planned' stood' in
      coord_flushed test tells seen plan (turn ∷ turns) (old.lines.items ++ turn.line ∷ []) armed ports same
      (subst (λ (ls : List Stamped). HasCoordArmed test tells seen plan (turn ∷ turns) ls armed) added.lines h)
