-- A line that is added to right ones of the coordinator is right, and what is kept beside the lines stays theirs.
use Rattle.std.proofs.Common.{◌≡◌, ℕ, suc, ◌+◌, ◌≤◌, ◌<◌, ◌^◌, Bool, true, false, cond, Option, Some, List, [], ◌∷◌, ◌++◌, length, map, slice_get, refl, sym, ap, ap₂, ◌∙◌, subst, arith}
use Rattle.std.specs.Prelude.{option_to_list}
use Rattle.std.proofs.lemmas.Option.{same_Some}
use Rattle.mdb_base.specs.declared.names.SiteId.{SiteId}
use Rattle.mdb_base.specs.declared.names.Tx.{Tx}
use Rattle.mdb_base.specs.Words.{found, map_some, with_some}
use Rattle.mdb_base.proofs.ForCallers.{length-append, length-option, reverse_more}
use Rattle.presumptions.specs.declared.Participant.{Participant}
use Rattle.fed_rules.specs.declared.commands.Place.{Place}
use Rattle.fed_rules.specs.declared.messages.FromSite.{FromSite}
use Rattle.fed_rules.specs.declared.messages.Sent.{Sent}
use Rattle.fed_rules.specs.declared.messages.ToSite.{ToSite}
use Rattle.fed_rules.specs.CoordPast.{attempts_of}
use Rattle.fed_rules.specs.SitePast.{begins_tx}
use Rattle.fed_messages.specs.declared.Envelope.{Envelope}
use Rattle.fed_messages.specs.declared.Packet.{Packet}
use Rattle.session_routes.specs.Posting.{message_to}
use Rattle.scripted_link.specs.declared.inlet.Inlet.{Inlet}
use Rattle.scripted_link.specs.Inlets.{inlet_ring}
use Rattle.scripted_link.specs.Outlets.{outlet_wire}
use Rattle.scripted_link.specs.Rings.{Ring, Wire}
use Rattle.fed_hosts.specs.declared.coord_actor.CoordActor.{CoordActor}
use Rattle.fed_hosts.specs.declared.coord_actor.CoordLineParts.{CoordLineParts}
use Rattle.fed_hosts.specs.declared.ports.Port.{Port}
use Rattle.fed_hosts.specs.CoordCarrying.{IsCoordTold, coord_turn_of}
use Rattle.host_laws.specs.CoordHistory.{IsCoordNext}
use Rattle.fed_hosts.specs.CoordKeeps.{IsCoordLogged, IsCoordPlanned, IsPortLogged, IsPortPlanned}
use Rattle.host_laws.specs.CoordLines.{packets_to}
use Rattle.host_laws.specs.CoordPlans.{CoordPlan}
use Rattle.fed_hosts.specs.CoordRooms.{HasCoordAdded}
use Rattle.host_laws.specs.CoordTurns.{CoordTurn, coord_begun_in, coord_is_due, coord_last_stamp, coord_past_of, coord_sends_at, coord_trips_of, offered_to, place_sent, places_sent, sent_to}
use Rattle.fed_hosts.specs.Keeps.{most_begun}
use Rattle.host_laws.specs.Plans.{most_lines}
use Rattle.host_laws.specs.Lines.{next_stamp, stamp_of}
use Rattle.fed_hosts.specs.Ports.{AreBesidePorts, ArePosted, EachBecomes, IsBesidePort, IsPosted, place_at, places_at}
use Rattle.host_laws.specs.Turns.{is_trip}
use Rattle.fed_hosts.proofs.Changes.{became, becomes_into}
use Rattle.fed_hosts.proofs.Words.{max_below}

-- the same is found in two lists whose items at each place give the same
found_along : {A B C : Type 0} (f : A → Option C) (g : B → Option C) (xs : List A) (ys : List B) → length xs ≡ length ys
    → ((place : ℕ) (x : A) (y : B) → slice_get xs place ≡ Some x → slice_get ys place ≡ Some y → f x ≡ g y) → found f xs ≡ found g ys
found_along f g [] [] count same = refl
found_along f g [] (y ∷ ys) count same = absurd (omega (arith, count))
found_along f g (x ∷ xs) [] count same = absurd (omega (arith, count))
found_along {A} {B} {C} f g (x ∷ xs) (y ∷ ys) count same =
    ap₂ (λ (o : Option C) (cs : List C). with_some o cs) (same 0 x y refl refl) (found_along f g xs ys (omega (arith, count)) (λ place a b ea eb. same (suc place) a b ea eb))

-- the places of what is sent to the ports are those of the rules
pub places_are : (rings : List Wire) (plan : CoordPlan) (turns : List CoordTurn) (ports : List Port) (sends : List Sent) → IsCoordPlanned rings plan ports
    → ((place : ℕ) (port : Port) → slice_get ports place ≡ Some port → IsPortLogged plan turns port) → places_at sends ports ≡ places_sent plan turns sends
places_are rings plan turns ports sends planned logged =
    found_along (place_at sends) (λ (member : Participant). place_sent plan turns sends member.site) ports plan.terms.protocols planned.count
    (λ place port member at_port at_member. at_place place port member at_port at_member)
  where
    at_place : (place : ℕ) (port : Port) (member : Participant) → slice_get ports place ≡ Some port → slice_get plan.terms.protocols place ≡ Some member
        → place_at sends port ≡ place_sent plan turns sends member.site
    at_place place port member at_port at_member =
        let p = planned.each place port at_port in
        let same : p.member ≡ member = same_Some p.member member (sym p.at ∙ at_member) in
        let site : port.ends.site ≡ member.site = p.site ∙ ap (λ (m : Participant). m.site) same in
        let sent = ap (λ (ms : List ToSite). length ms) (logged place port at_port).sent in
        ap (λ (n : ℕ). map_some (λ (message : ToSite). let place : Place = record { site = port.ends.site; place = n } in place) (message_to port.ends.site sends)) sent
        ∙ ap (λ (s : SiteId). place_sent plan turns sends s) site

-- the port keeps its site and its rings
pub record KeepsRings (old new : Port) : Type 0 where
  pub site : new.ends.site ≡ old.ends.site
  pub ring : inlet_ring new.ends.inlet ≡ inlet_ring old.ends.inlet
  pub wire : outlet_wire new.ends.outlet ≡ outlet_wire old.ends.outlet

port_planned : (rings : List Wire) (plan : CoordPlan) (place : ℕ) (old new : Port) → KeepsRings old new → IsPortPlanned rings plan place old → IsPortPlanned rings plan place new
port_planned rings plan place old new keeps p = record {
  member = p.member;
  at = p.at;
  site = keeps.site ∙ p.site;
  to = p.to ∙ ap (λ (w : Wire). Some w) (sym keeps.wire);
  from = p.from ∙ ap (λ (r : Ring). Some r) (sym keeps.ring);
}

-- so it is planned as before
pub rings_planned : (rings : List Wire) (plan : CoordPlan) (old new : List Port) → EachBecomes (λ place a b. KeepsRings a b) old new → IsCoordPlanned rings plan old → IsCoordPlanned rings plan new
rings_planned rings plan old new keep p = record {
  count = keep.count ∙ p.count;
  each = λ place port at. from place port (became (λ place a b. KeepsRings a b) old new keep place port at);
  stops = p.stops;
} where
  from : (place : ℕ) (port : Port) → (before : Port) × (slice_get old place ≡ Some before) × KeepsRings before port → IsPortPlanned rings plan place port
  from place port (before, was, is) = port_planned rings plan place before port is (p.each place before was)

pub ports_planned : (rings : List Wire) (plan : CoordPlan) (old new : List Port) → AreBesidePorts old new → IsCoordPlanned rings plan old → IsCoordPlanned rings plan new
ports_planned rings plan old new beside p =
    rings_planned rings plan old new (becomes_into (λ place a b. IsBesidePort a b) (λ place a b. KeepsRings a b) old new (λ place a b is. record { site = is.site; ring = ap (λ (i : Inlet). inlet_ring i) is.inlet; wire = is.wire }) beside) p

pub posted_beside : (sends : List Sent) (stamp : ℕ) (old new : List Port) → ArePosted sends stamp old new → AreBesidePorts old new
posted_beside sends stamp old new posted = becomes_into (λ place a b. IsPosted sends stamp a b) (λ place a b. IsBesidePort a b) old new (λ place a b is. record { site = is.site; inlet = is.inlet; wire = is.wire }) posted

-- what the ports were offered, and what is kept of it, goes on with the line
port_more : (plan : CoordPlan) (turns : List CoordTurn) (turn : CoordTurn) (sends : List Sent) (a b : Port) → sends ≡ coord_sends_at plan turns turn → IsPortLogged plan turns a → IsPosted sends turn.line.stamp a b
    → IsPortLogged plan (turn ∷ turns) b
port_more plan turns turn sends a b is logged posted =
    let more = coord_sends_at plan turns turn in
    let sent : a.to.items ≡ sent_to plan b.ends.site turns = logged.sent ∙ ap (λ (s : SiteId). sent_to plan s turns) (sym posted.site) in
    let message = ap₂ (λ (s : SiteId) (m : List Sent). option_to_list (message_to s m)) (sym posted.site) is in
    record {
      sent = posted.sent ∙ ap₂ (λ (xs ys : List ToSite). xs ++ ys) sent message;
      offers = posted.offers
          ∙ ap₂ (λ (xs ys : List Packet). xs ++ ys) (logged.offers ∙ ap (λ (s : SiteId). offered_to plan s turns) (sym posted.site))
          (ap₂ (λ (n : ℕ) (ms : List ToSite). packets_to n turn.line.stamp ms) (ap (λ (ms : List ToSite). length ms) sent) message);
    }

module _ {P D : Type 0} (rings : List Wire) (plan : CoordPlan) (turns : List CoordTurn) (told : CoordLineParts) (took : Option (Envelope FromSite)) (old new : CoordActor P D)
    (logged : IsCoordLogged plan turns old) (is : IsCoordTold plan turns told took) (planned : IsCoordPlanned rings plan old.ports.items) (arms : is_trip told.command ≡ coord_is_due plan turns)
    (less : length turns < most_lines) (added : HasCoordAdded old new told) where
  stamp_is : next_stamp old.last told.after ≡ next_stamp (coord_last_stamp turns) (stamp_of took)
  stamp_is = ap₂ next_stamp logged.last is.after

  sends_are : told.sends ≡ coord_sends_at plan turns (coord_turn_of old told took)
  sends_are = is.sends

  next_line : IsCoordNext plan turns (coord_turn_of old told took)
  next_line = record {
    command = is.command;
    answer = is.answer;
    sends = places_are rings plan turns old.ports.items told.sends planned logged.ports ∙ ap (λ (m : List Sent). places_sent plan turns m) sends_are;
    stamp = stamp_is;
    arms = arms;
  }

  few_more : (site : SiteId) → length (sent_to plan site (coord_turn_of old told took ∷ turns)) ≤ suc (length turns)
  few_more site =
      let message = message_to site (coord_sends_at plan turns (coord_turn_of old told took)) in
      let one = length-option message in
      let few = logged.few_sent site in
      omega (arith, one, few, length-append (sent_to plan site turns) (option_to_list message))

  low_more : next_stamp old.last told.after ≤ 2 ^ 62 + suc (length turns)
  low_more =
      let low : old.last ≤ 2 ^ 62 + length turns = subst (λ (n : ℕ). n ≤ 2 ^ 62 + length turns) (sym logged.last) logged.low in
      let small : told.after < 2 ^ 62 = subst (λ (n : ℕ). n < 2 ^ 62) (sym is.after) is.small in
      let both = max_below old.last told.after (2 ^ 62 + length turns) low (omega arith) in
      omega (arith, both)

  counted_more : (tx : Tx) → attempts_of (coord_past_of plan (coord_turn_of old told took ∷ turns)) tx ≡ coord_begun_in tx (coord_turn_of old told took ∷ turns)
  counted_more tx = is.counted tx ∙ ap (λ (n : ℕ). cond (begins_tx tx told.answer) (suc n) n) (logged.counted tx)

  begun_more : (tx : Tx) → coord_begun_in tx (coord_turn_of old told took ∷ turns) ≤ most_begun
  begun_more tx = from (begins_tx tx told.answer) refl where
    from : (b : Bool) → begins_tx tx told.answer ≡ b → cond b (suc (coord_begun_in tx turns)) (coord_begun_in tx turns) ≤ most_begun
    from true e = let below = subst (λ (n : ℕ). n < most_begun) (logged.counted tx) (is.few tx e) in omega (arith, below)
    from false e = logged.few tx

  ports_more : (place : ℕ) (port : Port) → slice_get new.ports.items place ≡ Some port → IsPortLogged plan (coord_turn_of old told took ∷ turns) port
  ports_more place port at = from (became (λ place a b. IsPosted told.sends (next_stamp old.last told.after) a b) old.ports.items new.ports.items added.ports place port at) where
    from : (before : Port) × (slice_get old.ports.items place ≡ Some before) × IsPosted told.sends (next_stamp old.last told.after) before port → IsPortLogged plan (coord_turn_of old told took ∷ turns) port
    from (before, was, posted) = port_more plan turns (coord_turn_of old told took) told.sends before port sends_are (logged.ports place before was) posted

  pub coord_logged_more : new.stops ≡ old.stops → new.armed ≡ coord_trips_of (coord_turn_of old told took ∷ turns) → IsCoordLogged plan (coord_turn_of old told took ∷ turns) new
  coord_logged_more stops armed = record {
    right = (next_line, logged.right);
    lines = added.lines ∙ ap (λ xs. xs ++ (coord_turn_of old told took).line ∷ []) logged.lines ∙ sym (reverse_more (coord_turn_of old told took).line (map (λ (t : CoordTurn). t.line) turns));
    ports = ports_more;
    stops = ap (λ s. s.items) stops ∙ logged.stops;
    armed = armed;
    last = added.last;
    low = low_more;
    short = omega (arith, less);
    few_sent = few_more;
    counted = counted_more;
    few = begun_more;
  }

-- a line that was pushed with what it sends
pub coord_added : {P D : Type 0} (old new : CoordActor P D) (told : CoordLineParts) (stamp : ℕ) (sends : List Sent) (places : List Place) → stamp ≡ next_stamp old.last told.after
    → new.lines.items ≡ old.lines.items ++ record { stamp = stamp; line = record { command = told.command; answer = told.answer; sends = places } } ∷ [] → places ≡ places_at sends old.ports.items → sends ≡ told.sends
    → ArePosted sends stamp old.ports.items new.ports.items → new.last ≡ stamp → HasCoordAdded old new told
coord_added {P} {D} old new told stamp sends places stamp_is lines places_are sends_are posted last = record {
  lines = lines
      ∙ ap (λ (n : ℕ). old.lines.items ++ record { stamp = n; line = record { command = told.command; answer = told.answer; sends = places } } ∷ []) stamp_is
      ∙ ap (λ (ps : List Place). old.lines.items ++ record { stamp = next_stamp old.last told.after; line = record { command = told.command; answer = told.answer; sends = ps } } ∷ [])
      (places_are ∙ ap (λ (s : List Sent). places_at s old.ports.items) sends_are);
  ports = subst (λ (n : ℕ). ArePosted told.sends n old.ports.items new.ports.items) stamp_is (subst (λ (s : List Sent). ArePosted s stamp old.ports.items new.ports.items) sends_are posted);
  last = last ∙ stamp_is;
}
