-- What is seen of a turn of the coordinator's host, from what is seen of its parts.
use Rattle.std.proofs.Common.{◌≡◌, ◌==◌, ℕ, ◌+◌, Bool, true, false, cond, Some, None, List, [], ◌∷◌, ◌++◌, length, slice_get, append-nil, refl, sym, ap, ◌∙◌, subst, arith}
use Rattle.std.specs.Global.{Vec}
use Rattle.std.specs.Prelude.{option_to_list}
use Rattle.std.proofs.lemmas.Option.{slice_get_within, same_Some}
use Rattle.mdb_base.specs.declared.names.SiteId.{SiteId}
use Rattle.mdb_base.proofs.ForCallers.{length-map, made_of}
use Rattle.presumptions.specs.declared.Participant.{Participant}
use Rattle.fed_rules.specs.Policies.{Policy}
use Rattle.fed_messages.specs.declared.Packet.{Packet}
use Rattle.journal_disk.specs.Disk.{Seen}
use Rattle.scripted_link.specs.Inlets.{empty_count, taken}
use Rattle.scripted_link.specs.Rings.{Wire}
use Rattle.fed_hosts.specs.declared.coord_actor.CoordActor.{CoordActor}
use Rattle.fed_hosts.specs.declared.ports.Port.{Port}
use Rattle.fed_hosts.specs.declared.rounds.Arrived.{Arrived}
use Rattle.host_laws.specs.CoordHearing.{HasHeardFrom}
use Rattle.fed_hosts.specs.CoordKeeps.{CoordKeeps}
use Rattle.host_laws.specs.CoordPlans.{CoordPlan}
use Rattle.fed_hosts.specs.CoordRooms.{IsSameCoord}
use Rattle.fed_hosts.specs.CoordTurns.{HavePassed, HaveTaken, HearsFrom, HearsNothing, TakesFrom}
use Rattle.host_laws.specs.CoordTurns.{took_from}
use Rattle.fed_hosts.specs.CoordViews.{CoordView, IsCoordSeen, coord_view_of}
use Rattle.fed_hosts.specs.Ports.{AreSamePorts, EachBecomes, empties_of, tooks_of}
use Rattle.fed_hosts.specs.Rounds.{ArePolled, ArePutBack, HaveGivenNone, IsPolled, arrived_at}
use Rattle.fed_hosts.specs.Turns.{IsCounted}
use Rattle.fed_hosts.proofs.Changes.{becomes_into, becomes_map, becomes_mapped}
use Rattle.fed_hosts.proofs.CoordHeard.{HasReturned, all_returned}
use Rattle.fed_hosts.proofs.CoordSame.{coord_view_from, same_beside, tooks_beside}
use Rattle.fed_hosts.proofs.Views.{counted_once}

-- only the counts of the inlets changed
pub coord_same_but : (a b : CoordView) → a ≡ b → a ≡ record b { empties = a.empties }
coord_same_but a b same =
    coord_view_from a (record b { empties = a.empties }) (ap (λ (v : CoordView). v.lines) same) (ap (λ (v : CoordView). v.tooks) same) refl (ap (λ (v : CoordView). v.first) same) (ap (λ (v : CoordView). v.failed) same)

took_once : (test : Bool) (before : List Packet) (packet : Packet) → before ++ option_to_list (cond test (Some packet) None) ≡ cond test (before ++ packet ∷ []) before
took_once true before packet = refl
took_once false before packet = append-nil before

-- one packet was taken
pub taken_one : (old new : List Port) (arrived : Arrived) → ArePolled (Some arrived) old new → HaveTaken arrived.place arrived.packet (tooks_of old) (tooks_of new)
taken_one old new arrived polled =
    becomes_mapped (λ (port : Port). taken port.ends.inlet) (λ other before after. after ≡ cond (other == arrived.place) (before ++ arrived.packet ∷ []) before) old new
    (becomes_into (λ place a b. IsPolled (arrived_at (Some arrived) place) a b) (λ place a b. taken b.ends.inlet ≡ cond (place == arrived.place) (taken a.ends.inlet ++ arrived.packet ∷ []) (taken a.ends.inlet)) old new
    (λ place a b is. is.took ∙ took_once (place == arrived.place) (taken a.ends.inlet) arrived.packet) polled)

-- what is seen where a packet was heard, from before room was made
pub hears_from : (plan : CoordPlan) (ports place next : ℕ) (packet : Packet) (old ready heard : CoordView) (tooks : List (List Packet)) (empties : List ℕ) (made : Bool) → ready ≡ old
    → heard ≡ record ready { lines = heard.lines; tooks = tooks; empties = empties } → ports ≡ length plan.terms.protocols → TakesFrom plan place packet ready.lines heard.lines made → HaveTaken place packet ready.tooks tooks
    → HavePassed ports ready.first place ready.empties empties → next ≡ place + 1 → HearsFrom plan old (record heard { first = next }) made
hears_from plan ports place next packet old ready heard tooks empties made same beside count takes took passed behind =
    subst (λ (v : CoordView). HearsFrom plan v (record heard { first = next }) made) same
    (record {
      place = place;
      packet = packet;
      takes = takes;
      took = subst (λ (ps : List (List Packet)). HaveTaken place packet ready.tooks ps) (sym (ap (λ (v : CoordView). v.tooks) beside)) took;
      passed = subst (λ (n : ℕ). HavePassed n ready.first place ready.empties heard.empties) count
          (subst (λ (ns : List ℕ). HavePassed ports ready.first place ready.empties ns) (sym (ap (λ (v : CoordView). v.empties) beside)) passed);
      first = behind;
      failed = ap (λ (v : CoordView). v.failed) beside;
    })

-- once round, each inlet counts that it gave none
round_counted : (old new : List Port) → length new ≡ length old → HaveGivenNone 0 (length old) old new → EachBecomes (λ place before after. IsCounted before after) (empties_of old) (empties_of new)
round_counted old new count given =
    becomes_mapped (λ (port : Port). empty_count port.ends.inlet) (λ place before after. IsCounted before after) old new (record {
      count = count;
      each = λ place a b was is. counted_once (empty_count a.ends.inlet) (empty_count a.ends.inlet) (empty_count b.ends.inlet) refl (given.asked place a b (omega arith) (slice_get_within old place a was) was is);
    })

-- none gave a packet
pub tooks_none : (old new : List Port) → ArePolled None old new → tooks_of new ≡ tooks_of old
tooks_none old new polled = becomes_map (λ place a b. IsPolled (arrived_at None place) a b) (λ (port : Port). taken port.ends.inlet) old new (λ place a b is. is.took ∙ append-nil _) polled

-- what is seen where nothing was heard, from before room was made
pub hears_nothing : {P D : Type 0} (old : CoordView) (ready : CoordActor P D) (ports : Vec Port) → coord_view_of ready false ≡ old → ArePolled None ready.ports.items ports.items
    → HaveGivenNone 0 (length ready.ports.items) ready.ports.items ports.items → HearsNothing old (coord_view_of (record ready { ports = ports }) false) false
hears_nothing old ready ports same polled given =
    subst (λ (v : CoordView). HearsNothing v (coord_view_of (record ready { ports = ports }) false) false) same
    (record {
      none = record { lines = refl; says = refl };
      counted = round_counted ready.ports.items ports.items polled.count given;
      others = coord_view_from (coord_view_of (record ready { ports = ports }) false) (record (coord_view_of ready false) { empties = empties_of ports.items }) refl (tooks_none ready.ports.items ports.items polled) refl refl refl;
    })

-- where it was put back, all packets that were taken are those from before
tooks_back : (old ready mid new : List Port) (arrived : Arrived) → AreSamePorts old ready → ArePolled (Some arrived) ready mid → ArePutBack arrived mid new → tooks_of new ≡ tooks_of old
tooks_back old ready mid new arrived same polled back =
    becomes_map (λ place a c. HasReturned a c) (λ (port : Port). taken port.ends.inlet) ready new (λ place a c is. is.took) (all_returned arrived ready mid new polled back) ∙ tooks_beside old ready (same_beside old ready same)

-- what is seen then, from before room was made
pub put_back_from : {P D : Type 0} (old ready new : CoordActor P D) (mid : List Port) (arrived : Arrived) → IsSameCoord old ready → ready.first ≡ old.first → ArePolled (Some arrived) ready.ports.items mid
    → new.lines.items ≡ ready.lines.items → ArePutBack arrived mid new.ports.items → new.first ≡ ready.first → coord_view_of new false ≡ record (coord_view_of old false) { empties = empties_of new.ports.items }
put_back_from old ready new mid arrived same begin polled lines back first =
    coord_view_from (coord_view_of new false) (record (coord_view_of old false) { empties = empties_of new.ports.items }) (lines ∙ same.lines)
    (tooks_back old.ports.items ready.ports.items mid new.ports.items arrived same.ports polled back) refl (first ∙ begin) refl

module _ {P D : Type 0} (test : P → Policy) (tells : Bool) (seen : D → Seen) (plan : CoordPlan) (rings : List Wire) where
  -- what is seen of the host is of the lines that it keeps
  pub coord_keeps_seen : (failed shown : Bool) (actor : CoordActor P D) (k : CoordKeeps test tells seen plan rings failed actor) → IsCoordSeen plan k.turns (coord_view_of actor shown)
  coord_keeps_seen failed shown actor k = record {
    right = k.kept.logged.right;
    lines = k.kept.logged.lines;
    count = length-map (λ (port : Port). taken port.ends.inlet) actor.ports.items ∙ k.planned.count;
    counts = length-map (λ (port : Port). empty_count port.ends.inlet) actor.ports.items ∙ k.planned.count;
    heard = λ place member took at_member at_took. from place member took at_member (made_of (λ (port : Port). taken port.ends.inlet) actor.ports.items place took at_took);
  } where
    from : (place : ℕ) (member : Participant) (took : List Packet) → slice_get plan.terms.protocols place ≡ Some member
        → (port : Port) × (slice_get actor.ports.items place ≡ Some port) × (taken port.ends.inlet ≡ took) → HasHeardFrom took (took_from member.site k.turns)
    from place member took at_member (port, at_port, is) =
        let p = k.planned.each place port at_port in
        let same : p.member ≡ member = same_Some p.member member (sym p.at ∙ at_member) in
        let site : port.ends.site ≡ member.site = p.site ∙ ap (λ (m : Participant). m.site) same in
        subst (λ (ps : List Packet). HasHeardFrom ps (took_from member.site k.turns)) is
        (subst (λ (s : SiteId). HasHeardFrom (taken port.ends.inlet) (took_from s k.turns)) site (k.heard place port at_port))
