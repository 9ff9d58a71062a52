-- What stays of the coordinator's host where room alone changed, or what a step leaves alone.
use Rattle.std.proofs.Common.{◌≡◌, ◌<◌, ℕ, Bool, Some, List, length, slice_get, slice_set, refl, sym, ap, ap₂, ◌∙◌, subst}
use Rattle.std.specs.Global.{Vec}
use Rattle.mdb_base.specs.declared.names.SiteId.{SiteId}
use Rattle.fed_rules.specs.declared.commands.Stamped.{Stamped}
use Rattle.fed_messages.specs.declared.Packet.{Packet}
use Rattle.global_manager.specs.declared.manager.GlobalManager.{GlobalManager}
use Rattle.scripted_link.specs.declared.inlet.Inlet.{Inlet}
use Rattle.scripted_link.specs.Inlets.{empty_count, taken}
use Rattle.scripted_link.specs.Outlets.{HasMovedOn, offered}
use Rattle.fed_hosts.specs.declared.coord_actor.CoordActor.{CoordActor}
use Rattle.fed_hosts.specs.declared.ports.Port.{Port}
use Rattle.fed_hosts.specs.CoordKeeps.{HaveHeard, IsCoordKept, IsPortLogged}
use Rattle.host_laws.specs.CoordHearing.{HasHeardFrom}
use Rattle.host_laws.specs.CoordPlans.{CoordPlan}
use Rattle.fed_hosts.specs.CoordRooms.{IsSameCoord}
use Rattle.host_laws.specs.CoordTurns.{CoordTurn, offered_to, sent_to, took_from}
use Rattle.fed_hosts.specs.CoordViews.{CoordView, coord_view_of}
use Rattle.fed_hosts.specs.Ports.{AreBesidePorts, AreSamePorts, EachBecomes, HaveMovedOn, IsBesidePort, IsSamePort, empties_of, tooks_of}
use Rattle.fed_hosts.proofs.Changes.{became, becomes_into, becomes_map, becomes_self, becomes_through, changed_one}

-- the same was sent to the site of the port, and offered
pub record HasSentSame (old new : Port) : Type 0 where
  pub site : new.ends.site ≡ old.ends.site
  pub offers : offered new.ends.outlet ≡ offered old.ends.outlet
  pub sent : new.to.items ≡ old.to.items

port_same : (plan : CoordPlan) (turns : List CoordTurn) (old new : Port) → HasSentSame old new → IsPortLogged plan turns old → IsPortLogged plan turns new
port_same plan turns old new same l = record {
  sent = same.sent ∙ l.sent ∙ ap (λ (s : SiteId). sent_to plan s turns) (sym same.site);
  offers = same.offers ∙ l.offers ∙ ap (λ (s : SiteId). offered_to plan s turns) (sym same.site);
}

pub ports_same : (plan : CoordPlan) (turns : List CoordTurn) (old new : List Port) → EachBecomes (λ place a b. HasSentSame a b) old new → ((place : ℕ) (port : Port) → slice_get old place ≡ Some port → IsPortLogged plan turns port)
    → (place : ℕ) (port : Port) → slice_get new place ≡ Some port → IsPortLogged plan turns port
ports_same plan turns old new same logged place port at = from (became (λ place a b. HasSentSame a b) old new same place port at) where
  from : (before : Port) × (slice_get old place ≡ Some before) × HasSentSame before port → IsPortLogged plan turns port
  from (before, was, is) = port_same plan turns before port is (logged place before was)

same_sent : (old new : List Port) → AreSamePorts old new → EachBecomes (λ place a b. HasSentSame a b) old new
same_sent old new same = becomes_into (λ place a b. IsSamePort a b) (λ place a b. HasSentSame a b) old new (λ place a b is. record { site = is.site; offers = is.offers; sent = is.sent }) same

pub same_beside : (old new : List Port) → AreSamePorts old new → AreBesidePorts old new
same_beside old new same = becomes_into (λ place a b. IsSamePort a b) (λ place a b. IsBesidePort a b) old new (λ place a b is. record { site = is.site; inlet = is.inlet; wire = is.wire }) same

-- what had moved on still has
pub moved_ports : (R : ℕ → Port → Port → Type 0) (old new : List Port) → ((place : ℕ) (a b : Port) → R place a b → HasMovedOn a.ends.outlet → HasMovedOn b.ends.outlet) → EachBecomes R old new → HaveMovedOn old → HaveMovedOn new
moved_ports R old new keeps become had place port at = from (became R old new become place port at) where
  from : (before : Port) × (slice_get old place ≡ Some before) × R place before port → HasMovedOn port.ends.outlet
  from (before, was, is) = keeps place before port is (had place before was)

pub moved_same_ports : (old new : List Port) → AreSamePorts old new → HaveMovedOn old → HaveMovedOn new
moved_same_ports old new same had = moved_ports (λ place a b. IsSamePort a b) old new (λ place a b is. is.moved_on) same had

pub beside_through : (old mid new : List Port) → AreBesidePorts old mid → AreBesidePorts mid new → AreBesidePorts old new
beside_through old mid new first second =
    becomes_through (λ place a b. IsBesidePort a b) (λ place a b. IsBesidePort a b) (λ place a b. IsBesidePort a b) old mid new (λ place a b c is next. record { site = next.site ∙ is.site; inlet = next.inlet ∙ is.inlet; wire = next.wire ∙ is.wire }) first second

pub same_ports : (ports : List Port) → AreSamePorts ports ports
same_ports ports = becomes_self (λ place a b. IsSamePort a b) ports (λ place port at. record { site = refl; inlet = refl; wire = refl; offers = refl; moved_on = λ h. h; sent = refl })

-- one port more that is the same
pub same_written : (old now : List Port) (place : ℕ) (before new : Port) → AreSamePorts old now → place < length now → slice_get now place ≡ Some before → IsSamePort before new → AreSamePorts old (slice_set now place new)
same_written old now place before new h within at is =
    becomes_through (λ p a b. IsSamePort a b) (λ p a b. IsSamePort a b) (λ p a b. IsSamePort a b) old now (slice_set now place new)
    (λ p a b c first second. record {
      site = second.site ∙ first.site;
      inlet = second.inlet ∙ first.inlet;
      wire = second.wire ∙ first.wire;
      offers = second.offers ∙ first.offers;
      moved_on = λ h. second.moved_on (first.moved_on h);
      sent = second.sent ∙ first.sent;
    }) h
    (changed_one (λ p a b. IsSamePort a b) now place before new within at is (λ p port apart was. record { site = refl; inlet = refl; wire = refl; offers = refl; moved_on = λ h. h; sent = refl }))

-- what was heard stays so beside the ports that took it
pub heard_beside : (turns : List CoordTurn) (old new : List Port) → AreBesidePorts old new → HaveHeard turns old → HaveHeard turns new
heard_beside turns old new beside heard place port at = from (became (λ place a b. IsBesidePort a b) old new beside place port at) where
  from : (before : Port) × (slice_get old place ≡ Some before) × IsBesidePort before port → HasHeardFrom (taken port.ends.inlet) (took_from port.ends.site turns)
  from (before, was, is) =
      subst (λ (s : SiteId). HasHeardFrom (taken port.ends.inlet) (took_from s turns)) (sym is.site)
      (subst (λ (i : Inlet). HasHeardFrom (taken i) (took_from before.ends.site turns)) (sym is.inlet) (heard place before was))

pub tooks_beside : (old new : List Port) → AreBesidePorts old new → tooks_of new ≡ tooks_of old
tooks_beside old new beside = becomes_map (λ place a b. IsBesidePort a b) (λ (port : Port). taken port.ends.inlet) old new (λ place a b is. ap (λ (i : Inlet). taken i) is.inlet) beside

pub empties_beside : (old new : List Port) → AreBesidePorts old new → empties_of new ≡ empties_of old
empties_beside old new beside = becomes_map (λ place a b. IsBesidePort a b) (λ (port : Port). empty_count port.ends.inlet) old new (λ place a b is. ap (λ (i : Inlet). empty_count i) is.inlet) beside

-- all of a view
pub coord_view_from : (a b : CoordView) → a.lines ≡ b.lines → a.tooks ≡ b.tooks → a.empties ≡ b.empties → a.first ≡ b.first → a.failed ≡ b.failed → a ≡ b
coord_view_from a b lines tooks empties first failed =
    ap₂ (λ (ls : List Stamped) (ps : List (List Packet)). let view : CoordView = record { lines = ls; tooks = ps; empties = a.empties; first = a.first; failed = a.failed } in view) lines tooks
    ∙ ap₂ (λ (ns : List ℕ) (n : ℕ). let view : CoordView = record { lines = b.lines; tooks = b.tooks; empties = ns; first = n; failed = a.failed } in view) empties first
    ∙ ap (λ (f : Bool). let view : CoordView = record { lines = b.lines; tooks = b.tooks; empties = b.empties; first = b.first; failed = f } in view) failed

module _ {P D : Type 0} (old new : CoordActor P D) (same : IsSameCoord old new) where
  pub coord_kept_same : (plan : CoordPlan) (turns : List CoordTurn) → IsCoordKept plan turns old → IsCoordKept plan turns new
  coord_kept_same plan turns k =
      let l = k.logged in
      record {
        logged = record {
          right = l.right;
          lines = same.lines ∙ l.lines;
          ports = ports_same plan turns old.ports.items new.ports.items (same_sent old.ports.items new.ports.items same.ports) l.ports;
          stops = ap (λ s. s.items) same.stops ∙ l.stops;
          armed = same.armed ∙ l.armed;
          last = same.last ∙ l.last;
          low = l.low;
          short = l.short;
          few_sent = l.few_sent;
          counted = l.counted;
          few = l.few;
        };
        settled = k.settled;
      }

  pub coord_view_same : new.first ≡ old.first → (failed : Bool) → coord_view_of new failed ≡ coord_view_of old failed
  coord_view_same first failed =
      let beside = same_beside old.ports.items new.ports.items same.ports in
      coord_view_from (coord_view_of new failed) (coord_view_of old failed) same.lines (tooks_beside old.ports.items new.ports.items beside) (empties_beside old.ports.items new.ports.items beside) first refl

-- the lines stay what they are whatever the ports become that have sent the same
pub coord_kept_ports : {P D : Type 0} (old : CoordActor P D) (ports : Vec Port) (plan : CoordPlan) (turns : List CoordTurn) → EachBecomes (λ place a b. HasSentSame a b) old.ports.items ports.items → IsCoordKept plan turns old
    → IsCoordKept plan turns (record old { ports = ports })
coord_kept_ports old ports plan turns same kept =
    let l = kept.logged in
    record {
      logged = record {
        right = l.right;
        lines = l.lines;
        ports = ports_same plan turns old.ports.items ports.items same l.ports;
        stops = l.stops;
        armed = l.armed;
        last = l.last;
        low = l.low;
        short = l.short;
        few_sent = l.few_sent;
        counted = l.counted;
        few = l.few;
      };
      settled = kept.settled;
    }

pub same_coord : {P D : Type 0} (actor : CoordActor P D) → IsSameCoord actor actor
same_coord actor = record { manager = refl; disk = refl; ports = same_ports actor.ports.items; stops = refl; armed = refl; lines = refl; last = refl }

-- the lines stay what they are whatever the coordinator and its disk become
pub coord_kept_for : {P D : Type 0} (old : CoordActor P D) (manager : GlobalManager P) (disk : D) (plan : CoordPlan) (turns : List CoordTurn) → IsCoordKept plan turns old
    → IsCoordKept plan turns (record old { manager = manager; disk = disk })
coord_kept_for old manager disk plan turns kept =
    let l = kept.logged in
    record {
      logged = record { right = l.right; lines = l.lines; ports = l.ports; stops = l.stops; armed = l.armed; last = l.last; low = l.low; short = l.short; few_sent = l.few_sent; counted = l.counted; few = l.few };
      settled = kept.settled;
    }
