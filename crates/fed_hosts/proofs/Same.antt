-- What stays where room alone changed, or what a step leaves alone.
use Rattle.std.proofs.Common.{◌≡◌, Bool, Some, List, refl, sym, ap, ◌∙◌}
use Rattle.scripted_link.specs.declared.inlet.Inlet.{Inlet}
use Rattle.scripted_link.specs.Inlets.{empty_count, inlet_ring, taken}
use Rattle.scripted_link.specs.Outlets.{outlet_wire}
use Rattle.scripted_link.specs.Rings.{Ring, Wire}
use Rattle.fed_hosts.specs.declared.ends.HostEnds.{HostEnds}
use Rattle.fed_hosts.specs.declared.site_actor.SiteActor.{SiteActor}
use Rattle.fed_hosts.specs.Keeps.{IsKept, IsPlanned}
use Rattle.host_laws.specs.Plans.{SitePlan}
use Rattle.fed_hosts.specs.Rooms.{IsSame}
use Rattle.host_laws.specs.Turns.{SiteTurn}
use Rattle.fed_hosts.specs.Views.{view_of}
use Rattle.fed_hosts.proofs.Views.{view_from}

pub planned_same : (sites : List SitePlan) (rings : List Wire) (plan : SitePlan) (old new : HostEnds) → new.site ≡ old.site → inlet_ring new.inlet ≡ inlet_ring old.inlet
    → outlet_wire new.outlet ≡ outlet_wire old.outlet → IsPlanned sites rings plan old → IsPlanned sites rings plan new
planned_same sites rings plan old new site inlet outlet p = record {
  place = p.place;
  at = p.at;
  site = site ∙ p.site;
  to = p.to ∙ ap (λ (r : Ring). Some r) (sym inlet);
  from = p.from ∙ ap (λ (w : Wire). Some w) (sym outlet);
  stops = p.stops;
}

module _ {E D : Type 0} (old new : SiteActor E D) (same : IsSame old new) where
  pub kept_same : (plan : SitePlan) (turns : List SiteTurn) → IsKept plan turns old → IsKept plan turns new
  kept_same plan turns k =
      let l = k.logged in
      record {
        logged = record {
          right = l.right;
          lines = same.lines ∙ l.lines;
          sent = same.sent ∙ l.sent;
          offers = same.offers ∙ l.offers;
          stops = ap (λ s. s.items) same.stops ∙ l.stops;
          armed = same.armed ∙ l.armed;
          last = same.last ∙ l.last;
          low = l.low;
          short = l.short;
          few_sent = l.few_sent;
          counted = l.counted;
          few = l.few;
        };
        settled = k.settled;
      }

  pub planned_kept : (sites : List SitePlan) (rings : List Wire) (plan : SitePlan) → IsPlanned sites rings plan old.ends → IsPlanned sites rings plan new.ends
  planned_kept sites rings plan p = planned_same sites rings plan old.ends new.ends same.site (ap (λ (i : Inlet). inlet_ring i) same.inlet) same.wire p

  pub view_same : new.idle ≡ old.idle → (failed : Bool) → view_of new failed ≡ view_of old failed
  view_same idle failed =
      view_from (view_of new failed) (view_of old failed) same.site same.lines (ap (λ (i : Inlet). taken i) same.inlet) (ap (λ (i : Inlet). empty_count i) same.inlet) idle refl

pub same_self : {E D : Type 0} (actor : SiteActor E D) → IsSame actor actor
same_self actor = record { dbms = refl; disk = refl; site = refl; inlet = refl; wire = refl; offers = refl; waiting = refl; free = refl; stops = refl; armed = refl; lines = refl; sent = refl; last = refl }
