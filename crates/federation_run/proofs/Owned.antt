-- What is left of a site is that of the site at its place.
use Rattle.std.proofs.Common.{◌≡◌, ℕ, ◌+◌, ◌*◌, ◌≤◌, ◌<◌, Bool, true, false, Option, Some, None, List, [], ◌∷◌, length, map, reverse, slice_get, refl, sym, ap, ◌∙◌, subst, arith}
use Rattle.std.specs.Prelude.{option_map}
use Rattle.mdb_base.specs.declared.names.SiteId.{SiteId}
use Rattle.mdb_base.specs.declared.names.Tx.{Tx}
use Rattle.mdb_base.specs.Rising.{IsRising}
use Rattle.mdb_base.specs.Words.{found, or_else}
use Rattle.mdb_base.proofs.ForCallers.{made_of, one_place}
use Rattle.fed_rules.specs.declared.commands.Stamped.{Stamped}
use Rattle.fed_rules.specs.declared.scenario.Scenario.{Scenario}
use Rattle.fed_rules.specs.Plans.{IsScenario}
use Rattle.fed_rules.specs.Scenarios.{home_of, sites}
use Rattle.fed_rules.specs.SiteRecords.{Home}
use Rattle.journal_disk.specs.Disk.{Seen}
use Rattle.any_engine.specs.Stands as Engines
use Rattle.local_dbms.specs.Stands as Dbms
use Rattle.scripted_link.specs.Inlets.{inlet_ring, returned, taken}
use Rattle.scripted_link.specs.Outlets.{offered, outlet_wire}
use Rattle.scripted_link.specs.Rings.{Ring, Wire}
use Rattle.fed_world.proofs.ForCallers.{declared_rise, home_at_place}
use Rattle.host_laws.specs.Hearing.{HasHeard}
use Rattle.host_laws.specs.History.{IsHistory}
use Rattle.host_laws.specs.Logs.{SiteLog}
use Rattle.host_laws.specs.Plans.{SitePlan, most_lines}
use Rattle.host_laws.specs.Turns.{SiteTurn, begun_in, is_due, packets_by, sent_by}
use Rattle.fed_hosts.specs.Hosts.{IsHeld}
use Rattle.fed_hosts.specs.Keeps.{IsCounting, IsPlanned, IsStanding, most_begun}
use Rattle.federation_run.specs.declared.lefts.Left.{Left}
use Rattle.federation_run.specs.declared.lefts.SiteLeft.{SiteLeft}
use Rattle.federation_run.specs.Lefts.{ArePlaced, IsHeldAt, IsLeft, itself, parts_of}
use Rattle.federation_run.specs.Plans.{bare_home, count_at, site_plan, site_plans, stops_in}
use Rattle.federation_run.proofs.Homes.{home_site}

-- the log of the site at a place, with its disk
pub record IsOwnLog (tells : Bool) (counts : List ℕ) (disks : List Seen) (scenario : Scenario) (rings : List Wire) (place : ℕ) (one : SiteLeft) (log : SiteLog) : Type 0 where
  pub site : SiteId
  pub at : slice_get (sites scenario) place ≡ Some site
  pub own_site : one.ends.site ≡ site
  pub own_actor : one.actor ≡ site.0
  pub disk : Seen
  pub own : slice_get disks site.0 ≡ Some disk
  pub home : Home
  pub home_is : home_of scenario site ≡ Some home
  pub home_site_is : home.site ≡ site
  pub plan_is : log.plan ≡ site_plan scenario counts site
  pub plan_home : log.plan.home ≡ home
  pub right : IsHistory log.plan log.turns
  pub lines : one.lines ≡ reverse (map (λ (turn : SiteTurn). turn.line) log.turns)
  pub rise : IsRising (λ (line : Stamped). line.stamp) one.lines
  pub sent : one.sent ≡ sent_by log.plan log.turns
  pub offers : offered one.ends.outlet ≡ packets_by log.plan log.turns
  pub took : log.took ≡ taken one.ends.inlet
  pub heard : HasHeard log.plan.programs (taken one.ends.inlet) (found (λ (turn : SiteTurn). turn.took) log.turns)
  pub short : length log.turns ≤ most_lines
  pub few : (tx : Tx) → begun_in tx log.turns ≤ most_begun
  pub settled : length log.turns < most_lines → is_due log.plan log.turns ≡ false
  pub standing : IsStanding (Dbms.Stands Engines.Stands tells one.dbms disk log.plan.home log.plan.programs) one.failed log.plan (returned one.ends.inlet) log.turns
  pub faults : IsCounting one.failed log.plan.faults disk.faults
  pub to : option_map (λ (wire : Wire). wire.ring) (slice_get rings (2 * place)) ≡ Some (inlet_ring one.ends.inlet)
  pub from : slice_get rings (2 * place + 1) ≡ Some (outlet_wire one.ends.outlet)

module _ (tells : Bool) (counts : List ℕ) (disks : List Seen) (scenario : Scenario) (whole : IsScenario scenario) (left : Left) (l : IsLeft tells counts disks scenario left)
    (placed : ArePlaced (sites scenario) left.sites.items) (place : ℕ) (site : SiteId) (one : SiteLeft) (there : slice_get (sites scenario) place ≡ Some site) (at : slice_get left.sites.items place ≡ Some one) where
  abbrev held_at : IsHeldAt tells (site_plans scenario counts) l.rings disks one
  held_at = l.sites_are place one at

  abbrev held : IsHeld Engines.Stands tells itself (site_plans scenario counts) l.rings (parts_of one held_at.disk)
  held = held_at.held

  abbrev planned : IsPlanned (site_plans scenario counts) l.rings held.plan one.ends
  planned = held.planned

  -- the site whose plan it is
  abbrev its : (named : SiteId) × (slice_get (sites scenario) planned.place ≡ Some named) × (site_plan scenario counts named ≡ held.plan)
  its = made_of (site_plan scenario counts) (sites scenario) planned.place held.plan planned.at

  abbrev home_there : (home : Home) × (home_of scenario its.0 ≡ Some home)
  home_there = home_at_place scenario its.0 planned.place its.1

  plan_home : held.plan.home ≡ home_there.0
  plan_home = ap (λ (p : SitePlan). p.home) (sym its.2) ∙ ap (λ (o : Option Home). or_else o (bare_home its.0)) home_there.1

  named_is : its.0 ≡ site
  named_is = sym (home_site scenario its.0 home_there.0 home_there.1) ∙ (ap (λ (h : Home). h.site) (sym plan_home) ∙ (sym planned.site ∙ placed.site place site one there at))

  place_is : planned.place ≡ place
  place_is = one_place (λ (z : SiteId). z.0) (sites scenario) planned.place place its.0 site (declared_rise scenario whole) its.1 there (ap (λ (z : SiteId). z.0) named_is)

  actor_is : one.actor ≡ site.0
  actor_is = placed.actor place site one there at

  pub own_log : (log : SiteLog) × IsOwnLog tells counts disks scenario l.rings place one log
  own_log = (
    record { plan = held.plan; turns = held.turns; took = taken one.ends.inlet },
    record {
      site = site;
      at = there;
      own_site = placed.site place site one there at;
      own_actor = actor_is;
      disk = held_at.disk;
      own = subst (λ (n : ℕ). slice_get disks n ≡ Some held_at.disk) actor_is held_at.own;
      home = home_there.0;
      home_is = subst (λ (z : SiteId). home_of scenario z ≡ Some home_there.0) named_is home_there.1;
      home_site_is = home_site scenario its.0 home_there.0 home_there.1 ∙ named_is;
      plan_is = sym its.2 ∙ ap (site_plan scenario counts) named_is;
      plan_home = plan_home;
      right = held.right;
      lines = held.lines;
      rise = held.rise;
      sent = held.sent;
      offers = held.offers;
      took = refl;
      heard = held.heard;
      short = held.short;
      few = held.few;
      settled = held.settled;
      standing = held.standing;
      faults = held.faults;
      to = subst (λ (n : ℕ). option_map (λ (wire : Wire). wire.ring) (slice_get l.rings (2 * n)) ≡ Some (inlet_ring one.ends.inlet)) place_is planned.to;
      from = subst (λ (n : ℕ). slice_get l.rings (2 * n + 1) ≡ Some (outlet_wire one.ends.outlet)) place_is planned.from;
    },
  )
