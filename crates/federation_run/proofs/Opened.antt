-- The hosts of the wired actors may begin with their disks.
use Rattle.std.proofs.Common.{◌≡◌, ℕ, zero, suc, ◌+◌, ◌*◌, ◌<◌, ◌≤◌, ◌==◌, ◌&&◌, Bool, true, false, cond, Option, Some, None, List, [], ◌∷◌, length, map, slice_get, refl, sym, ap, ◌∙◌, subst, eqb-true, arith}
use Rattle.std.specs.Prelude.{nat_le, option_map}
use Rattle.std.proofs.lemmas.Bool.{leb-true, and_parts}
use Rattle.std.proofs.lemmas.List.{length-map}
use Rattle.std.proofs.lemmas.Option.{get_or_from_slice_get}
use Rattle.mdb_base.specs.declared.names.SiteId.{SiteId}
use Rattle.mdb_base.specs.Words.{Each, each_of, or_else, those}
use Rattle.mdb_base.proofs.ForCallers.{made_of, slice_get-one}
use Rattle.presumptions.specs.declared.Participant.{Participant}
use Rattle.fed_rules.specs.declared.scenario.Scenario.{Scenario}
use Rattle.fed_rules.specs.declared.scenario.SiteLine.{SiteLine}
use Rattle.fed_rules.specs.declared.scenario.StopLine.{StopLine}
use Rattle.fed_rules.specs.Plans.{IsScenario, is_actor, is_between, is_stop, stops_actor}
use Rattle.fed_rules.specs.Scenarios.{global_program, home_of, protocols, sites}
use Rattle.fed_rules.specs.SiteRecords.{Home}
use Rattle.journal_disk.specs.Disk.{Seen}
use Rattle.any_engine.specs.Stands as Engines
use Rattle.conservative_take.specs.AnyPolicies.{policy_is}
use Rattle.global_manager.specs.Stands as Manager
use Rattle.local_dbms.specs.Stands as Dbms
use Rattle.local_dbms.specs.Stands.{own_programs}
use Rattle.scripted_link.specs.Inlets.{inlet_ring}
use Rattle.scripted_link.specs.Outlets.{outlet_wire}
use Rattle.scripted_link.specs.Rings.{Ring, Wire}
use Rattle.fed_world.specs.Asks.{terms_of}
use Rattle.fed_world.specs.Faults.{faults_of}
use Rattle.fed_world.proofs.ForCallers.{has_item, mapped_at}
use Rattle.host_laws.specs.CoordPlans.{CoordPlan}
use Rattle.host_laws.specs.Links.{script_of}
use Rattle.host_laws.specs.Plans.{SitePlan}
use Rattle.fed_hosts.specs.declared.ports.Port.{Port}
use Rattle.fed_hosts.specs.CoordHosts.{CanOpenCoord}
use Rattle.fed_hosts.specs.CoordKeeps.{IsPortPlanned}
use Rattle.fed_hosts.specs.Hosts.{CanOpen}
use Rattle.fed_hosts.specs.Keeps.{IsStop}
use Rattle.federation_run.specs.declared.wired.WiredActors.{WiredActors}
use Rattle.federation_run.specs.declared.wired.WiredSite.{WiredSite}
use Rattle.federation_run.specs.Wired.{AreRinged, AreWiredActors, IsStood}
use Rattle.federation_run.specs.Lefts.{AreScripted}
use Rattle.federation_run.specs.Plans.{bare_home, coord_plan, count_at, in_turn, site_plan, site_plans, stops_in, wires_of}
use Rattle.federation_run.specs.Seats.{CanSeatAll, IsNamed}

-- ---- the rings by the places of their sites

first_in_turn : {A B W : Type 0} (f : A → W) (g : B → W) (xs : List A) (ys : List B) (place : ℕ) (x : A) (y : B) → slice_get xs place ≡ Some x → slice_get ys place ≡ Some y → slice_get (in_turn f g xs ys) (2 * place) ≡ Some (f x)
first_in_turn f g [] ys place x y at bat = cc
first_in_turn f g (z ∷ xs) [] place x y at bat = cc
first_in_turn f g (z ∷ xs) (w ∷ ys) zero x y at bat = (let same : z ≡ x = cc in ap (λ (q : _). Some (f q)) same)
first_in_turn f g (z ∷ xs) (w ∷ ys) (suc place) x y at bat =
    let next : 2 * suc place ≡ suc (suc (2 * place)) = omega arith in
    subst (λ (n : ℕ). slice_get (in_turn f g (z ∷ xs) (w ∷ ys)) n ≡ Some (f x)) (sym next) (first_in_turn f g xs ys place x y at bat)

second_in_turn : {A B W : Type 0} (f : A → W) (g : B → W) (xs : List A) (ys : List B) (place : ℕ) (x : A) (y : B) → slice_get xs place ≡ Some x → slice_get ys place ≡ Some y → slice_get (in_turn f g xs ys) (2 * place + 1) ≡ Some (g y)
second_in_turn f g [] ys place x y at bat = cc
second_in_turn f g (z ∷ xs) [] place x y at bat = cc
second_in_turn f g (z ∷ xs) (w ∷ ys) zero x y at bat = (let same : w ≡ y = cc in ap (λ (q : _). Some (g q)) same)
second_in_turn f g (z ∷ xs) (w ∷ ys) (suc place) x y at bat =
    let next : 2 * suc place + 1 ≡ suc (suc (2 * place + 1)) = omega arith in
    subst (λ (n : ℕ). slice_get (in_turn f g (z ∷ xs) (w ∷ ys)) n ≡ Some (g y)) (sym next) (second_in_turn f g xs ys place x y at bat)

-- the ring to a site
pub wire_to : (ports : List Port) (wired_sites : List WiredSite) (place : ℕ) (port : Port) (wired : WiredSite) → slice_get ports place ≡ Some port → slice_get wired_sites place ≡ Some wired
    → slice_get (wires_of ports wired_sites) (2 * place) ≡ Some (outlet_wire port.ends.outlet)
wire_to ports wired_sites place port wired at bat = first_in_turn (λ (p : Port). outlet_wire p.ends.outlet) (λ (b : WiredSite). outlet_wire b.ends.outlet) ports wired_sites place port wired at bat

-- and the one from it
pub wire_from : (ports : List Port) (wired_sites : List WiredSite) (place : ℕ) (port : Port) (wired : WiredSite) → slice_get ports place ≡ Some port → slice_get wired_sites place ≡ Some wired
    → slice_get (wires_of ports wired_sites) (2 * place + 1) ≡ Some (outlet_wire wired.ends.outlet)
wire_from ports wired_sites place port wired at bat = second_in_turn (λ (p : Port). outlet_wire p.ends.outlet) (λ (b : WiredSite). outlet_wire b.ends.outlet) ports wired_sites place port wired at bat

-- ---- scripted stops

stop_lines : (lines : List SiteLine) (stops : List StopLine) (actor : ℕ) → each_of (is_stop lines) stops ≡ true → Each (IsStop actor) (those (stops_actor actor) stops)
stop_lines lines [] actor e = tt
stop_lines lines (stop ∷ stops) actor e = by_test (stops_actor actor stop) refl (stop_lines lines stops actor parts.1)
  where
    parts : (is_stop lines stop ≡ true) × (each_of (is_stop lines) stops ≡ true)
    parts = and_parts (is_stop lines stop) (each_of (is_stop lines) stops) e

    calls : 1 ≤ stop.calls
    calls =
        let inner = and_parts (is_actor lines stop.actor && is_between 1 1000 stop.calls) (nat_le stop.cut 65535) parts.0 in
        let between = and_parts (is_actor lines stop.actor) (is_between 1 1000 stop.calls) inner.0 in
        let low = and_parts (nat_le 1 stop.calls) (nat_le stop.calls 1000) between.1 in
        leb-true 1 stop.calls low.0

    by_test : (b : Bool) → stops_actor actor stop ≡ b → Each (IsStop actor) (those (stops_actor actor) stops) → Each (IsStop actor) (cond b (stop ∷ those (stops_actor actor) stops) (those (stops_actor actor) stops))
    by_test true is rest = (record { actor = eqb-true stop.actor actor is; calls = calls }, rest)
    by_test false is rest = rest

-- the stops of an actor of a scenario
pub stops_are : (scenario : Scenario) (actor : ℕ) → IsScenario scenario → Each (IsStop actor) (stops_in scenario actor)
stops_are scenario actor whole = stop_lines scenario.sites scenario.stops actor whole.stops.range

-- how often a disk that is there failed
pub counted : (disks : List Seen) (number : ℕ) (disk : Seen) → slice_get disks number ≡ Some disk → disk.faults ≡ count_at (faults_of disks) number
counted disks number disk at = sym (get_or_from_slice_get (faults_of disks) number disk.faults 0 (mapped_at (λ (d : Seen). d.faults) disks number disk at))

module _ (tells : Bool) (disks : List Seen) (scenario : Scenario) (whole : IsScenario scenario) (actors : WiredActors) (c : AreWiredActors tells disks scenario actors)
    (plans : List SitePlan) (plan : CoordPlan) (rings : List Wire) (named : IsNamed scenario (faults_of disks) actors plans plan rings) where
  abbrev counts : List ℕ
  counts = faults_of disks

  -- the host of each wired site may begin
  pub can_seat_all : CanSeatAll tells plans rings disks actors.wired_sites.items
  can_seat_all place wired disk bat disk_at = record {
    plan = site_plan scenario counts site;
    planned = record {
      place = place;
      at = subst (λ (ps : List SitePlan). slice_get ps place ≡ Some (site_plan scenario counts site)) (sym named.sites_are) (mapped_at (site_plan scenario counts) (sites scenario) place site there.1);
      site = r.at_site ∙ (sym s.is ∙ ap (λ (h : Home). h.site) (sym home_is));
      to = subst (λ (ws : List Wire). option_map (λ (wire : Wire). wire.ring) (slice_get ws (2 * place)) ≡ Some (inlet_ring wired.ends.inlet)) (sym named.rings_are)
          (ap (option_map (λ (wire : Wire). wire.ring)) (wire_to actors.ports.items actors.wired_sites.items place port wired port_at bat) ∙ ap (λ (k : Ring). Some k) (sym r.to));
      from = subst (λ (ws : List Wire). slice_get ws (2 * place + 1) ≡ Some (outlet_wire wired.ends.outlet)) (sym named.rings_are) (wire_from actors.ports.items actors.wired_sites.items place port wired port_at bat);
      stops = subst (λ (n : ℕ). Each (IsStop n) (stops_in scenario site.0)) (ap (λ (z : SiteId). z.0) (sym s.is ∙ ap (λ (h : Home). h.site) (sym home_is))) (stops_are scenario site.0 whole);
    };
    stops_are = b.0;
    stood = subst (λ (h : Home). Dbms.Stands Engines.Stands tells wired.dbms disk h (own_programs site scenario.transactions) []) (sym home_is)
        (subst (λ (d : Seen). Dbms.Stands Engines.Stands tells wired.dbms d s.home (own_programs site scenario.transactions) []) own_disk s.stood.holds);
    faults = counted disks site.0 disk site_disk;
    taken_none = r.taken_none;
    offered_none = r.offered_none;
    uncounted = r.uncounted;
  }
    where
      there : (site : SiteId) × (slice_get (sites scenario) place ≡ Some site)
      there = has_item (sites scenario) actors.wired_sites.items place wired (sym c.wired_count) bat

      site : SiteId
      site = there.0

      port_there : (port : Port) × (slice_get actors.ports.items place ≡ Some port)
      port_there = has_item actors.ports.items (sites scenario) place site c.ports_count there.1

      port : Port
      port = port_there.0

      port_at : slice_get actors.ports.items place ≡ Some port
      port_at = port_there.1

      b : (wired.stops.items ≡ stops_in scenario site.0) × IsStood tells disks scenario site wired.dbms
      b = c.wired place site wired there.1 bat

      s : IsStood tells disks scenario site wired.dbms
      s = b.1

      r : AreRinged scenario site wired.ends port
      r = c.ringed place site wired port there.1 bat port_at

      home_is : (site_plan scenario counts site).home ≡ s.home
      home_is = ap (λ (o : Option Home). or_else o (bare_home site)) s.declared

      site_disk : slice_get disks site.0 ≡ Some disk
      site_disk = subst (λ (z : SiteId). slice_get disks z.0 ≡ Some disk) r.at_site disk_at

      own_disk : s.stood.disk ≡ disk
      own_disk = slice_get-one disks site.0 s.stood.disk disk (subst (λ (z : SiteId). slice_get disks z.0 ≡ Some s.stood.disk) s.is s.stood.own) site_disk

  port_planned : (place : ℕ) (port : Port) → slice_get actors.ports.items place ≡ Some port → IsPortPlanned rings plan place port
  port_planned place port at =
      let there = has_item (sites scenario) actors.ports.items place port (sym c.ports_count) at in
      let member = made_of (λ (m : Participant). m.site) (protocols scenario) place there.0 there.1 in
      let wired = has_item actors.wired_sites.items (sites scenario) place there.0 c.wired_count there.1 in
      let r = c.ringed place there.0 wired.0 port there.1 wired.1 at in
      record {
        member = member.0;
        at = subst (λ (p : CoordPlan). slice_get p.terms.protocols place ≡ Some member.0) (sym named.coordinator_is) member.1;
        site = r.at_coordinator ∙ sym member.2;
        to = subst (λ (ws : List Wire). slice_get ws (2 * place) ≡ Some (outlet_wire port.ends.outlet)) (sym named.rings_are) (wire_to actors.ports.items actors.wired_sites.items place port wired.0 at wired.1);
        from = subst (λ (ws : List Wire). option_map (λ (wire : Wire). wire.ring) (slice_get ws (2 * place + 1)) ≡ Some (inlet_ring port.ends.inlet)) (sym named.rings_are)
            (ap (option_map (λ (wire : Wire). wire.ring)) (wire_from actors.ports.items actors.wired_sites.items place port wired.0 at wired.1) ∙ ap (λ (k : Ring). Some k) (sym r.from));
      }

  -- so may the coordinator's
  pub can_open_coord : (first : Seen) → slice_get disks 0 ≡ Some first → CanOpenCoord policy_is tells plan rings actors.manager first actors.stops.items actors.ports.items
  can_open_coord first at = subst (λ (p : CoordPlan). CanOpenCoord policy_is tells p rings actors.manager first actors.stops.items actors.ports.items) (sym named.coordinator_is) (record {
    planned = record {
      count = c.ports_count ∙ length-map (protocols scenario) (λ (m : Participant). m.site);
      each = λ place port pat. subst (λ (p : CoordPlan). IsPortPlanned rings p place port) named.coordinator_is (port_planned place port pat);
      stops = stops_are scenario 0 whole;
    };
    stops_are = c.stops;
    stood = subst (λ (d : Seen). Manager.Stands policy_is tells actors.manager d (terms_of scenario) (global_program scenario) []) (slice_get-one disks 0 c.manager.disk first c.manager.own at) c.manager.holds;
    faults = counted disks 0 first at;
    new = λ place port pat. (let there = has_item (sites scenario) actors.ports.items place port (sym c.ports_count) pat in
        let wired = has_item actors.wired_sites.items (sites scenario) place there.0 c.wired_count there.1 in
        (c.ringed place there.0 wired.0 port there.1 wired.1 pat).new);
  })

module _ (tells : Bool) (disks : List Seen) (scenario : Scenario) (actors : WiredActors) (c : AreWiredActors tells disks scenario actors)
    (plans : List SitePlan) (plan : CoordPlan) (rings : List Wire) (named : IsNamed scenario (faults_of disks) actors plans plan rings) where
  -- the rings have the scripts of the scenario
  pub scripted : AreScripted scenario rings
  scripted = record { to = to; from = from }
    where
      to : (place : ℕ) (site : SiteId) (wire : Wire) → slice_get (sites scenario) place ≡ Some site → slice_get rings (2 * place) ≡ Some wire → wire.script ≡ script_of scenario true site
      to place site wire there at =
          let port = has_item actors.ports.items (sites scenario) place site c.ports_count there in
          let wired = has_item actors.wired_sites.items (sites scenario) place site c.wired_count there in
          let made = subst (λ (ws : List Wire). slice_get ws (2 * place) ≡ Some (outlet_wire port.0.ends.outlet)) (sym named.rings_are) (wire_to actors.ports.items actors.wired_sites.items place port.0 wired.0 port.1 wired.1) in
          ap (λ (w : Wire). w.script) (slice_get-one rings (2 * place) wire (outlet_wire port.0.ends.outlet) at made) ∙ (c.ringed place site wired.0 port.0 there wired.1 port.1).to_script

      from : (place : ℕ) (site : SiteId) (wire : Wire) → slice_get (sites scenario) place ≡ Some site → slice_get rings (2 * place + 1) ≡ Some wire → wire.script ≡ script_of scenario false site
      from place site wire there at =
          let port = has_item actors.ports.items (sites scenario) place site c.ports_count there in
          let wired = has_item actors.wired_sites.items (sites scenario) place site c.wired_count there in
          let made = subst (λ (ws : List Wire). slice_get ws (2 * place + 1) ≡ Some (outlet_wire wired.0.ends.outlet)) (sym named.rings_are) (wire_from actors.ports.items actors.wired_sites.items place port.0 wired.0 port.1 wired.1) in
          ap (λ (w : Wire). w.script) (slice_get-one rings (2 * place + 1) wire (outlet_wire wired.0.ends.outlet) at made) ∙ (c.ringed place site wired.0 port.0 there wired.1 port.1).from_script
