-- What the hosts of a run left, as the histories of its hosts.
use Rattle.std.proofs.Common.{◌≡◌, ℕ, zero, ◌+◌, ◌*◌, ◌≤◌, ◌<◌, Bool, true, false, Option, Some, None, List, [], ◌++◌, length, map, reverse, slice_get, slice_index_or, refl, sym, ap, ◌∙◌, subst, arith}
use Rattle.std.specs.Prelude.{nat_le, option_map, option_to_list}
use mathlib.Core.List.{IsPrefix}
use Rattle.std.proofs.lemmas.Bool.{leb-false, leb-true}
use Rattle.std.proofs.lemmas.List.{get_or_past}
use Rattle.std.proofs.lemmas.Option.{get_or_from_slice_get, slice_get_past, slice_get_within}
use Rattle.mdb_base.specs.declared.names.SiteId.{SiteId}
use Rattle.mdb_base.specs.Rising.{IsRising}
use Rattle.mdb_base.specs.Words.{Each, found}
use Rattle.mdb_base.proofs.ForCallers.{each_at_place, length-map, made_of, one_place, slice_get-one}
use Rattle.presumptions.specs.declared.Participant.{Participant}
use Rattle.fed_rules.specs.declared.commands.Stamped.{Stamped}
use Rattle.fed_rules.specs.declared.messages.FromSite.{FromSite}
use Rattle.fed_rules.specs.declared.messages.ToSite.{ToSite}
use Rattle.fed_rules.specs.declared.scenario.Scenario.{Scenario}
use Rattle.fed_rules.specs.Plans.{IsScenario}
use Rattle.fed_rules.specs.Scenarios.{home_of, protocols, sites}
use Rattle.fed_rules.specs.SiteRecords.{Home}
use Rattle.record_fields.specs.Named.{IsSite}
use Rattle.fed_messages.specs.declared.Packet.{Packet}
use Rattle.journal_disk.specs.Disk.{Seen}
use Rattle.conservative_take.specs.AnyPolicies.{policy_is}
use Rattle.scripted_link.specs.declared.script.FateAt.{FateAt}
use Rattle.scripted_link.specs.Inlets.{inlet_ring, returned, taken}
use Rattle.scripted_link.specs.Outlets.{offered, outlet_wire}
use Rattle.scripted_link.specs.Rings.{Ring, Wire}
use Rattle.scripted_link.specs.Script.{let_through}
use Rattle.trace_merge.specs.Traces.{list_of}
use Rattle.fed_world.proofs.ForCallers.{declared_ranged, declared_rise, has_item, home_at_place, mapped_at}
use Rattle.host_laws.specs.CoordHearing.{HasHeardFrom}
use Rattle.host_laws.specs.Hearing.{HasHeard}
use Rattle.host_laws.specs.CoordPlans.{CoordPlan}
use Rattle.host_laws.specs.CoordTurns.{CoordTurn, offered_to, sent_to, took_from}
use Rattle.host_laws.specs.Links.{script_of}
use Rattle.host_laws.specs.Logs.{AreLists, AreLogs, CoordLog, IsCoordLog, IsDelivered, IsLinked, IsSiteLog, SiteLog}
use Rattle.host_laws.specs.Plans.{SitePlan}
use Rattle.host_laws.specs.Turns.{SiteTurn, packets_by}
use Rattle.host_laws.specs.Written.{FitsFromSite, FitsToSite}
use Rattle.fed_hosts.specs.declared.ports.Port.{Port}
use Rattle.fed_hosts.specs.CoordHosts.{IsHeldCoord}
use Rattle.fed_hosts.specs.CoordKeeps.{IsPortPlanned}
use Rattle.fed_hosts.specs.Ports.{backs_of, tooks_of}
use Rattle.federation_run.specs.declared.lefts.CoordLeft.{CoordLeft}
use Rattle.federation_run.specs.declared.lefts.Left.{Left}
use Rattle.federation_run.specs.declared.lefts.SiteLeft.{SiteLeft}
use Rattle.federation_run.specs.Lefts.{ArePlaced, AreScripted, IsCoordHeldAt, IsLeft, coord_parts_of, itself}
use Rattle.federation_run.specs.Plans.{coord_plan, site_plan, stops_in}
use Rattle.federation_run.specs.Running.{AreCarriedBack}
use Rattle.federation_run.specs.Sorting.{AllFit, AreListed, AreSortable, HaveMet, IsPair}
use Rattle.federation_run.proofs.Homes.{home_site}
use Rattle.federation_run.proofs.Owned.{IsOwnLog, own_log}
use Rattle.federation_run.proofs.Places.{made_list}

module _ (tells : Bool) (counts : List ℕ) (disks : List Seen) (scenario : Scenario) (whole : IsScenario scenario) (left : Left) (l : IsLeft tells counts disks scenario left)
    (placed : ArePlaced (sites scenario) left.sites.items) (fits : AllFit left.sites.items left.coordinator.ports.items) where
  abbrev ports : List Port
  ports = left.coordinator.ports.items

  abbrev pub coord_at : IsCoordHeldAt tells (coord_plan scenario counts) l.rings disks left.coordinator
  coord_at = l.coordinator

  abbrev pub coord_held : IsHeldCoord policy_is tells itself (coord_plan scenario counts) l.rings (coord_parts_of left.coordinator coord_at.disk)
  coord_held = coord_at.held

  -- what the coordinator's host left
  abbrev pub coord_log : CoordLog
  coord_log = record { plan = coord_plan scenario counts; turns = coord_held.turns; tooks = tooks_of ports }

  -- there are as many ports as sites
  pub ports_count : length ports ≡ length (sites scenario)
  ports_count = coord_held.planned.count ∙ sym (length-map (λ (m : Participant). m.site) (protocols scenario))

  port_planned : (place : ℕ) (port : Port) → slice_get ports place ≡ Some port → IsPortPlanned l.rings (coord_plan scenario counts) place port
  port_planned place port at = coord_held.planned.each place port at

  -- the port at a place is that of its site
  pub port_site : (place : ℕ) (site : SiteId) (port : Port) → slice_get (sites scenario) place ≡ Some site → slice_get ports place ≡ Some port → port.ends.site ≡ site
  port_site place site port there at =
      let p = port_planned place port at in
      p.site ∙ slice_get-one (sites scenario) place p.member.site site (mapped_at (λ (m : Participant). m.site) (protocols scenario) place p.member p.at) there

  -- the site at the place of what is left
  pub site_at : (place : ℕ) (one : SiteLeft) → slice_get left.sites.items place ≡ Some one → (site : SiteId) × (slice_get (sites scenario) place ≡ Some site)
  site_at place one at = has_item (sites scenario) left.sites.items place one (sym placed.count) at

  -- the histories of the sites' hosts, by rising site
  abbrev logs_made : (logs : List SiteLog) × ((length logs ≡ length left.sites.items)
      × ((n : ℕ) (one : SiteLeft) (log : SiteLog) → slice_get left.sites.items n ≡ Some one → slice_get logs n ≡ Some log → IsOwnLog tells counts disks scenario l.rings n one log))
  logs_made = made_list (IsOwnLog tells counts disks scenario l.rings) left.sites.items
      (λ n one at. (let s = site_at n one at in own_log tells counts disks scenario whole left l placed n s.0 one s.1 at))

  abbrev pub logs : List SiteLog
  logs = logs_made.0

  pub logs_count : length logs ≡ length (sites scenario)
  logs_count = logs_made.1.0 ∙ placed.count

  -- what is left of the site of a log
  pub left_of : (place : ℕ) (log : SiteLog) → slice_get logs place ≡ Some log → (one : SiteLeft) × (slice_get left.sites.items place ≡ Some one)
  left_of place log at = has_item left.sites.items logs place log (sym logs_made.1.0) at

  pub own : (place : ℕ) (one : SiteLeft) (log : SiteLog) → slice_get left.sites.items place ≡ Some one → slice_get logs place ≡ Some log → IsOwnLog tells counts disks scenario l.rings place one log
  own = logs_made.1.1

  -- it is that of the site at this place
  pub own_is : (place : ℕ) (site : SiteId) (log : SiteLog) → slice_get (sites scenario) place ≡ Some site → slice_get logs place ≡ Some log
      → (one : SiteLeft) × (slice_get left.sites.items place ≡ Some one) × (o : IsOwnLog tells counts disks scenario l.rings place one log) × (o.site ≡ site)
  own_is place site log there at =
      let one = left_of place log at in
      let o = own place one.0 log one.1 at in
      (one.0, one.1, o, slice_get-one (sites scenario) place o.site site o.at there)

  -- ---- what the ends have to do with each other

  ring_of : (o : Option Wire) (wire : Wire) (ring : Ring) → o ≡ Some wire → option_map (λ (w : Wire). w.ring) o ≡ Some ring → ring ≡ wire.ring
  ring_of None wire ring e k = cc
  ring_of (Some other) wire ring e k = cc

  pair : (place : ℕ) (one : SiteLeft) (port : Port) → slice_get left.sites.items place ≡ Some one → slice_get ports place ≡ Some port → IsPair one port
  pair place one port at e =
      let s = site_at place one at in
      let o = (own_log tells counts disks scenario whole left l placed place s.0 one s.1 at).1 in
      let p = port_planned place port e in
      record {
        to = ring_of (slice_get l.rings (2 * place)) (outlet_wire port.ends.outlet) (inlet_ring one.ends.inlet) p.to o.to;
        from = ring_of (slice_get l.rings (2 * place + 1)) (outlet_wire one.ends.outlet) (inlet_ring port.ends.inlet) o.from p.from;
      }

  actor_ranged : (place : ℕ) (one : SiteLeft) → slice_get left.sites.items place ≡ Some one → (1 ≤ one.actor) × (one.actor ≤ 8)
  actor_ranged place one at =
      let s = site_at place one at in
      let r = each_at_place IsSite (sites scenario) place s.0 (declared_ranged scenario whole) s.1 in
      subst (λ (n : ℕ). (1 ≤ n) × (n ≤ 8)) (sym (placed.actor place s.0 one s.1 at)) (r.least, r.greatest)

  actors_apart : (place other : ℕ) (one more : SiteLeft) → slice_get left.sites.items place ≡ Some one → slice_get left.sites.items other ≡ Some more → one.actor ≡ more.actor → place ≡ other
  actors_apart place other one more at more_at same =
      let s = site_at place one at in
      let t = site_at other more more_at in
      one_place (λ (z : SiteId). z.0) (sites scenario) place other s.0 t.0 (declared_rise scenario whole) s.1 t.1
      (sym (placed.actor place s.0 one s.1 at) ∙ (same ∙ placed.actor other t.0 more t.1 more_at))

  lines_rise : (place : ℕ) (one : SiteLeft) → slice_get left.sites.items place ≡ Some one → IsRising (λ (line : Stamped). line.stamp) one.lines
  lines_rise place one at = (let s = site_at place one at in (own_log tells counts disks scenario whole left l placed place s.0 one s.1 at).1.rise)

  -- what is left can be sorted
  pub sortable : AreSortable left.sites.items ports
  sortable = record { count = placed.count ∙ sym ports_count; pair = pair; actor = actor_ranged; apart = actors_apart; rise = lines_rise }

  -- ---- the logs

  site_log : (place : ℕ) (site : SiteId) (log : SiteLog) → slice_get (sites scenario) place ≡ Some site → slice_get logs place ≡ Some log → IsSiteLog scenario site log
  site_log place site log there at =
      let f = own_is place site log there at in
      let o = f.2 in
      record {
        home = subst (λ (z : SiteId). home_of scenario z ≡ Some log.plan.home) f.3 (o.home_is ∙ ap (λ (h : Home). Some h) (sym o.plan_home));
        programs = ap (λ (p : SitePlan). p.programs) o.plan_is ∙ ap (λ (z : SiteId). (site_plan scenario counts z).programs) f.3;
        stops = ap (λ (p : SitePlan). p.stops) o.plan_is ∙ ap (λ (z : SiteId). stops_in scenario z.0) f.3;
        right = o.right;
        fit = subst (λ (ms : List FromSite). Each FitsFromSite ms) o.sent (fits.from place f.0 f.1);
        heard = subst (λ (ps : List Packet). HasHeard log.plan.programs ps (found (λ (turn : SiteTurn). turn.took) log.turns)) (sym o.took) o.heard;
      }

  port_heard : (place : ℕ) (site : SiteId) (took : List Packet) → slice_get (sites scenario) place ≡ Some site → slice_get (tooks_of ports) place ≡ Some took
      → HasHeardFrom took (took_from site coord_held.turns)
  port_heard place site took there at =
      let p = made_of (λ (port : Port). taken port.ends.inlet) ports place took at in
      subst (λ (ps : List Packet). HasHeardFrom ps (took_from site coord_held.turns)) p.2
      (subst (λ (z : SiteId). HasHeardFrom (taken p.0.ends.inlet) (took_from z coord_held.turns)) (port_site place site p.0 there p.1) (coord_held.heard place p.0 p.1))

  port_fits : (place : ℕ) (site : SiteId) → slice_get (sites scenario) place ≡ Some site → Each FitsToSite (sent_to (coord_plan scenario counts) site coord_held.turns)
  port_fits place site there =
      let port = has_item ports (sites scenario) place site ports_count there in
      subst (λ (ms : List ToSite). Each FitsToSite ms)
      ((coord_held.ports place port.0 port.1).sent ∙ ap (λ (z : SiteId). sent_to (coord_plan scenario counts) z coord_held.turns) (port_site place site port.0 there port.1))
      (fits.to place port.0 port.1)

  coordinator_log : IsCoordLog scenario coord_log
  coordinator_log = record {
    terms = refl;
    programs = refl;
    stops = refl;
    right = coord_held.right;
    fit = port_fits;
    count = length-map (λ (port : Port). taken port.ends.inlet) ports ∙ ports_count;
    heard = port_heard;
  }

  -- what the rings have to do with the logs of a site and of the coordinator
  to_site : (place : ℕ) (site : SiteId) (port : Port) (packets : List Packet) → slice_get (sites scenario) place ≡ Some site → slice_get ports place ≡ Some port
      → IsPrefix packets (let_through (outlet_wire port.ends.outlet).script (offered port.ends.outlet)) → IsDelivered (script_of scenario true site) (offered_to (coord_plan scenario counts) site coord_held.turns) packets
  to_site place site port packets there at prefix =
      let planned = port_planned place port at in
      let logged = coord_held.ports place port at in
      let script : (outlet_wire port.ends.outlet).script ≡ script_of scenario true site = l.scripted.to place site (outlet_wire port.ends.outlet) there planned.to in
      let sent : offered port.ends.outlet ≡ offered_to (coord_plan scenario counts) site coord_held.turns = logged.offers ∙ ap (λ (z : SiteId). offered_to (coord_plan scenario counts) z coord_held.turns) (port_site place site port there at) in
      subst (λ (fs : List FateAt). IsPrefix packets (let_through fs (offered_to (coord_plan scenario counts) site coord_held.turns))) script
      (subst (λ (ps : List Packet). IsPrefix packets (let_through (outlet_wire port.ends.outlet).script ps)) sent prefix)

  from_site : (place : ℕ) (site : SiteId) (log : SiteLog) (one : SiteLeft) (packets : List Packet) → slice_get (sites scenario) place ≡ Some site → IsOwnLog tells counts disks scenario l.rings place one log
      → IsPrefix packets (let_through (outlet_wire one.ends.outlet).script (offered one.ends.outlet)) → IsDelivered (script_of scenario false site) (packets_by log.plan log.turns) packets
  from_site place site log one packets there o prefix =
      let script : (outlet_wire one.ends.outlet).script ≡ script_of scenario false site = l.scripted.from place site (outlet_wire one.ends.outlet) there o.from in
      subst (λ (fs : List FateAt). IsPrefix packets (let_through fs (packets_by log.plan log.turns))) script
      (subst (λ (ps : List Packet). IsPrefix packets (let_through (outlet_wire one.ends.outlet).script ps)) o.offers prefix)

  module _ (met : (place : ℕ) (one : SiteLeft) (port : Port) → slice_get left.sites.items place ≡ Some one → slice_get ports place ≡ Some port → HaveMet one port) where
    linked : (place : ℕ) (site : SiteId) (log : SiteLog) (took : List Packet) → slice_get (sites scenario) place ≡ Some site → slice_get logs place ≡ Some log
        → slice_get (tooks_of ports) place ≡ Some took → IsLinked (script_of scenario) coord_log site log took
    linked place site log took there at took_at =
        let f = own_is place site log there at in
        let p = made_of (λ (port : Port). taken port.ends.inlet) ports place took took_at in
        let m = met place f.0 p.0 f.1 p.1 in
        record {
          to = subst (λ (ps : List Packet). IsDelivered (script_of scenario true site) (offered_to (coord_plan scenario counts) site coord_held.turns) ps) (sym f.2.took) (to_site place site p.0 (taken f.0.ends.inlet) there p.1 m.to);
          from = subst (λ (ps : List Packet). IsDelivered (script_of scenario false site) (packets_by log.plan log.turns) ps) p.2 (from_site place site log f.0 (taken p.0.ends.inlet) there f.2 m.from);
        }

    -- a packet that a site's host put back came over its ring
    pub back_carried : (place : ℕ) (site : SiteId) (log : SiteLog) → slice_get (sites scenario) place ≡ Some site → slice_get logs place ≡ Some log → (one : SiteLeft) → slice_get left.sites.items place ≡ Some one
        → IsDelivered (script_of scenario true site) (offered_to (coord_plan scenario counts) site coord_held.turns) (log.took ++ option_to_list (returned one.ends.inlet))
    back_carried place site log there at one one_at =
        let o = own place one log one_at at in
        let port = has_item ports (sites scenario) place site ports_count there in
        subst (λ (ps : List Packet). IsDelivered (script_of scenario true site) (offered_to (coord_plan scenario counts) site coord_held.turns) (ps ++ option_to_list (returned one.ends.inlet))) (sym o.took)
        (to_site place site port.0 (taken one.ends.inlet ++ option_to_list (returned one.ends.inlet)) there port.1 (met place one port.0 one_at port.1).back_to)

    -- and so did those that the coordinator's host put back
    pub backs_carried : AreCarriedBack scenario coord_log logs (backs_of ports)
    backs_carried place site log took back there at took_at back_at =
        let f = own_is place site log there at in
        let p = made_of (λ (port : Port). taken port.ends.inlet) ports place took took_at in
        let q = made_of (λ (port : Port). returned port.ends.inlet) ports place back back_at in
        let same : q.0 ≡ p.0 = slice_get-one ports place q.0 p.0 q.1 p.1 in
        let returned_is : returned p.0.ends.inlet ≡ back = ap (λ (port : Port). returned port.ends.inlet) (sym same) ∙ q.2 in
        subst (λ (ps : List Packet). IsDelivered (script_of scenario false site) (packets_by log.plan log.turns) (ps ++ option_to_list back)) p.2
        (subst (λ (b : Option Packet). IsDelivered (script_of scenario false site) (packets_by log.plan log.turns) (taken p.0.ends.inlet ++ option_to_list b)) returned_is
        (from_site place site log f.0 (taken p.0.ends.inlet ++ option_to_list (returned p.0.ends.inlet)) there f.2 (met place f.0 p.0 f.1 p.1).back_from))

    -- these are the histories of the hosts of the scenario
    pub are_logs : AreLogs (script_of scenario) scenario coord_log logs
    are_logs = record { whole = whole; coordinator_is = coordinator_log; count = logs_count; site_is = site_log; linked = linked }

  -- ---- their lists of lines

  module _ (lists : List (List Stamped)) (listed : AreListed left.coordinator.lines left.sites.items lists) where
    list_at : (actor : ℕ) (lines : List Stamped) → slice_get lists actor ≡ Some lines → list_of lists actor ≡ lines
    list_at actor lines at = get_or_from_slice_get lists actor lines [] at

    lists_sites : (place : ℕ) (site : SiteId) (log : SiteLog) → slice_get (sites scenario) place ≡ Some site → slice_get logs place ≡ Some log
        → list_of lists site.0 ≡ reverse (map (λ (turn : SiteTurn). turn.line) log.turns)
    lists_sites place site log there at =
        let f = own_is place site log there at in
        let o = f.2 in
        ap (λ (n : ℕ). list_of lists n) (ap (λ (z : SiteId). z.0) (sym f.3) ∙ sym o.own_actor) ∙ (list_at f.0.actor f.0.lines (listed.site place f.0 f.1) ∙ o.lines)

    no_line : (actor : ℕ) → 1 ≤ actor → home_of scenario (record { 0 = actor }) ≡ None → list_of lists actor ≡ []
    no_line actor least none = by_range (nat_le actor 8) refl
      where
        undeclared : (place : ℕ) (one : SiteLeft) → slice_get left.sites.items place ≡ Some one → one.actor ≡ actor → ⊥
        undeclared place one at same =
            let s = site_at place one at in
            let home = home_at_place scenario s.0 place s.1 in
            let named : s.0 ≡ record { 0 = actor } = ap (λ (n : ℕ). let z : SiteId = record { 0 = n } in z) (sym (placed.actor place s.0 one s.1 at) ∙ same) in
            let both : None ≡ Some home.0 = sym none ∙ (ap (λ (z : SiteId). home_of scenario z) (sym named) ∙ home.1) in
            cc

        by_range : (b : Bool) → nat_le actor 8 ≡ b → list_of lists actor ≡ []
        by_range true is = list_at actor [] (listed.none actor least (leb-true actor 8 is) undeclared)
        by_range false is = (let more = leb-false actor 8 is in let nine = listed.nine in get_or_past lists actor [] (omega (arith, more, nine)))

    -- these are the lists of the actors
    pub are_lists : AreLists scenario coord_log logs lists
    are_lists = record {
      coordinator_is = list_at 0 left.coordinator.lines listed.coordinator ∙ coord_held.lines;
      site_is = lists_sites;
      others = no_line;
    }
