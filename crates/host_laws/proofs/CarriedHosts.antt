-- The hosts of a run: where each stands, and what holds of the lists of all actors.
use Rattle.std.proofs.Common.{◌≡◌, ℕ, zero, suc, ◌≤◌, Bool, true, false, cond, Option, Some, None, List, [], ◌∷◌, map, reverse, slice_get, refl, sym, subst, arith}
use Rattle.std.proofs.lemmas.Bool.{leb-true, and_parts}
use Rattle.mdb_base.specs.declared.names.SiteId.{SiteId}
use Rattle.mdb_base.specs.Names.{same_site}
use Rattle.mdb_base.specs.Words.{each_of}
use Rattle.mdb_base.proofs.ForCallers.{same_site-equal}
use Rattle.order_laws.specs.Chains.{In}
use Rattle.fed_rules.specs.declared.commands.Stamped.{Stamped}
use Rattle.fed_rules.specs.declared.scenario.ItemLine.{ItemLine}
use Rattle.fed_rules.specs.declared.scenario.Scenario.{Scenario}
use Rattle.fed_rules.specs.declared.scenario.SiteLine.{SiteLine}
use Rattle.fed_rules.specs.Plans.{IsScenario, is_between}
use Rattle.fed_rules.specs.Scenarios.{home_in, home_of, items_of, sites}
use Rattle.fed_rules.specs.SiteRecords.{Home}
use Rattle.fed_messages.specs.declared.Packet.{Packet}
use Rattle.trace_merge.specs.Traces.{list_of}
use Rattle.world_laws.proofs.ForCallers.{homed}
use Rattle.host_laws.specs.CoordTurns.{CoordTurn}
use Rattle.host_laws.specs.Logs.{AreLists, AreLogs, CoordLog, Scripts, SiteLog}
use Rattle.host_laws.specs.Turns.{SiteTurn}
use Rattle.host_laws.proofs.DeclaredSites.{beside, place_of}

line_low : (lines : List SiteLine) (items : List ItemLine) (site : SiteId) (home : Home) → each_of (λ (l : SiteLine). is_between 1 8 l.site.0) lines ≡ true → home_in lines items site ≡ Some home → site.0 ≤ 8
line_low [] items site home range e = cc
line_low (line ∷ lines) items site home range e = by_test (same_site line.site site) refl e (line_low lines items site home parts.1)
  where
    parts : (is_between 1 8 line.site.0 ≡ true) × (each_of (λ (l : SiteLine). is_between 1 8 l.site.0) lines ≡ true)
    parts = and_parts (is_between 1 8 line.site.0) (each_of (λ (l : SiteLine). is_between 1 8 l.site.0) lines) range

    here : Home
    here = record { site = line.site; engine = line.engine; protocol = line.protocol; items = items_of items site }

    by_test : (b : Bool) → same_site line.site site ≡ b → cond b (Some here) (home_in lines items site) ≡ Some home → (home_in lines items site ≡ Some home → site.0 ≤ 8) → site.0 ≤ 8
    by_test true is e rest = subst (λ (s : SiteId). s.0 ≤ 8) (same_site-equal line.site site is) (leb-true line.site.0 8 (and_parts _ _ parts.0).1)
    by_test false is e rest = rest e

-- a declared site is at most the eighth
pub site_low : (scenario : Scenario) (site : SiteId) (home : Home) → IsScenario scenario → home_of scenario site ≡ Some home → site.0 ≤ 8
site_low scenario site home whole e = line_low scenario.sites scenario.items site home whole.sites.range e

-- where the host of a site stands among the others, and what it left
pub record HostAt (scenario : Scenario) (coordinator : CoordLog) (logs : List SiteLog) (site : SiteId) : Type 0 where
  pub place : ℕ
  pub log : SiteLog
  pub took : List Packet
  pub at : slice_get (sites scenario) place ≡ Some site
  pub there : slice_get logs place ≡ Some log
  pub packets : slice_get coordinator.tooks place ≡ Some took

module _ {scripts : Scripts} {scenario : Scenario} {coordinator : CoordLog} {logs : List SiteLog} (are : AreLogs scripts scenario coordinator logs) where
  -- each declared site has a host
  pub host_at : (site : SiteId) → In site (sites scenario) → HostAt scenario coordinator logs site
  host_at site i =
      let at = place_of site (sites scenario) i in
      let there = beside (sites scenario) logs at.0 site are.count at.1 in
      let packets = beside (sites scenario) coordinator.tooks at.0 site are.coordinator_is.count at.1 in
      record { place = at.0; log = there.0; took = packets.0; at = at.1; there = there.1; packets = packets.1 }

  -- what holds of the lines of each host, and of none, holds of each actor's list
  pub by_list : {lists : List (List Stamped)} → AreLists scenario coordinator logs lists → (Q : ℕ → List Stamped → Type 0) → Q 0 (reverse (map (λ (turn : CoordTurn). turn.line) coordinator.turns))
      → ((place : ℕ) (site : SiteId) (log : SiteLog) → slice_get (sites scenario) place ≡ Some site → slice_get logs place ≡ Some log → Q site.0 (reverse (map (λ (turn : SiteTurn). turn.line) log.turns)))
      → ((actor : ℕ) → Q actor []) → (actor : ℕ) → Q actor (list_of lists actor)
  by_list has Q first each none zero = subst (Q 0) (sym has.coordinator_is) first
  by_list {lists} has Q first each none (suc n) = by_home (home_of scenario site) refl
    where
      site : SiteId
      site = record { 0 = suc n }

      by_home : (o : Option Home) → home_of scenario site ≡ o → Q (suc n) (list_of lists (suc n))
      by_home None e = subst (Q (suc n)) (sym (has.others (suc n) (omega arith) e)) (none (suc n))
      by_home (Some home) e =
          let host = host_at site (homed scenario.sites scenario.items site home e) in
          subst (Q (suc n)) (sym (has.site_is host.place site host.log host.at host.there)) (each host.place site host.log host.at host.there)
