-- The plan of a session that goes on has sites in their range, each once: those of the session that left the disks.
use Rattle.std.proofs.Common.{◌≡◌, ◌<◌, ◌&&◌, ◌||◌, true, false, not, List, [], ◌∷◌, map, refl, sym, ap, subst, ◌∙◌}
use Rattle.std.proofs.lemmas.Bool.{and_parts}
use Rattle.std.specs.Prelude.{nat_lt}
use Rattle.mdb_base.specs.Words.{Each, each_of, some_of}
use Rattle.mdb_base.proofs.ForCallers.{each_inserted, same_site-below}
use Rattle.presumptions.specs.declared.Participant.{Participant}
use Rattle.fed_rules.specs.declared.scenario.Scenario.{Scenario}
use Rattle.fed_rules.specs.declared.scenario.SiteLine.{SiteLine}
use Rattle.fed_rules.specs.Plans.{AreSites, IsScenario, all_differ, is_between, one_site}
use Rattle.fed_rules.specs.Resumed.{site_line_by}
use Rattle.fed_rules.specs.Scenarios.{protocols, protocols_in}
use Rattle.fed_rules.specs.SiteRecords.{Home}
use Rattle.fed_rules.proofs.ForCallers.{MembersRise}
use Rattle.coord_laws.specs.FoundCoordinators.{RiseBySite}
use Rattle.commit_laws.proofs.ForCallers.{member_of, members_rise, rising_on, rising_over}

abbrev pub IsInRange : Participant → Type 0
IsInRange member = is_between 1 8 member.site.0 ≡ true

pub members_range : (lines : List SiteLine) → each_of (λ line. is_between 1 8 line.site.0) lines ≡ true → Each IsInRange (protocols_in lines)
members_range [] r = tt
members_range (line ∷ lines) r =
    let parts = and_parts (is_between 1 8 line.site.0) (each_of (λ l. is_between 1 8 l.site.0) lines) r in
    each_inserted IsInRange (λ (a b : Participant). nat_lt a.site.0 b.site.0) (record { site = line.site; protocol = line.protocol }) (protocols_in lines) parts.0 (members_range lines parts.1)

pub homes_range : (hs : List Home) → Each IsInRange (map member_of hs) → each_of (λ line. is_between 1 8 line.site.0) (map site_line_by hs) ≡ true
homes_range [] r = refl
homes_range (h ∷ hs) r = ap (λ b. b && each_of (λ line. is_between 1 8 line.site.0) (map site_line_by hs)) r.0 ∙ homes_range hs r.1

none_alike : (h : Home) (hs : List Home) → Each (λ (m : Participant). h.site.0 < m.site.0) (map member_of hs) → some_of (one_site (site_line_by h)) (map site_line_by hs) ≡ false
none_alike h [] r = refl
none_alike h (k ∷ hs) r = ap (λ b. b || some_of (one_site (site_line_by h)) (map site_line_by hs)) (same_site-below h.site k.site r.0) ∙ none_alike h hs r.1

pub homes_differ : (hs : List Home) → MembersRise (map member_of hs) → all_differ one_site (map site_line_by hs) ≡ true
homes_differ [] r = refl
homes_differ (h ∷ hs) r =
    ap (λ b. not b && all_differ one_site (map site_line_by hs)) (none_alike h hs (rising_over (member_of h) (map member_of hs) r)) ∙ homes_differ hs (rising_on (member_of h) (map member_of hs) r)

pub sites_of_homes : (scenario : Scenario) → IsScenario scenario → (hs : List Home) → map member_of hs ≡ protocols scenario → AreSites (map site_line_by hs)
sites_of_homes scenario whole hs e = record {
  range = homes_range hs (subst (Each IsInRange) (sym e) (members_range scenario.sites whole.sites.range));
  differ = homes_differ hs (subst MembersRise (sym e) (members_rise scenario whole));
}

-- the participants rise
pub rise_all : (ms : List Participant) → MembersRise ms → RiseBySite ms
rise_all [] r = tt
rise_all (m ∷ ms) r = (rising_over m ms r, rise_all ms (rising_on m ms r))

pub protocols_rise : (scenario : Scenario) → IsScenario scenario → RiseBySite (protocols scenario)
protocols_rise scenario whole = rise_all (protocols scenario) (members_rise scenario whole)
