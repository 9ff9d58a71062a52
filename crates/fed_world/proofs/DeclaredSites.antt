-- The declared sites of a scenario: they rise, their numbers are in their range, and each has its line and its home.
use Rattle.std.proofs.Common.{◌≡◌, suc, ◌≤◌, Bool, true, false, cond, nat_lt, Option, Some, None, List, [], ◌∷◌, length, refl, sym, ◌∙◌, ap, subst, arith}
use Rattle.std.proofs.lemmas.Bool.{and_parts, leb-true}
use Rattle.mdb_base.specs.declared.names.SiteId.{SiteId}
use Rattle.mdb_base.specs.declared.rows.Put.{Put}
use Rattle.mdb_base.specs.Names.{same_key, same_site}
use Rattle.mdb_base.specs.Rising.{IsRising}
use Rattle.mdb_base.specs.Rows.{with_row}
use Rattle.mdb_base.specs.Words.{Each, each_of, first_where, how_many}
use Rattle.mdb_base.proofs.ForCallers.{each_inserted, each_of_mapped, same_site-equal}
use Rattle.presumptions.specs.declared.Participant.{Participant}
use Rattle.order_laws.specs.Chains.{In}
use Rattle.order_laws.proofs.ForCallers.{each_at, first_where_some}
use Rattle.record_fields.specs.Named.{IsSite}
use Rattle.fed_rules.specs.declared.scenario.ItemLine.{ItemLine}
use Rattle.fed_rules.specs.declared.scenario.Scenario.{Scenario}
use Rattle.fed_rules.specs.declared.scenario.SiteLine.{SiteLine}
use Rattle.fed_rules.specs.Plans.{IsScenario, declares, has_site, is_between}
use Rattle.fed_rules.specs.Scenarios.{home_in, home_of, items_of, protocols, protocols_in, sites}
use Rattle.fed_rules.specs.SiteRecords.{Home}
use Rattle.world_laws.proofs.ForCallers.{homed, homeless}
use Rattle.fed_rules.proofs.ForCallers.{sites_rise}
use Rattle.commit_laws.proofs.ForCallers.{by_site, members_rise}
use Rattle.local_dbms.specs.Stands.{home_from}

-- ---- lines and homes

-- the home of a line that is found
pub line_home : (lines : List SiteLine) (items : List ItemLine) (site : SiteId) (line : SiteLine) → first_where (declares site) lines ≡ Some line → home_in lines items site ≡ Some (home_from line (items_of items site))
line_home [] items site line e = cc
line_home (other ∷ lines) items site line e = by_test (same_site other.site site) e (line_home lines items site line)
  where
    by_test : (b : Bool) → cond b (Some other) (first_where (declares site) lines) ≡ Some line
        → (first_where (declares site) lines ≡ Some line → home_in lines items site ≡ Some (home_from line (items_of items site)))
        → cond b (Some (home_from other (items_of items site))) (home_in lines items site) ≡ Some (home_from line (items_of items site))
    by_test true e k = (let same : other ≡ line = cc in ap (λ (l : SiteLine). Some (home_from l (items_of items site))) same)
    by_test false e k = k e

-- a site without a line has no home
pub no_home : (lines : List SiteLine) (items : List ItemLine) (site : SiteId) → first_where (declares site) lines ≡ None → home_in lines items site ≡ None
no_home [] items site e = refl
no_home (other ∷ lines) items site e = by_test (same_site other.site site) e (no_home lines items site)
  where
    by_test : (b : Bool) → cond b (Some other) (first_where (declares site) lines) ≡ None → (first_where (declares site) lines ≡ None → home_in lines items site ≡ None)
        → cond b (Some (home_from other (items_of items site))) (home_in lines items site) ≡ None
    by_test true e k = cc
    by_test false e k = k e

-- a line that is found is of the site
pub line_site : (lines : List SiteLine) (site : SiteId) (line : SiteLine) → first_where (declares site) lines ≡ Some line → line.site ≡ site
line_site lines site line e = same_site-equal line.site site (first_where_some (declares site) lines line e).1

-- so it is found by its own site
pub line_homed : (lines : List SiteLine) (site : SiteId) (line : SiteLine) → first_where (declares site) lines ≡ Some line → first_where (declares line.site) lines ≡ Some line
line_homed lines site line e = subst (λ (z : SiteId). first_where (declares z) lines ≡ Some line) (sym (line_site lines site line e)) e

-- a declared site has a line
pub has_line : (scenario : Scenario) (site : SiteId) → In site (sites scenario) → first_where (declares site) scenario.sites ≡ None → ⊥
has_line scenario site i e = homeless scenario.sites scenario.items site (no_home scenario.sites scenario.items site e) i

-- and a home
pub site_home : (scenario : Scenario) (site : SiteId) → In site (sites scenario) → (home : Home) × (home_of scenario site ≡ Some home)
site_home scenario site i = by_line (first_where (declares site) scenario.sites) refl
  where
    by_line : (o : Option SiteLine) → first_where (declares site) scenario.sites ≡ o → (home : Home) × (home_of scenario site ≡ Some home)
    by_line None e = absurd (has_line scenario site i e)
    by_line (Some line) e = (home_from line (items_of scenario.items site), line_home scenario.sites scenario.items site line e)

-- ---- their order

-- so do the sites
pub declared_rise : (scenario : Scenario) → IsScenario scenario → IsRising (λ (z : SiteId). z.0) (sites scenario)
declared_rise scenario whole = sites_rise (protocols scenario) (members_rise scenario whole)

-- ---- their numbers

lines_ranged : (lines : List SiteLine) → each_of (λ (l : SiteLine). is_between 1 8 l.site.0) lines ≡ true → Each (λ (m : Participant). IsSite m.site) (protocols_in lines)
lines_ranged [] e = tt
lines_ranged (line ∷ lines) e =
    let parts = and_parts (is_between 1 8 line.site.0) (each_of (λ (l : SiteLine). is_between 1 8 l.site.0) lines) e in
    let own = and_parts _ _ parts.0 in
    each_inserted (λ (m : Participant). IsSite m.site) by_site (record { site = line.site; protocol = line.protocol }) (protocols_in lines)
    (record { least = leb-true 1 line.site.0 own.0; greatest = leb-true line.site.0 8 own.1 }) (lines_ranged lines parts.1)

-- each participant's site is one from 1 to 8
pub members_ranged : (scenario : Scenario) → IsScenario scenario → Each (λ (m : Participant). IsSite m.site) (protocols scenario)
members_ranged scenario whole = lines_ranged scenario.sites whole.sites.range

-- so is each site
pub declared_ranged : (scenario : Scenario) → IsScenario scenario → Each IsSite (sites scenario)
declared_ranged scenario whole = each_of_mapped IsSite (λ (m : Participant). m.site) (protocols scenario) (members_ranged scenario whole)

-- ---- their first rows

one_more : (row : Put) (rows : List Put) → length (with_row row rows) ≤ suc (length rows)
one_more row [] = omega arith
one_more row (other ∷ rows) = by_tests (same_key other.key row.key) (nat_lt other.key.0 row.key.0) (one_more row rows)
  where
    by_tests : (a b : Bool) → length (with_row row rows) ≤ suc (length rows) → length (cond a (row ∷ rows) (cond b (other ∷ with_row row rows) (row ∷ other ∷ rows))) ≤ suc (suc (length rows))
    by_tests true b le = omega arith
    by_tests false true le = omega (arith, le)
    by_tests false false le = omega arith

items_counted : (items : List ItemLine) (site : SiteId) → length (items_of items site) ≤ how_many (has_site site) items
items_counted [] site = omega arith
items_counted (item ∷ items) site = by_test (same_site item.site site) (items_counted items site)
  where
    by_test : (b : Bool) → length (items_of items site) ≤ how_many (has_site site) items
        → length (cond b (with_row item.put (items_of items site)) (items_of items site)) ≤ cond b (suc (how_many (has_site site) items)) (how_many (has_site site) items)
    by_test true le = let more = one_more item.put (items_of items site) in omega (arith, le, more)
    by_test false le = le

-- a site has at most 4096 first rows
pub few_items : (scenario : Scenario) (site : SiteId) → IsScenario scenario → length (items_of scenario.items site) ≤ 4096
few_items scenario site whole = let a = items_counted scenario.items site in let b = whole.items.few site in omega (arith, a, b)

-- a line's site is one from 1 to 8
pub line_ranged : (scenario : Scenario) (line : SiteLine) → IsScenario scenario → first_where (declares line.site) scenario.sites ≡ Some line → IsSite line.site
line_ranged scenario line whole own =
    each_at IsSite line.site (sites scenario) (declared_ranged scenario whole)
    (homed scenario.sites scenario.items line.site (home_from line (items_of scenario.items line.site)) (line_home scenario.sites scenario.items line.site line own))

-- the home of a line with its first rows
pub its_home : (scenario : Scenario) (line : SiteLine) (rows : List Put) (home : Home) → first_where (declares line.site) scenario.sites ≡ Some line → rows ≡ items_of scenario.items line.site
    → home_of scenario line.site ≡ Some home → home_from line rows ≡ home
its_home scenario line rows home own is declared =
    let both : Some (home_from line (items_of scenario.items line.site)) ≡ Some home = sym (line_home scenario.sites scenario.items line.site line own) ∙ declared in
    let same : home_from line (items_of scenario.items line.site) ≡ home = cc in
    ap (λ (rs : List Put). home_from line rs) is ∙ same
