-- Homes of declared sites.
use Rattle.std.proofs.Common.{◌≡◌, ◌==◌, Bool, true, false, cond, Option, Some, None, List, [], ◌∷◌, refl, ap, eqb-true}
use Rattle.mdb_base.specs.declared.names.SiteId.{SiteId}
use Rattle.mdb_base.specs.Names.{same_site}
use Rattle.fed_rules.specs.declared.scenario.ItemLine.{ItemLine}
use Rattle.fed_rules.specs.declared.scenario.Scenario.{Scenario}
use Rattle.fed_rules.specs.declared.scenario.SiteLine.{SiteLine}
use Rattle.fed_rules.specs.Scenarios.{home_in, home_of, items_of}
use Rattle.fed_rules.specs.SiteRecords.{Home}

home_site_in : (lines : List SiteLine) (items : List ItemLine) (site : SiteId) (home : Home) → home_in lines items site ≡ Some home → home.site ≡ site
home_site_in [] items site home e = cc
home_site_in (line ∷ lines) items site home e = by_test (same_site line.site site) refl e (home_site_in lines items site home)
  where
    by_test : (b : Bool) → same_site line.site site ≡ b
        → cond b (Some (record { site = line.site; engine = line.engine; protocol = line.protocol; items = items_of items site })) (home_in lines items site) ≡ Some home
        → (home_in lines items site ≡ Some home → home.site ≡ site) → home.site ≡ site
    by_test true is e rest = (let same : line.site.0 ≡ site.0 = eqb-true line.site.0 site.0 is in let here : line.site ≡ site = ap (λ n. let s : SiteId = record { 0 = n } in s) same in cc)
    by_test false is e rest = rest e

-- a home is that of its site
pub home_site : (scenario : Scenario) (site : SiteId) (home : Home) → home_of scenario site ≡ Some home → home.site ≡ site
home_site scenario site home e = home_site_in scenario.sites scenario.items site home e
