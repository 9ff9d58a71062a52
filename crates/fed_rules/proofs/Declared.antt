-- A declared site is found again by its own number, and the home of a local transaction is a declared site.
use Rattle.std.proofs.Common.{◌≡◌, Bool, true, false, cond, Option, Some, None, List, [], ◌∷◌, refl, sym, ◌∙◌, ap}
use Rattle.mdb_base.specs.declared.names.SiteId.{SiteId}
use Rattle.mdb_base.specs.declared.names.Tx.{Tx}
use Rattle.mdb_base.specs.Names.{same_site}
use Rattle.mdb_base.proofs.ForCallers.{same_site-equal, some_parts}
use Rattle.fed_rules.specs.declared.scenario.ItemLine.{ItemLine}
use Rattle.fed_rules.specs.declared.scenario.Scenario.{Scenario}
use Rattle.fed_rules.specs.declared.scenario.SiteLine.{SiteLine}
use Rattle.fed_rules.specs.Scenarios.{home_in, home_of, home_at, items_of, local_site, local_home}
use Rattle.fed_rules.specs.SiteRecords.{Home}

-- the home that a line declares
abbrev home_at_line : SiteLine → List ItemLine → SiteId → Home
home_at_line line items s = record { site = line.site; engine = line.engine; protocol = line.protocol; items = items_of items s }

pub home-site : (lines : List SiteLine) (items : List ItemLine) (s : SiteId) (h : Home) → home_in lines items s ≡ Some h → h.site ≡ s
home-site [] items s h e = cc
home-site (line ∷ lines) items s h e = by_test (same_site line.site s) refl e (home-site lines items s h) where
  by_test : (t : Bool) → same_site line.site s ≡ t → cond t (Some (home_at_line line items s)) (home_in lines items s) ≡ Some h → (home_in lines items s ≡ Some h → h.site ≡ s) → h.site ≡ s
  by_test true q e k = (let p : home_at_line line items s ≡ h = some_parts e in sym (ap (λ x. x.site) p) ∙ same_site-equal line.site s q)
  by_test false q e k = k e

-- a declared site has the number by which it was found
pub its-site : (scenario : Scenario) (s : SiteId) (h : Home) → home_of scenario s ≡ Some h → h.site ≡ s
its-site scenario s h e = home-site scenario.sites scenario.items s h e

pub home-again : (scenario : Scenario) (s : SiteId) (h : Home) → home_of scenario s ≡ Some h → home_of scenario h.site ≡ Some h
home-again scenario s h e = ap (home_of scenario) (its-site scenario s h e) ∙ e

declared : (scenario : Scenario) (s : Option SiteId) (h : Home) → home_at scenario s ≡ Some h → home_of scenario h.site ≡ Some h
declared scenario None h e = cc
declared scenario (Some s) h e = home-again scenario s h e

pub local-declared : (scenario : Scenario) (tx : Tx) (h : Home) → local_home scenario tx ≡ Some h → home_of scenario h.site ≡ Some h
local-declared scenario tx h e = declared scenario (local_site scenario tx) h e
