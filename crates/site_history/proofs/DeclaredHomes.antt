-- The rows of a declared site rise by key.
use Rattle.std.proofs.Common.{◌≡◌, Bool, true, false, cond, Some, List, [], ◌∷◌, subst}
use Rattle.mdb_base.specs.declared.names.SiteId.{SiteId}
use Rattle.mdb_base.specs.Names.{same_site}
use Rattle.mdb_base.specs.Rising.{IsRising}
use Rattle.mdb_base.proofs.ForCallers.{some_parts}
use Rattle.fed_rules.specs.declared.scenario.ItemLine.{ItemLine}
use Rattle.fed_rules.specs.declared.scenario.SiteLine.{SiteLine}
use Rattle.fed_rules.specs.Scenarios.{home_in, items_of}
use Rattle.fed_rules.specs.SiteRecords.{Home}
use Rattle.engine_laws.proofs.ForCallers.{rising_items}

pub home_rises : (lines : List SiteLine) (items : List ItemLine) (site : SiteId) (home : Home) → home_in lines items site ≡ Some home → IsRising (λ put. put.key.0) home.items
home_rises [] items site home e = cc
home_rises (line ∷ lines) items site home e = by_test (same_site line.site site) e (home_rises lines items site home)
  where
    by_test : (b : Bool) → cond b (Some (record { site = line.site; engine = line.engine; protocol = line.protocol; items = items_of items site })) (home_in lines items site) ≡ Some home
        → (home_in lines items site ≡ Some home → IsRising (λ put. put.key.0) home.items) → IsRising (λ put. put.key.0) home.items
    by_test true f rest = subst (λ (h : Home). IsRising (λ put. put.key.0) h.items) (some_parts f) (rising_items items site)
    by_test false f rest = rest f
