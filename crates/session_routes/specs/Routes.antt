-- Where a site stands among the declared ones, and which site a local transaction is at.
use Rattle.std.specs.Prelude.{ℕ, zero, suc, ◌≡◌, cond, Option, Some, None, List, [], ◌∷◌, slice_get}
use Rattle.mdb_base.specs.declared.names.SiteId.{SiteId}
use Rattle.mdb_base.specs.declared.names.Tx.{Tx}
use Rattle.mdb_base.specs.Names.{same_site, same_tx}
use Rattle.mdb_base.specs.Words.{first_where, map_some, or_else}
use Rattle.fed_rules.specs.declared.scenario.Scenario.{Scenario}
use Rattle.fed_rules.specs.declared.scenario.TxLine.{TxLine}
use Rattle.fed_rules.specs.Scenarios.{home_of_line, local_site, sites}
use Rattle.session_routes.specs.declared.routes.Routes.{Routes}

-- the place of a site in this list, counted from 0
abbrev pub place_in : List SiteId → SiteId → Option ℕ
place_in [] site = None
place_in (other ∷ sites) site = cond (same_site other site) (Some zero) (map_some (λ n. suc n) (place_in sites site))

-- the site of a local transaction by these lines
abbrev pub site_by : List TxLine → Tx → Option SiteId
site_by lines tx = home_of_line (first_where (λ line. same_tx line.tx tx) lines)

-- the site that stands at the number of a transaction in this list
abbrev pub home_in : List (Option SiteId) → Tx → Option SiteId
home_in homes tx = or_else (slice_get homes tx.0) None

-- the site of a local transaction by one further line, which counts before what stands in this list
abbrev pub noted : TxLine → List (Option SiteId) → Tx → Option SiteId
noted line homes tx = cond (same_tx line.tx tx) line.home (home_in homes tx)

-- at the number of each local transaction of these lines stands its site, and at any other number nothing
abbrev pub AreHomes : List TxLine → List (Option SiteId) → Type 0
AreHomes lines homes = (tx : Tx) → home_in homes tx ≡ site_by lines tx

-- at the number of each site stands its place in this list, and behind the last number nothing
abbrev pub ArePlaces : List SiteId → List (Option ℕ) → Type 0
ArePlaces sites places = (n : ℕ) → or_else (slice_get places n) None ≡ place_in sites (record { 0 = n })

-- the routes are those of the scenario
pub record IsRouted (routes : Routes) (scenario : Scenario) : Type 0 where
  pub homes : (tx : Tx) → home_in routes.homes.items tx ≡ local_site scenario tx
  pub places : ArePlaces (sites scenario) routes.places.items
