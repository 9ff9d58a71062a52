-- Routes among the declared sites of a scenario and its transactions are its routes; a site that is set up is that of its line.
use Rattle.std.proofs.Common.{◌≡◌, Bool, Some, List, [], Result, Ok, Err, IfOk, ◌∙◌, ap, subst}
use Rattle.mdb_base.specs.declared.names.Memory.{Memory}
use Rattle.mdb_base.specs.declared.names.SiteId.{SiteId}
use Rattle.mdb_base.specs.declared.rows.Put.{Put}
use Rattle.mdb_base.specs.Words.{first_where}
use Rattle.fed_rules.specs.declared.scenario.Scenario.{Scenario}
use Rattle.fed_rules.specs.declared.scenario.SiteLine.{SiteLine}
use Rattle.fed_rules.specs.declared.scenario.TxLine.{TxLine}
use Rattle.fed_rules.specs.Plans.{declares}
use Rattle.fed_rules.specs.Scenarios.{home_of, items_of, sites}
use Rattle.fed_rules.specs.SiteRecords.{Home}
use Rattle.actor_store.specs.declared.errors.StepErr.{StepErr}
use Rattle.any_engine.specs.declared.engine.AnyEngine.{AnyEngine}
use Rattle.any_engine.specs.Stands as Engines
use Rattle.journal_disk.specs.Disk.{Seen}
use Rattle.local_dbms.specs.declared.dbms.LocalDbms.{LocalDbms}
use Rattle.local_dbms.specs.Stands as Dbms
use Rattle.local_dbms.specs.Stands.{home_from, own_programs}
use Rattle.session_routes.specs.declared.routes.Routes.{Routes}
use Rattle.session_routes.specs.Routes.{AreHomes, ArePlaces, IsRouted, site_by}
use Rattle.fed_world.proofs.DeclaredSites.{its_home}

-- routes among the declared sites
pub are_routed : (r : Result Routes Memory) (scenario : Scenario) (declared : List SiteId) (lines : List TxLine) → declared ≡ sites scenario → lines ≡ scenario.transactions
    → IfOk r (λ (routes : Routes). AreHomes lines routes.homes.items) → IfOk r (λ (routes : Routes). ArePlaces declared routes.places.items)
    → IfOk r (λ (routes : Routes). IsRouted routes scenario)
are_routed (Ok routes) scenario declared lines all same homes places = record {
  homes = λ tx. homes tx ∙ ap (λ (ls : List TxLine). site_by ls tx) same;
  places = subst (λ (zs : List SiteId). ArePlaces zs routes.places.items) all places;
}
are_routed (Err why) scenario declared lines all same homes places = tt

-- the site of a line
pub site_stands : (r : Result (LocalDbms AnyEngine) StepErr) (tells : Bool) (seen : Seen) (scenario : Scenario) (line : SiteLine) (rows : List Put) (lines : List TxLine)
    → first_where (declares line.site) scenario.sites ≡ Some line → rows ≡ items_of scenario.items line.site → lines ≡ scenario.transactions
    → IfOk r (λ (dbms : LocalDbms AnyEngine). Dbms.Stands Engines.Stands tells dbms seen (home_from line rows) (own_programs line.site lines) [])
    → IfOk r (λ (dbms : LocalDbms AnyEngine). (home : Home) → home_of scenario line.site ≡ Some home → Dbms.Stands Engines.Stands tells dbms seen home (own_programs line.site scenario.transactions) [])
site_stands (Ok dbms) tells seen scenario line rows lines own is same stood = λ home declared.
    subst (λ (h : Home). Dbms.Stands Engines.Stands tells dbms seen h (own_programs line.site scenario.transactions) []) (its_home scenario line rows home own is declared)
    (subst (λ (ls : List TxLine). Dbms.Stands Engines.Stands tells dbms seen (home_from line rows) (own_programs line.site ls) []) same stood)
site_stands (Err why) tells seen scenario line rows lines own is same stood = tt
