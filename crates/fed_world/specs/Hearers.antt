-- Who hears of a command and what is asked, computed from the scenario and from what was sent.
use Rattle.std.specs.Prelude.{ℕ, zero, suc, Option, Some, None}
use Rattle.mdb_base.specs.declared.names.SiteId.{SiteId}
use Rattle.mdb_base.specs.declared.names.Tx.{Tx}
use Rattle.fed_rules.specs.declared.messages.FromSite.{FromSite}
use Rattle.fed_rules.specs.declared.messages.ToSite.{ToSite}
use Rattle.fed_rules.specs.declared.scenario.Scenario.{Scenario}
use Rattle.fed_rules.specs.Scenarios.{local_site, sites}
use Rattle.local_dbms.specs.declared.asks.SiteAsk.{SiteAsk}
use Rattle.local_dbms.specs.declared.asks.SiteAsk.TheVariants as At
use Rattle.session_routes.specs.Routes.{place_in}
use Rattle.fed_world.specs.declared.asks.Asked.{Asked}
use Rattle.fed_world.specs.declared.asks.Asked.TheVariants.{Site, Coordinator, Nobody}
use Rattle.global_manager.specs.declared.asks.CoordAsk.{CoordAsk}
use Rattle.global_manager.specs.declared.asks.CoordAsk.TheVariants as Coord

-- the site at this place is asked, where there is one
abbrev pub at_place : Option ℕ → SiteAsk → Asked
at_place None ask = Nobody
at_place (Some place) ask = Site place ask

-- a declared site is asked
abbrev pub to_site : Scenario → SiteId → SiteAsk → Asked
to_site scenario site ask = at_place (place_in (sites scenario) site) ask

-- the site is asked, and where there is none, so much is
abbrev pub to_home : Scenario → Option SiteId → SiteAsk → Asked → Asked
to_home scenario None ask other = other
to_home scenario (Some site) ask other = to_site scenario site ask

-- the site of a local transaction is asked
abbrev pub to_local : Scenario → Tx → SiteAsk → Asked
to_local scenario tx ask = to_home scenario (local_site scenario tx) ask Nobody

-- the site of a local transaction is asked how it ended, and of another one the coordinator
abbrev pub to_fate : Scenario → Tx → Asked
to_fate scenario tx = to_home scenario (local_site scenario tx) (At.Fate tx) (Coordinator (Coord.Fate tx))

-- the site takes the message, where there is one
abbrev pub to_give : Scenario → SiteId → Option ToSite → Asked
to_give scenario site None = Nobody
to_give scenario site (Some message) = to_site scenario site (At.Give message)

-- the coordinator takes the message, where there is one
abbrev pub to_take : SiteId → Option FromSite → Asked
to_take site None = Nobody
to_take site (Some message) = Coordinator (Coord.Take site message)

-- an actor is asked: 0 is the coordinator
abbrev pub to_actor : Scenario → ℕ → CoordAsk → SiteAsk → Asked
to_actor scenario zero coordinator site = Coordinator coordinator
to_actor scenario (suc n) coordinator site = to_site scenario (record { 0 = suc n }) site
