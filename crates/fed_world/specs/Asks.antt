-- What a command asks of an actor, as a request over the actor's own past.
use Rattle.std.specs.Prelude.{ℕ, ◌≡◌, slice_get, Some}
use Rattle.mdb_base.specs.declared.names.SiteId.{SiteId}
use Rattle.order_laws.specs.Chains.{In}
use Rattle.global_exec.specs.Pasts.{IsAmong}
use Rattle.fed_rules.specs.declared.answers.Answer.TheVariants as Say
use Rattle.fed_rules.specs.declared.commands.Command.{Command}
use Rattle.fed_rules.specs.declared.scenario.Scenario.{Scenario}
use Rattle.fed_rules.specs.Scenarios.{global_program, home_of, policy, protocols, sites}
use Rattle.fed_rules.specs.Sessions.{Session}
use Rattle.fed_rules.specs.SiteRecords.{Home}
use Rattle.fed_rules.specs.Story.{Story, Nowhere, coord_past, coord_requested, happens, past_of, requested, sent_to}
use Rattle.coord_tables.specs.Terms.{Terms}
use Rattle.local_dbms.specs.declared.asks.SiteAsk.{SiteAsk}
use Rattle.local_dbms.specs.declared.asks.SiteAsk.TheVariants as At
use Rattle.local_dbms.specs.Asks.{site_request}
use Rattle.global_manager.specs.declared.asks.CoordAsk.{CoordAsk}
use Rattle.global_manager.specs.declared.asks.CoordAsk.TheVariants as Coord
use Rattle.global_manager.specs.Asks.{coord_request}
use Rattle.fed_world.specs.Beginnings.{programs_at}
use Rattle.fed_world.specs.declared.asks.Asked.{Asked}
use Rattle.fed_world.specs.declared.asks.Asked.TheVariants.{Site, Coordinator, Nobody}

-- the terms of the coordinator of a scenario
abbrev pub terms_of : Scenario → Terms
terms_of scenario = record { protocols = protocols scenario; policy = policy scenario }

-- a message that is given was sent to the site
abbrev pub WasSent : SiteAsk → SiteId → Story → Type 0
WasSent (At.Give message) site story = In message (sent_to site story)
WasSent ask site story = Unit {0}

-- a message that is taken comes from a declared site
abbrev pub IsFromSite : CoordAsk → Scenario → Type 0
IsFromSite (Coord.Take site message) scenario = IsAmong site (protocols scenario)
IsFromSite ask scenario = Unit {0}

-- the command makes happen what this request of the site at this place comes to
pub record AsksSite (place : ℕ) (ask : SiteAsk) (command : Command) (session : Session) (story : Story) : Type 0 where
  pub home : Home
  pub declared : home_of session.plan home.site ≡ Some home
  pub at : slice_get (sites session.plan) place ≡ Some home.site
  pub happens : happens session.plan story command ≡ requested home story (site_request ask home (programs_at session home.site) (past_of home.site story))
  pub sent : WasSent ask home.site story

-- what this request of the coordinator comes to
pub record AsksCoordinator (ask : CoordAsk) (command : Command) (session : Session) (story : Story) : Type 0 where
  pub happens : happens session.plan story command ≡ coord_requested session.plan story (coord_request ask (terms_of session.plan) (global_program session.plan) (coord_past story))
  pub from : IsFromSite ask session.plan

-- who hears of the command, and what is asked
abbrev pub IsAsked : Asked → Command → Session → Story → Type 0
IsAsked (Site place ask) command session story = AsksSite place ask command session story
IsAsked (Coordinator ask) command session story = AsksCoordinator ask command session story
IsAsked Nobody command session story = happens session.plan story command ≡ Nowhere Say.None
