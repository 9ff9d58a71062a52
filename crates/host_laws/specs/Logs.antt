-- What the hosts of a run leave, by its scenario: the lines of each with what they took, and the packets that came over its rings.
use Rattle.std.specs.Prelude.{ℕ, ◌≡◌, ◌≤◌, Bool, true, false, Some, None, List, [], length, map, reverse, slice_get}
use mathlib.Core.List.{IsPrefix}
use Rattle.mdb_base.specs.declared.names.SiteId.{SiteId}
use Rattle.mdb_base.specs.Words.{Each, found, those}
use Rattle.fed_rules.specs.declared.commands.Stamped.{Stamped}
use Rattle.fed_rules.specs.declared.scenario.Scenario.{Scenario}
use Rattle.fed_rules.specs.Plans.{IsScenario, stops_actor}
use Rattle.fed_rules.specs.Scenarios.{global_program, home_of, policy, protocols, sites}
use Rattle.fed_messages.specs.declared.Packet.{Packet}
use Rattle.fed_rules.specs.OwnPrograms.{own_programs}
use Rattle.scripted_link.specs.declared.script.FateAt.{FateAt}
use Rattle.scripted_link.specs.Script.{let_through}
use Rattle.trace_merge.specs.Traces.{list_of}
use Rattle.host_laws.specs.CoordHearing.{HasHeardFrom}
use Rattle.host_laws.specs.CoordHistory.{IsCoordHistory}
use Rattle.host_laws.specs.CoordPlans.{CoordPlan}
use Rattle.host_laws.specs.CoordTurns.{CoordTurn, offered_to, sent_to, took_from}
use Rattle.host_laws.specs.Hearing.{HasHeard}
use Rattle.host_laws.specs.History.{IsHistory}
use Rattle.host_laws.specs.Plans.{SitePlan}
use Rattle.host_laws.specs.Turns.{SiteTurn, packets_by, sent_by}
use Rattle.host_laws.specs.Written.{FitsFromSite, FitsToSite}

-- what a site's host leaves: what was settled of it, its lines, the newest first, and the packets that it took, the oldest first
pub record SiteLog : Type 0 where
  pub plan : SitePlan
  pub turns : List SiteTurn
  pub took : List Packet

-- what the coordinator's host leaves: the packets that it took, by rising site
pub record CoordLog : Type 0 where
  pub plan : CoordPlan
  pub turns : List CoordTurn
  pub tooks : List (List Packet)

-- the scripts of the rings to the sites, and of those from them
abbrev pub Scripts : Type 0
Scripts = Bool → SiteId → List FateAt

-- what was taken from a ring is the first of what its script lets through of the packets that were offered
abbrev pub IsDelivered : List FateAt → List Packet → List Packet → Type 0
IsDelivered script offered took = IsPrefix took (let_through script offered)

-- the host of the site kept the rules, with the stop lines of its site, and the numbers of what it sent have their bytes
pub record IsSiteLog (scenario : Scenario) (site : SiteId) (log : SiteLog) : Type 0 where
  pub home : home_of scenario site ≡ Some log.plan.home
  pub programs : log.plan.programs ≡ own_programs site scenario.transactions
  pub stops : log.plan.stops ≡ those (stops_actor site.0) scenario.stops
  pub right : IsHistory log.plan log.turns
  pub heard : HasHeard log.plan.programs log.took (found (λ (turn : SiteTurn). turn.took) log.turns)
  pub fit : Each FitsFromSite (sent_by log.plan log.turns)

-- so did the coordinator's, with its own stop lines
pub record IsCoordLog (scenario : Scenario) (log : CoordLog) : Type 0 where
  pub terms : log.plan.terms ≡ record { protocols = protocols scenario; policy = policy scenario }
  pub programs : log.plan.programs ≡ global_program scenario
  pub stops : log.plan.stops ≡ those (stops_actor 0) scenario.stops
  pub right : IsCoordHistory log.plan log.turns
  pub count : length log.tooks ≡ length (sites scenario)
  pub heard : (place : ℕ) (site : SiteId) (took : List Packet) → slice_get (sites scenario) place ≡ Some site → slice_get log.tooks place ≡ Some took
      → HasHeardFrom took (took_from site log.turns)
  pub fit : (place : ℕ) (site : SiteId) → slice_get (sites scenario) place ≡ Some site → Each FitsToSite (sent_to log.plan site log.turns)

-- each packet that a host took came over the ring to it
pub record IsLinked (scripts : Scripts) (coordinator : CoordLog) (site : SiteId) (log : SiteLog) (took : List Packet) : Type 0 where
  pub to : IsDelivered (scripts true site) (offered_to coordinator.plan site coordinator.turns) log.took
  pub from : IsDelivered (scripts false site) (packets_by log.plan log.turns) took

-- these are the hosts of a run of the scenario: the coordinator's, and those of the declared sites, by rising number
pub record AreLogs (scripts : Scripts) (scenario : Scenario) (coordinator : CoordLog) (logs : List SiteLog) : Type 0 where
  pub whole : IsScenario scenario
  pub coordinator_is : IsCoordLog scenario coordinator
  pub count : length logs ≡ length (sites scenario)
  pub site_is : (place : ℕ) (site : SiteId) (log : SiteLog) → slice_get (sites scenario) place ≡ Some site → slice_get logs place ≡ Some log
      → IsSiteLog scenario site log
  pub linked : (place : ℕ) (site : SiteId) (log : SiteLog) (took : List Packet) → slice_get (sites scenario) place ≡ Some site → slice_get logs place ≡ Some log
      → slice_get coordinator.tooks place ≡ Some took → IsLinked scripts coordinator site log took

-- the lists of the actors, by number: each is that of its host, and an undeclared site has made no line
pub record AreLists (scenario : Scenario) (coordinator : CoordLog) (logs : List SiteLog) (lists : List (List Stamped)) : Type 0 where
  pub coordinator_is : list_of lists 0 ≡ reverse (map (λ (turn : CoordTurn). turn.line) coordinator.turns)
  pub site_is : (place : ℕ) (site : SiteId) (log : SiteLog) → slice_get (sites scenario) place ≡ Some site → slice_get logs place ≡ Some log
      → list_of lists site.0 ≡ reverse (map (λ (turn : SiteTurn). turn.line) log.turns)
  pub others : (actor : ℕ) → 1 ≤ actor → home_of scenario (record { 0 = actor }) ≡ None → list_of lists actor ≡ []
