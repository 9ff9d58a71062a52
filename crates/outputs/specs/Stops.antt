-- What some stop within the event of a command leaves on the disk of its actor, as it is after a failed disk call.
use Rattle.std.specs.Prelude.{ℕ, zero, suc, ◌≡◌, Some}
use Rattle.fed_rules.specs.declared.commands.Command.{Command}
use Rattle.fed_rules.specs.declared.events.CoordEvent.{CoordEvent}
use Rattle.fed_rules.specs.declared.events.SiteEvent.{SiteEvent}
use Rattle.fed_rules.specs.declared.scenario.Scenario.{Scenario}
use Rattle.fed_rules.specs.CoordPast.{CoordPast}
use Rattle.fed_rules.specs.Scenarios.{home_of}
use Rattle.fed_rules.specs.SitePast.{SitePast}
use Rattle.fed_rules.specs.SiteRecords.{Home}
use Rattle.fed_rules.specs.Story.{Story, at_coordinator, at_site, coord_past, happens, past_of}
use Rattle.held_disks.specs.Stops.{CoordStopsWithin, SiteStopsWithin}
use Rattle.fed_world.specs.Asks.{terms_of}

-- the command is this event of the coordinator, and its disk holds, as this fact says, what some stop within the event leaves
pub record CoordinatorStops (M : CoordPast → Type 0) (command : Command) (scenario : Scenario) (story : Story) : Type 0 where
  pub event : CoordEvent
  pub happens : happens scenario story command ≡ at_coordinator scenario story event
  pub stop : CoordStopsWithin M (terms_of scenario) (coord_past story) event

-- the command is this event of the site of this number, and its disk holds what some stop within the event leaves
pub record SiteStops (number : ℕ) (K : Home → SitePast → Type 0) (command : Command) (scenario : Scenario) (story : Story) : Type 0 where
  pub home : Home
  pub declared : home_of scenario home.site ≡ Some home
  pub number_is : number ≡ home.site.0
  pub event : SiteEvent
  pub happens : happens scenario story command ≡ at_site home story event
  pub stop : SiteStopsWithin (K home) home (past_of home.site story) event

-- so it is of the actor of this number
abbrev pub ActorStops : (CoordPast → Type 0) → (Home → SitePast → Type 0) → ℕ → Command → Scenario → Story → Type 0
ActorStops M K zero command scenario story = CoordinatorStops M command scenario story
ActorStops M K (suc n) command scenario story = SiteStops (suc n) K command scenario story
