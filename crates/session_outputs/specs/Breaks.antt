-- What a failed disk call leaves on the nine disks.
use Rattle.std.specs.Prelude.{ℕ, ◌≡◌, Some, List, ◌∷◌, ◌++◌, slice_get}
use Rattle.mdb_base.specs.declared.names.SiteId.{SiteId}
use Rattle.fed_rules.specs.declared.commands.Command.{Command}
use Rattle.fed_rules.specs.declared.scenario.Scenario.{Scenario}
use Rattle.fed_rules.specs.Disk.{empty_disk}
use Rattle.fed_rules.specs.Scenarios.{home_of, sites}
use Rattle.fed_rules.specs.SitePast.{set_up_calls}
use Rattle.fed_rules.specs.SiteRecords.{Home}
use Rattle.fed_rules.specs.Story.{Story}
use Rattle.journal_disk.specs.Disk.{Seen}
use Rattle.site_core.specs.Store.{SomeStop}
use Rattle.fed_world.specs.Faults.{RisesAt}
use Rattle.closing.specs.Between.{WereCalm}
use Rattle.held_disks.specs.Holding.{CoordHolds, HoldAll, HoldOthers, SiteHolds}
use Rattle.outputs.specs.Stops.{ActorStops}
use Rattle.session_outputs.specs.Disks.{AreSetUp, NothingBut}

-- behind these commands a call of this disk failed within the event of the next one. Before that the disks held what the rules say behind these commands,
-- and no count of faults had risen; from then on the count of this disk rose and no other. It holds what some stop within that event leaves, and each
-- other disk what the rules say
pub record BreaksAtNext {D : Type 0} (seen : D → Seen) (number : ℕ) (old new : List Seen) (command : Command) (scenario : Scenario) (story : Story) : Type 0 where
  pub before : List Seen
  pub were : WereCalm seen old before
  pub held : HoldAll before scenario story
  pub rose : RisesAt number before new
  pub disk : Seen
  pub own : slice_get new number ≡ Some disk
  pub stop : ActorStops (CoordHolds disk.image) (SiteHolds disk.image) number command scenario story
  pub others : HoldOthers number new scenario story

-- a call of this disk failed while its site was set up: its count of faults rose and no other, it holds what some stop within the set-up leaves, the
-- sites before it are set up, and nothing is on any other disk
pub record BreaksSetUp (number : ℕ) (old new : List Seen) (scenario : Scenario) : Type 0 where
  pub done : List SiteId
  pub left : List SiteId
  pub home : Home
  pub number_is : number ≡ home.site.0
  pub declared : home_of scenario home.site ≡ Some home
  pub all : sites scenario ≡ done ++ home.site ∷ left
  pub rose : RisesAt number old new
  pub disk : Seen
  pub own : slice_get new number ≡ Some disk
  pub stop : SomeStop disk.image empty_disk (set_up_calls home)
  pub set_up : AreSetUp done new scenario
  pub empty : NothingBut (home.site ∷ done) new
