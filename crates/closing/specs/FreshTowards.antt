-- What a world comes to whose session began with empty disks: the session is told by its scenario.
use Rattle.std.specs.Prelude.{ℕ, ◌<◌, ◌^◌, Bool, List, length, map}
use Rattle.fed_rules.specs.declared.commands.Command.{Command}
use Rattle.fed_rules.specs.declared.scenario.Scenario.{Scenario}
use Rattle.fed_rules.specs.Sessions.{fresh}
use Rattle.journal_disk.specs.Disk.{Seen}
use Rattle.fed_world.specs.declared.errors.WorldErr.{WorldErr}
use Rattle.fed_world.specs.declared.world.World.{World}
use Rattle.fed_world.specs.FreshWorlds.{Stands}
use Rattle.fed_world.specs.Worlds.{EachWhere}
use Rattle.closing.specs.Steps as Steps
use Rattle.closing.specs.Towards as Towards
use Rattle.closing.specs.Towards.{Fits}

-- the numbers of what these become fit
abbrev pub WillFit : (Scenario → List Command → List Command) → Scenario → List Command → Type 0
WillFit whole scenario commands = Fits (fresh scenario) (whole scenario commands)

-- the numbers of these commands behind those before fit
abbrev pub FitWith : List Command → Scenario → List Command → Type 0
FitWith more scenario commands = Steps.FitWith more (fresh scenario) commands

-- there are few enough commands that the numbers of those that close the session fit: they are at most 1,638,418, however long it was
abbrev pub CanClose : Scenario → List Command → Type 0
CanClose scenario commands = length commands < 2 ^ 29

-- memory was wanting behind some of the commands: they were carried out
abbrev pub IsShort : Bool → World → List Seen → List Command → Scenario → List Command → Type 0
IsShort tells world disks whole scenario commands = Towards.IsShort tells world disks whole (fresh scenario) commands

-- a disk call failed at one of the commands: those before it were carried out, while no count of faults had risen
abbrev pub BreaksAt : {D : Type 0} → (D → Seen) → ℕ → Bool → List Seen → World → List Seen → List Command → Scenario → List Command → Type 0
BreaksAt seen number tells old world disks whole scenario commands = Towards.BreaksAt seen number tells old world disks whole (fresh scenario) commands

-- a world that has these commands behind it fails on the way to all of them
abbrev pub FailsToward : {D : Type 0} → (D → Seen) → Bool → WorldErr → List Seen → World → List Seen → List Command → Scenario → List Command → Type 0
FailsToward seen tells why old world disks whole scenario commands = Towards.FailsToward seen tells why old world disks whole (fresh scenario) commands

-- what comes of a call, from an old world with these disks to a new one with those
module _ {D : Type 0} (seen : D → Seen) (tells : Bool) (old : World) (before : List D) (new : World) (after : List D) where
  -- behind commands for which the old world stood, where this may come, the new one has all these commands behind it
  abbrev pub ReachesWhere : (Scenario → List Command → Type 0) → (Scenario → List Command → List Command) → Type 0
  ReachesWhere Can whole = EachWhere (Stands tells old (map seen before)) Can (λ scenario commands. Stands tells new (map seen after) scenario (whole scenario commands))

  -- or it fails on the way to them, for this reason
  abbrev pub FallsShortWhere : (Scenario → List Command → Type 0) → (Scenario → List Command → List Command) → WorldErr → Type 0
  FallsShortWhere Can whole why =
      EachWhere (Stands tells old (map seen before)) Can (λ scenario commands. FailsToward seen tells why (map seen before) new (map seen after) (whole scenario commands) scenario commands)

  -- so it is where the numbers of all these commands fit
  abbrev pub Reaches : (Scenario → List Command → List Command) → Type 0
  Reaches whole = ReachesWhere (WillFit whole) whole

  abbrev pub FallsShort : (Scenario → List Command → List Command) → WorldErr → Type 0
  FallsShort whole why = FallsShortWhere (WillFit whole) whole why
