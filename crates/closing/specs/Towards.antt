-- What a world comes to that carries out some commands, or only the first of them.
use Rattle.std.specs.Prelude.{ℕ, ◌≡◌, ◌≤◌, ◌+◌, ◌^◌, Bool, List, ◌∷◌, ◌++◌, length, map}
use Rattle.fed_rules.specs.declared.commands.Command.{Command}
use Rattle.fed_rules.specs.Sessions.{Session}
use Rattle.journal_disk.specs.Disk.{Seen}
use Rattle.fed_world.specs.declared.errors.WorldErr.{WorldErr}
use Rattle.fed_world.specs.declared.errors.WorldErr.TheVariants as Err_is
use Rattle.fed_world.specs.declared.world.World.{World}
use Rattle.fed_world.specs.Beginnings.{made_up}
use Rattle.fed_world.specs.Faults.{RisesAt}
use Rattle.fed_world.specs.Worlds.{EachWhere, IsBroken, Stands}
use Rattle.closing.specs.Between.{WereCalm}

-- the numbers of all these commands fit, behind the lines with which the session begins
abbrev pub Fits : Session → List Command → Type 0
Fits session commands = made_up session + length commands ≤ 2 ^ 30

-- the numbers of what these become fit
abbrev pub WillFit : (Session → List Command → List Command) → Session → List Command → Type 0
WillFit whole session commands = Fits session (whole session commands)

-- memory was wanting behind some of the commands: they were carried out
pub record IsShort (tells : Bool) (world : World) (disks : List Seen) (whole : List Command) (session : Session) (commands : List Command) : Type 0 where
  pub done : List Command
  pub left : List Command
  pub of_whole : whole ≡ left ++ (done ++ commands)
  pub stood : Stands tells world disks session (done ++ commands)

-- a disk call failed at one of the commands: those before it were carried out, and the session stood behind them while no count of faults had risen. From
-- the disks as they were then, the count of this disk rose, and no other
pub record BreaksAt {D : Type 0} (seen : D → Seen) (number : ℕ) (tells : Bool) (old : List Seen) (world : World) (disks : List Seen) (whole : List Command) (session : Session) (commands : List Command) : Type 0 where
  pub command : Command
  pub done : List Command
  pub left : List Command
  pub of_whole : whole ≡ left ++ command ∷ (done ++ commands)
  pub was : World
  pub before : List Seen
  pub were : WereCalm seen old before
  pub stood : Stands tells was before session (done ++ commands)
  pub rose : RisesAt number before disks
  pub broken : IsBroken number tells world disks command session (done ++ commands)

-- a world that has these commands behind it fails on the way to all of them; the old disks are those with which it began
abbrev pub FailsToward : {D : Type 0} → (D → Seen) → Bool → WorldErr → List Seen → World → List Seen → List Command → Session → List Command → Type 0
FailsToward seen tells Err_is.Memory old world disks whole session commands = IsShort tells world disks whole session commands
FailsToward seen tells (Err_is.Disk number) old world disks whole session commands = BreaksAt seen number tells old world disks whole session commands

-- what comes of a call, from an old world with these disks to a new one with those
module _ {D : Type 0} (seen : D → Seen) (tells : Bool) (old : World) (before : List D) (new : World) (after : List D) where
  -- behind commands for which the old world stood, where this may come, the new one has all these commands behind it
  abbrev pub ReachesWhere : (Session → List Command → Type 0) → (Session → List Command → List Command) → Type 0
  ReachesWhere Can whole = EachWhere (Stands tells old (map seen before)) Can (λ session commands. Stands tells new (map seen after) session (whole session commands))

  -- or it fails on the way to them, for this reason
  abbrev pub FallsShortWhere : (Session → List Command → Type 0) → (Session → List Command → List Command) → WorldErr → Type 0
  FallsShortWhere Can whole why =
      EachWhere (Stands tells old (map seen before)) Can (λ session commands. FailsToward seen tells why (map seen before) new (map seen after) (whole session commands) session commands)

  -- so it is where the numbers of all these commands fit
  abbrev pub Reaches : (Session → List Command → List Command) → Type 0
  Reaches whole = ReachesWhere (WillFit whole) whole

  abbrev pub FallsShort : (Session → List Command → List Command) → WorldErr → Type 0
  FallsShort whole why = FallsShortWhere (WillFit whole) whole why
