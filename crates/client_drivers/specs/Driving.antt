-- What a driver did: its calls are those of a table, and so is its end.
use Rattle.std.specs.Prelude.{◌≡◌, List, [], ◌∷◌, ◌++◌, Result}
use Rattle.line_text.specs.declared.error.DoorErr.{DoorErr}
use Rattle.client_drivers.specs.declared.doors.Driven.{Driven}
use Rattle.client_drivers.specs.Calls.{Called}
use Rattle.client_drivers.specs.Table.{Turn, Makes, Ends}

-- each call, the latest first, is the one that the table has behind the calls before it
abbrev pub Follows : (List Called → Turn) → List Called → Type 0
Follows table [] = Unit {0}
Follows table (c ∷ before) = (table before ≡ Makes c.command) × Follows table before

-- The calls that were made, the latest first: they are the table's, behind them the table ends with this result, and a door that tells its
-- calls tells just these behind what it told before.
pub record IsDriven {D : Type 0} (tells : D → List Called → Type 0) (table : List Called → Turn) (old new : D) (result : Result Driven DoorErr) : Type 0 where
  pub calls : List Called
  pub told : (before : List Called) → tells old before → tells new (calls ++ before)
  pub follows : Follows table calls
  pub ends : table calls ≡ Ends result
