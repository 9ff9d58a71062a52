-- The places of what the coordinator's host sent last.
use Rattle.std.specs.Prelude.{◌-◌, Bool, cond, false, None, Option, Some, List, [], length, slice_get}
use Rattle.fed_rules.specs.declared.commands.Place.{Place}
use Rattle.fed_rules.specs.declared.commands.Stamped.{Stamped}
use Rattle.host_laws.specs.Turns.{is_trip}

-- whether the line, where there is one, arms a stop
abbrev pub arms_a_stop : Option Stamped → Bool
arms_a_stop None = false
arms_a_stop (Some line) = is_trip line.line.command

-- the places of what it sends
abbrev pub sends_of : Option Stamped → List Place
sends_of None = []
sends_of (Some line) = line.line.sends

-- the places of what the last line sends, or of what the one before it sends where the last one arms a stop
abbrev pub last_sends : List Stamped → List Place
last_sends lines =
    cond (arms_a_stop (slice_get lines (length lines - 1))) (sends_of (slice_get lines (length lines - 2))) (sends_of (slice_get lines (length lines - 1)))
