-- When scripted stops are armed: behind each line of an actor at which no trip is in force, the next one that is left.
use Rattle.std.specs.Prelude.{ℕ, zero, suc, ◌≡◌, ◌<◌, false, Option, Some, None, List, [], ◌∷◌, ◌++◌, length, map, slice_get}
use Rattle.mdb_base.specs.Words.{how_many, those}
use Rattle.fed_rules.specs.declared.commands.Command.TheVariants as Cmd
use Rattle.fed_rules.specs.declared.commands.Stamped.{Stamped}
use Rattle.fed_rules.specs.declared.scenario.Scenario.{Scenario}
use Rattle.fed_rules.specs.declared.scenario.StopLine.{StopLine}
use Rattle.fed_rules.specs.CoordPast as Coordinator
use Rattle.fed_rules.specs.Happenings.{Trip}
use Rattle.fed_rules.specs.Plans.{stops_actor}
use Rattle.fed_rules.specs.SitePast as Site
use Rattle.fed_rules.specs.Story.{Story, coord_past, past_of}
use Rattle.trace_merge.specs.Traces.{Entry, IsTrace, lines_of, list_of}
use Rattle.host_laws.specs.CoordTurns.{coord_is_due}
use Rattle.host_laws.specs.Logs.{AreLists, AreLogs, CoordLog, Scripts, SiteLog}
use Rattle.host_laws.specs.Merged.{AreShort, story_in}
use Rattle.host_laws.specs.Plans.{most_lines}
use Rattle.host_laws.specs.Turns.{is_due, is_trip}

-- the scripted stops of an actor, in their order
abbrev pub stops_of : Scenario → ℕ → List StopLine
stops_of scenario actor = those (stops_actor actor) scenario.stops

-- at the end no stop is to be armed by a host that has room for a further line
pub record AreSettled (coordinator : CoordLog) (logs : List SiteLog) : Type 0 where
  pub coordinator_is : length coordinator.turns < most_lines → coord_is_due coordinator.plan coordinator.turns ≡ false
  pub each : (place : ℕ) (log : SiteLog) → slice_get logs place ≡ Some log → length log.turns < most_lines → is_due log.plan log.turns ≡ false

-- the story of these entries
abbrev pub story_to : Scenario → List Entry → Story
story_to scenario entries = story_in scenario (map (λ (entry : Entry). entry.line.line) entries)

-- the trip in force at an actor
abbrev pub trip_at : ℕ → Story → Option Trip
trip_at zero story = Coordinator.trip (coord_past story)
trip_at (suc n) story = Site.trip (past_of (record { 0 = suc n }) story)

-- how many stops of the actor were armed in these entries
abbrev pub armed_in : ℕ → List Entry → ℕ
armed_in actor entries = how_many (λ (line : Stamped). is_trip line.line.command) (lines_of actor entries)

-- the next stop of the actor that is left behind these entries
abbrev pub stop_left : Scenario → ℕ → List Entry → Option StopLine
stop_left scenario actor entries = slice_get (stops_of scenario actor) (armed_in actor entries)

-- the first of an actor's lines arms this stop
pub record ArmsFirst (actor : ℕ) (stop : StopLine) (lines : List Stamped) : Type 0 where
  pub line : Stamped
  pub first : slice_get lines 0 ≡ Some line
  pub arms : line.line.command ≡ Cmd.Trip actor stop.calls stop.cut

-- Take a line of an actor behind which no trip of that actor is in force, so one that arms no stop, and a stop of that actor is left. Where the
-- actor has made fewer lines than a host may, its next line arms the next stop that is left.
abbrev pub StopsAreArmed : Type 0
StopsAreArmed = (scripts : Scripts) (scenario : Scenario) (coordinator : CoordLog) (logs : List SiteLog) (lists : List (List Stamped)) (merged : List Stamped)
    → AreLogs scripts scenario coordinator logs → AreLists scenario coordinator logs lists → (trace : IsTrace lists merged) → AreShort coordinator logs
    → AreSettled coordinator logs
    → (before behind : List Entry) (entry : Entry) (stop : StopLine) → trace.entries ≡ before ++ entry ∷ behind
    → trip_at entry.actor (story_to scenario (before ++ entry ∷ [])) ≡ None → stop_left scenario entry.actor (before ++ entry ∷ []) ≡ Some stop
    → length (list_of lists entry.actor) < most_lines → ArmsFirst entry.actor stop (lines_of entry.actor behind)
