-- What the lines of a run's hosts are when they stand in one list by their stamps.
use Rattle.std.specs.Prelude.{ℕ, ◌≡◌, ◌≤◌, true, false, cond, zero, suc, Option, Some, None, List, [], ◌∷◌, ◌++◌, length, map, reverse, slice_get}
use mathlib.Core.List.{IsPrefix}
use Rattle.mdb_base.specs.declared.names.SiteId.{SiteId}
use Rattle.mdb_base.specs.Names.{same_site}
use Rattle.mdb_base.specs.Words.{found}
use Rattle.fed_rules.specs.declared.commands.Command.{Command}
use Rattle.fed_rules.specs.declared.commands.Command.TheVariants as Cmd
use Rattle.fed_rules.specs.declared.commands.Line.{Line}
use Rattle.fed_rules.specs.declared.commands.Stamped.{Stamped}
use Rattle.fed_rules.specs.declared.scenario.Scenario.{Scenario}
use Rattle.fed_rules.specs.Right.{IsRightStory}
use Rattle.fed_rules.specs.Scenarios.{sites}
use Rattle.fed_rules.specs.Story as Told
use Rattle.fed_rules.specs.Story.{Story, coord_past, past_of, story_of}
use Rattle.scripted_link.specs.declared.script.FateAt.{FateAt}
use Rattle.scripted_link.specs.Script.{let_through}
use Rattle.trace_merge.specs.Traces.{IsTrace}
use Rattle.fed_messages.specs.declared.Packet.{Packet}
use Rattle.host_laws.specs.CoordTurns.{coord_past_of, sent_to}
use Rattle.host_laws.specs.Logs.{AreLists, AreLogs, CoordLog, Scripts, SiteLog}
use Rattle.host_laws.specs.Plans.{most_lines}
use Rattle.host_laws.specs.Turns as Site
use Rattle.host_laws.specs.Turns.{sent_by}

-- the lines without their stamps
abbrev pub lines_in : List Stamped → List Line
lines_in merged = map (λ (stamped : Stamped). stamped.line) merged

-- the commands of lines, the last one first
abbrev pub commands_of : List Line → List Command
commands_of lines = map (λ (line : Line). line.command) (reverse lines)

-- the story of the scenario and these lines
abbrev pub story_in : Scenario → List Line → Story
story_in scenario lines = story_of scenario (commands_of lines)

-- the site's past and its messages both ways are those of its host
pub record TellsSite (story : Story) (coordinator : CoordLog) (site : SiteId) (log : SiteLog) : Type 0 where
  pub past : past_of site story ≡ Site.past_of log.plan log.turns
  pub to : Told.sent_to site story ≡ sent_to coordinator.plan site coordinator.turns
  pub from : Told.sent_from site story ≡ sent_by log.plan log.turns

-- the lines are right, and the story that they tell is that of the hosts
pub record TellsLogs (scenario : Scenario) (coordinator : CoordLog) (logs : List SiteLog) (lines : List Line) : Type 0 where
  pub right : IsRightStory scenario (reverse lines)
  pub coordinator_is : coord_past (story_in scenario lines) ≡ coord_past_of coordinator.plan coordinator.turns
  pub each : (place : ℕ) (site : SiteId) (log : SiteLog) → slice_get (sites scenario) place ≡ Some site → slice_get logs place ≡ Some log
      → TellsSite (story_in scenario lines) coordinator site log

-- no host made more lines than it may: so the number and the stamp of each message have their bytes, and none is left aside for a great stamp
abbrev pub AreShort : CoordLog → List SiteLog → Type 0
AreShort coordinator logs = (length coordinator.turns ≤ most_lines) × ((place : ℕ) (log : SiteLog) → slice_get logs place ≡ Some log → length log.turns ≤ most_lines)

-- Whatever the interleaving, the lines of all hosts by their stamps are the right lines of their commands, and tell what the hosts did: each
-- delivery stands behind its sending, since a message's stamp is less than that of the line that takes it (Lamport 1978).
abbrev pub MergedLinesAreRight : Type 0
MergedLinesAreRight = (scripts : Scripts) (scenario : Scenario) (coordinator : CoordLog) (logs : List SiteLog) (lists : List (List Stamped)) (merged : List Stamped)
    → AreLogs scripts scenario coordinator logs → AreLists scenario coordinator logs lists → IsTrace lists merged → AreShort coordinator logs
    → TellsLogs scenario coordinator logs (lines_in merged)

-- the place that a line gives of the messages to the site
abbrev pub given_place : SiteId → Line → Option ℕ
given_place site line = of_command site line.command where
  of_command : SiteId → Command → Option ℕ
  of_command site (Cmd.Give own place) = cond (same_site own site) (Some place) None
  of_command site command = None

-- the place that a line takes of the messages from the site
abbrev pub taken_place : SiteId → Line → Option ℕ
taken_place site line = of_command site line.command where
  of_command : SiteId → Command → Option ℕ
  of_command site (Cmd.Take own place) = cond (same_site own site) (Some place) None
  of_command site command = None

-- the first places, by rising number
abbrev pub first_places : ℕ → List ℕ
first_places zero = []
first_places (suc n) = first_places n ++ n ∷ []

-- the host took as many packets as its lines take messages, so none was left aside, and those are the first ones that the script lets
-- through of the messages that were sent
pub record IsCarried (places : List ℕ) (script : List FateAt) (sent : ℕ) (took : List Packet) : Type 0 where
  pub all : length places ≡ length took
  pub first : IsPrefix places (let_through script (first_places sent))

-- over both rings of the site
pub record CarriesSite (scripts : Scripts) (story : Story) (lines : List Line) (site : SiteId) (log : SiteLog) (took : List Packet) : Type 0 where
  pub to : IsCarried (found (given_place site) lines) (scripts true site) (length (Told.sent_to site story)) log.took
  pub from : IsCarried (found (taken_place site) lines) (scripts false site) (length (Told.sent_from site story)) took

-- No packet is left aside, and over each ring come the first messages that its script lets through, in their order.
abbrev pub MessagesAreCarried : Type 0
MessagesAreCarried = (scripts : Scripts) (scenario : Scenario) (coordinator : CoordLog) (logs : List SiteLog) (lists : List (List Stamped)) (merged : List Stamped)
    → AreLogs scripts scenario coordinator logs → AreLists scenario coordinator logs lists → IsTrace lists merged → AreShort coordinator logs
    → (place : ℕ) (site : SiteId) (log : SiteLog) (took : List Packet) → slice_get (sites scenario) place ≡ Some site → slice_get logs place ≡ Some log
    → slice_get coordinator.tooks place ≡ Some took
    → CarriesSite scripts (story_in scenario (lines_in merged)) (lines_in merged) site log took
