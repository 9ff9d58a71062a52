-- A session that goes on from usable disks and is itself stopped: it leaves disks from which a session goes on again.
use Rattle.std.specs.Prelude.{ℕ, ◌≡◌, ◌+◌, ◌<◌, ◌^◌, List, [], ◌∷◌, length}
use Rattle.mdb_base.specs.declared.names.Tid.{Tid}
use Rattle.mdb_base.specs.Words.{Each}
use Rattle.fed_rules.specs.declared.commands.Command.{Command}
use Rattle.fed_rules.specs.declared.records.SiteRecord.{SiteRecord}
use Rattle.fed_rules.specs.declared.scenario.Scenario.{Scenario}
use Rattle.fed_rules.specs.Endings.{outcome_in}
use Rattle.fed_rules.specs.Found.{Found, Journal}
use Rattle.fed_rules.specs.Plans.{IsScenario}
use Rattle.fed_rules.specs.Resumed.{going_on, left_by, plan_of, resumed}
use Rattle.fed_rules.specs.SiteRecords.{epoch_of}
use Rattle.fed_rules.specs.Story.{Story, story_in, story_of}
use Rattle.fed_rules.specs.Usable.{read}
use Rattle.closing_laws.specs.AtRest.{IsAtRest}
use Rattle.found_laws.specs.FoundSessions.{AreUsable, IsOfFormat}

-- below 2^31 the epoch leaves room for so many starts
abbrev pub HasRoom : ℕ → Journal SiteRecord → Type 0
HasRoom starts journal = epoch_of (read journal.records) + starts < 2 ^ 31

-- what the session leaves on its disks behind these commands
abbrev pub left_again : Found → List Command → Found
left_again found commands = left_by (plan_of found) (story_in (going_on found) commands)

-- it is usable, and of the format
pub record IsFoundAgain (found : Found) : Type 0 where
  pub usable : AreUsable found
  pub format : Each IsOfFormat found.sites

-- from usable disks, whoever left them, a session goes on that leaves usable ones, behind whatever commands, so behind every stop too. It draws no
-- number; each start raises an epoch, so the epochs that are found leave room for as many as there are commands, and what they leave more is left
abbrev pub UsableSessionsLeaveUsable : Type 0
UsableSessionsLeaveUsable =
    (found : Found) → AreUsable found → Each IsOfFormat found.sites → (commands : List Command) → Each (HasRoom (length commands)) found.sites
    → IsFoundAgain (left_again found commands)
    × ((n : ℕ) → Each (HasRoom (length commands + n)) found.sites → Each (HasRoom n) (left_again found commands).sites)

-- and the session that goes on from these gives each attempt the outcome that the first one gives it where nothing stops it
abbrev pub StoppedSessionsKeepOutcomes : Type 0
StoppedSessionsKeepOutcomes =
    (found : Found) → AreUsable found → Each IsOfFormat found.sites → (commands : List Command) → Each (HasRoom (length commands)) found.sites → (tid : Tid)
    → outcome_in (resumed (left_again found commands)) tid ≡ outcome_in (resumed found) tid

-- and is at rest at its end
abbrev pub StoppedSessionsRest : Type 0
StoppedSessionsRest =
    (found : Found) → AreUsable found → Each IsOfFormat found.sites → (commands : List Command) → Each (HasRoom (length commands)) found.sites
    → IsAtRest (plan_of (left_again found commands)) (resumed (left_again found commands))

-- every disk that a session leaves that began with empty disks and has fewer lines than 2^30 is such a disk, with room for fewer than 2^30 starts
abbrev pub LeftDisksAreFound : Type 0
LeftDisksAreFound =
    (scenario : Scenario) → IsScenario scenario → (commands : List Command) → length commands < 2 ^ 30
    → IsFoundAgain (left_by scenario (story_of scenario commands))
    × ((n : ℕ) → n < 2 ^ 30 → Each (HasRoom n) (left_by scenario (story_of scenario commands)).sites)

-- the disks behind as many sessions that go on one after the other, each of which is left behind its commands; the last one stands first
abbrev pub left_after : Found → List (List Command) → Found
left_after found [] = found
left_after found (commands ∷ before) = left_again (left_after found before) commands

-- the commands of all of them
abbrev pub lines_of : List (List Command) → ℕ
lines_of [] = 0
lines_of (commands ∷ before) = length commands + lines_of before

-- the disks are usable and of the format, and the session that goes on from them keeps each outcome of the story and is at rest at its end
pub record KeepsOutcomes (story : Story) (found : Found) : Type 0 where
  pub again : IsFoundAgain found
  pub outcomes : (tid : Tid) → outcome_in (resumed found) tid ≡ outcome_in story tid
  pub rests : IsAtRest (plan_of found) (resumed found)

-- so whatever stops the sessions that go on, however often, as long as they have fewer commands than 2^30 together
abbrev pub StopsKeepOutcomes : Type 0
StopsKeepOutcomes =
    (scenario : Scenario) → IsScenario scenario → (commands : List Command) → length commands < 2 ^ 30 → (sessions : List (List Command)) → lines_of sessions < 2 ^ 30
    → KeepsOutcomes (story_of scenario commands) (left_after (left_by scenario (story_of scenario commands)) sessions)
