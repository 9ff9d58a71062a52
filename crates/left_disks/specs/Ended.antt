-- A session whose process ends behind any command. No byte that it wrote is lost, so its disks are those that it leaves where each actor is halted and
-- loses nothing.
use Rattle.std.specs.Prelude.{◌≡◌, ◌+◌, ◌<◌, ◌^◌, Result, List, ◌++◌, length}
use Rattle.mdb_base.specs.declared.names.Tid.{Tid}
use Rattle.mdb_base.specs.Words.{Each}
use Rattle.fed_rules.specs.declared.commands.Command.{Command}
use Rattle.fed_rules.specs.declared.commands.Command.TheVariants as Cmd
use Rattle.fed_rules.specs.declared.scenario.Scenario.{Scenario}
use Rattle.fed_rules.specs.Endings.{outcome_in}
use Rattle.fed_rules.specs.Plans.{IsScenario}
use Rattle.fed_rules.specs.Reports.{printed_order}
use Rattle.fed_rules.specs.Story.{story_of}
use Rattle.journal_disk.specs.Disk.{Seen}
use Rattle.found_disks.specs.declared.errors.ReopenErr.{ReopenErr}
use Rattle.found_disks.specs.declared.reading.Journals.{Journals}
use Rattle.found_disks.specs.Finding.{FindsAs}
use Rattle.found_disks.specs.Reading.{images_of}
use Rattle.held_disks.specs.Holding.{HoldAll}
use Rattle.left_disks.specs.Left.{FindsWhatWasLeft, IsLeft}

abbrev pub IsHalt : Command → Type 0
IsHalt (Cmd.Halt actor cut) = Unit {0}
IsHalt command = ⊥

-- with these halts behind its commands, the last one first, the session leaves the disks; each attempt keeps its outcome, and the printed order stays
pub record IsLeftByHalts (disks : List Seen) (scenario : Scenario) (commands : List Command) : Type 0 where
  pub halts : List Command
  pub are : Each IsHalt halts
  pub left : IsLeft disks scenario (halts ++ commands)
  pub outcomes : (tid : Tid) → outcome_in (story_of scenario (halts ++ commands)) tid ≡ outcome_in (story_of scenario commands) tid
  pub order : printed_order scenario (story_of scenario (halts ++ commands)) ≡ printed_order scenario (story_of scenario commands)

-- nine disks hold what the rules say behind any commands of a session that began with empty disks, whichever actors are up
pub record IsEnded (disks : List Seen) (scenario : Scenario) (commands : List Command) : Type 0 where
  pub whole : IsScenario scenario
  pub few : length commands + 9 < 2 ^ 30
  pub nine : length disks ≡ 9
  pub holds : HoldAll disks scenario (story_of scenario commands)

-- so the session leaves them
abbrev pub EndedSessionsLeaveDisks : Type 0
EndedSessionsLeaveDisks =
    (disks : List Seen) (scenario : Scenario) (commands : List Command) → IsEnded disks scenario commands → IsLeftByHalts disks scenario commands

-- and what is found on them is what it leaves, from which a session goes on rightly
abbrev pub EndedSessionsAreFoundAgain : Type 0
EndedSessionsAreFoundAgain =
    (disks : List Seen) (scenario : Scenario) (commands : List Command) → IsEnded disks scenario commands → (result : Result Journals ReopenErr)
    → FindsAs result (images_of disks)
    → (left : IsLeftByHalts disks scenario commands) × FindsWhatWasLeft result (images_of disks) scenario (story_of scenario (left.halts ++ commands))
