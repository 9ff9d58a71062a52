-- Where no command is a check, the journals are all the records.
use Rattle.std.specs.Prelude.{◌≡◌, Bool, true, false, List}
use Rattle.mdb_base.specs.declared.names.SiteId.{SiteId}
use Rattle.mdb_base.specs.Words.{Each}
use Rattle.fed_rules.specs.declared.commands.Command.{Command}
use Rattle.fed_rules.specs.declared.commands.Command.TheVariants as Cmd
use Rattle.fed_rules.specs.declared.scenario.Scenario.{Scenario}
use Rattle.fed_rules.specs.Closing.{closed, finished_alone}
use Rattle.fed_rules.specs.CoordPast as Coordinator
use Rattle.fed_rules.specs.SitePast as Site
use Rattle.fed_rules.specs.SiteRecords.{Home}
use Rattle.fed_rules.specs.Story.{Story, coord_past, past_of, story_of}

-- whether a command asks for a Checkpoint
abbrev pub is_check : Command → Bool
is_check (Cmd.Check actor) = true
is_check command = false

abbrev pub AreUnchecked : List Command → Type 0
AreUnchecked commands = Each (λ command. is_check command ≡ false) commands

-- each journal is all the records
pub record AreWhole (story : Story) : Type 0 where
  pub sites : (home : Home) (site : SiteId) → Site.journal home (past_of site story) ≡ Site.records home (past_of site story)
  pub coordinator : Coordinator.journal (coord_past story) ≡ Coordinator.records (coord_past story)

-- so it is in the story of such commands
abbrev pub UncheckedJournalsAreWhole : Type 0
UncheckedJournalsAreWhole = (scenario : Scenario) (commands : List Command) → AreUnchecked commands → AreWhole (story_of scenario commands)

-- and closing a session and finishing each transaction alone add no check
abbrev pub EndsAreUnchecked : Type 0
EndsAreUnchecked = (scenario : Scenario) (commands : List Command) → AreUnchecked commands → AreUnchecked (finished_alone scenario (closed scenario commands))
