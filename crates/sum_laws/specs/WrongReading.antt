-- A reading that looks right and isn't: a restart of the coordinator that reads the records that stand on the disk, and not the Checkpoint.
use Rattle.std.specs.Prelude.{◌≡◌, true, false, List}
use Rattle.mdb_base.specs.declared.names.Tid.{Tid}
use Rattle.presumptions.specs.declared.Decision.TheVariants as Decided
use Rattle.fed_rules.specs.declared.commands.Command.{Command}
use Rattle.fed_rules.specs.declared.scenario.Scenario.{Scenario}
use Rattle.fed_rules.specs.CoordPast.{journal, records}
use Rattle.fed_rules.specs.CoordRecords.{is_kept, outcome}
use Rattle.fed_rules.specs.Scenarios.{protocols}
use Rattle.fed_rules.specs.Story.{coord_past, story_of}

-- of some story it forgets an attempt that is known after the restart, and takes its commit for an abort
pub record ForgetsACommit : Type 0 where
  pub scenario : Scenario
  pub commands : List Command  -- the last one first
  pub tid : Tid
  pub kept : is_kept (protocols scenario) (records (coord_past (story_of scenario commands))) tid ≡ true
  pub committed : outcome (records (coord_past (story_of scenario commands))) tid ≡ Decided.Commit
  pub missed : is_kept (protocols scenario) (journal (coord_past (story_of scenario commands))) tid ≡ false
  pub taken : outcome (journal (coord_past (story_of scenario commands))) tid ≡ Decided.Abort
