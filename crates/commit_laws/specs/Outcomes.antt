-- All sites that settle an attempt settle it alike, by its outcome.
use Rattle.std.specs.Prelude.{◌≡◌, ◌↔◌, Some, List}
use Rattle.mdb_base.specs.declared.names.SiteId.{SiteId}
use Rattle.mdb_base.specs.declared.names.Tid.{Tid}
use Rattle.mdb_base.specs.Words.{Among}
use Rattle.presumptions.specs.declared.Decision.{Decision}
use Rattle.presumptions.specs.declared.Decision.TheVariants as Decided
use Rattle.fed_rules.specs.declared.commands.Command.{Command}
use Rattle.fed_rules.specs.declared.records.CoordRecord.{CoordRecord}
use Rattle.fed_rules.specs.declared.scenario.Scenario.{Scenario}
use Rattle.fed_rules.specs.CoordPast as Coordinator
use Rattle.fed_rules.specs.CoordRecords.{outcome}
pub use Rattle.fed_rules.specs.Endings.{Settles}
use Rattle.fed_rules.specs.Scenarios.{home_of}
use Rattle.fed_rules.specs.SiteRecords.{Home}
use Rattle.fed_rules.specs.Story.{coord_past, past_of, story_of}
use Rattle.coord_laws.specs.Records.{IsCommit}

-- what the coordinator keeps at the end of the story of these commands
abbrev pub coordinator_keeps : Scenario → List Command → List CoordRecord
coordinator_keeps scenario commands = Coordinator.records (coord_past (story_of scenario commands))

-- wherever a site settles an attempt, it says the attempt's outcome over the whole story
abbrev pub SettlesSayTheOutcome : Type 0
SettlesSayTheOutcome =
    (scenario : Scenario) (commands : List Command) (site : SiteId) (home : Home) → home_of scenario site ≡ Some home →
    (tid : Tid) (decision : Decision) → Settles (past_of site (story_of scenario commands)) tid decision →
    decision ≡ outcome (coordinator_keeps scenario commands) tid

-- it settles it by commit exactly where the coordinator keeps a Commit of it
abbrev pub SettlesCommitWhereKept : Type 0
SettlesCommitWhereKept =
    (scenario : Scenario) (commands : List Command) (site : SiteId) (home : Home) → home_of scenario site ≡ Some home →
    (tid : Tid) (decision : Decision) → Settles (past_of site (story_of scenario commands)) tid decision →
    (decision ≡ Decided.Commit) ↔ Among (IsCommit tid) (coordinator_keeps scenario commands)

-- two sites never settle an attempt differently
abbrev pub SitesAgree : Type 0
SitesAgree =
    (scenario : Scenario) (commands : List Command) (one other : SiteId) (here there : Home) → home_of scenario one ≡ Some here →
    home_of scenario other ≡ Some there → (tid : Tid) (a b : Decision) → Settles (past_of one (story_of scenario commands)) tid a →
    Settles (past_of other (story_of scenario commands)) tid b → a ≡ b
