-- A commit decision finds each participant prepared, for ever.
use Rattle.std.specs.Prelude.{◌≡◌, ℕ, true, Some, List}
use Rattle.mdb_base.specs.declared.names.Tid.{Tid}
use Rattle.mdb_base.specs.Words.{Among}
use Rattle.order_laws.specs.Chains.{In}
use Rattle.presumptions.specs.declared.Decision.TheVariants as Decided
use Rattle.presumptions.specs.declared.Participant.{Participant}
use Rattle.fed_rules.specs.declared.answers.Answer.{Answer}
use Rattle.fed_rules.specs.declared.answers.Answer.TheVariants as Say
use Rattle.fed_rules.specs.declared.commands.Command.{Command}
use Rattle.fed_rules.specs.declared.records.SiteRecord.{SiteRecord}
use Rattle.fed_rules.specs.declared.scenario.Scenario.{Scenario}
use Rattle.fed_rules.specs.CoordPast.{CoordHappening, is_about, participants}
use Rattle.fed_rules.specs.Scenarios.{home_of, protocols}
use Rattle.fed_rules.specs.SitePast.{SitePast, disk}
use Rattle.fed_rules.specs.SiteRecords.{Home, site_frame}
use Rattle.fed_rules.specs.Story.{coord_past, past_of, story_of}
use Rattle.fed_rules.specs.Durable.{IsSafe}
use Rattle.commit_laws.specs.Outcomes.{coordinator_keeps}
use Rattle.commit_laws.specs.Records.{IsPrepared}
use Rattle.coord_laws.specs.Records.{IsCommit}

-- a Prepared record of the attempt stands on the disk, and its bytes are synced: it survives every call and every stop
pub record IsPreparedForEver (home : Home) (past : SitePast) (tid : Tid) : Type 0 where
  pub epoch : ℕ
  pub kept : SiteRecord
  pub prepared : IsPrepared tid epoch kept
  pub safe : IsSafe site_frame (disk home past) kept

-- the participant is a declared site, at which the attempt is prepared for ever
pub record IsPreparedAt (scenario : Scenario) (commands : List Command) (tid : Tid) (member : Participant) : Type 0 where
  pub home : Home
  pub declared : home_of scenario member.site ≡ Some home
  pub prepared : IsPreparedForEver home (past_of member.site (story_of scenario commands)) tid

-- all participants of the attempt are prepared
abbrev pub AllPrepared : Scenario → List Command → Tid → Type 0
AllPrepared scenario commands tid =
    (member : Participant) → In member (participants (protocols scenario) (coord_past (story_of scenario commands)) tid) →
    IsPreparedAt scenario commands tid member

-- the answer decides commit
abbrev pub IsCommitAnswer : Answer → Type 0
IsCommitAnswer (Say.Decides Decided.Commit cause forgets) = Unit {0}
IsCommitAnswer answer = ⊥

-- the line decides that the attempt commits
abbrev pub DecidesCommit : Tid → CoordHappening → Type 0
DecidesCommit tid x = (is_about tid x.event ≡ true) × IsCommitAnswer x.answer

-- from the line that decides commit on, all participants are prepared
abbrev pub CommitDecisionsFindAllPrepared : Type 0
CommitDecisionsFindAllPrepared =
    (scenario : Scenario) (commands : List Command) (tid : Tid) → Among (DecidesCommit tid) (coord_past (story_of scenario commands)) →
    AllPrepared scenario commands tid

-- and they are wherever the coordinator keeps a Commit, also one of a line that was stopped
abbrev pub CommitRecordsFindAllPrepared : Type 0
CommitRecordsFindAllPrepared =
    (scenario : Scenario) (commands : List Command) (tid : Tid) → Among (IsCommit tid) (coordinator_keeps scenario commands) →
    AllPrepared scenario commands tid
