-- What a report is made of, and when that is a session's.
use Rattle.std.specs.Prelude.{◌≡◌, false, Option, Some, None, List, [], map, reverse}
use Rattle.mdb_base.specs.declared.names.SiteId.{SiteId}
use Rattle.mdb_base.specs.declared.names.Tid.{Tid}
use Rattle.mdb_base.specs.declared.names.Tx.{Tx}
use Rattle.mdb_base.specs.declared.rows.SiteRows.{SiteRows}
use Rattle.mdb_base.specs.Words.{Each}
use Rattle.fed_rules.specs.declared.commands.Line.{Line}
use Rattle.fed_rules.specs.declared.scenario.Scenario.{Scenario}
use Rattle.fed_rules.specs.Closing.{known}
use Rattle.fed_rules.specs.CoordPast as Coordinator
use Rattle.fed_rules.specs.CoordRecords.{committed_of}
use Rattle.fed_rules.specs.Happenings.{is_down}
use Rattle.fed_rules.specs.Reports.{tables}
use Rattle.fed_rules.specs.Right.{IsRightStory, story_told}
use Rattle.fed_rules.specs.Scenarios.{home_of, sites}
use Rattle.fed_rules.specs.SiteRecords.{Home}
use Rattle.fed_rules.specs.Story.{Story, coord_past, past_of, sent_from}
use Rattle.session_report.specs.declared.marks.Mark.{Mark}
use Rattle.session_report.specs.declared.marks.Marks.{Marks}
use Rattle.session_routes.specs.declared.traffic.Traffic.{Traffic}
use Rattle.session_report.specs.Marks.{kept_marks}
use Rattle.session_report.specs.Outcomes.{Gives}

-- the story that these lines tell, the first line first
abbrev pub story_of_lines : Scenario → List Line → Story
story_of_lines scenario lines = story_told scenario (reverse lines)

abbrev pub marks_at : Option Home → Story → List Mark
marks_at None story = []
marks_at (Some home) story = kept_marks home (past_of home.site story)

-- the marks of a site in a story
abbrev pub marks_of : Scenario → Story → SiteId → List Mark
marks_of scenario story site = marks_at (home_of scenario site) story

-- a channel for each declared site, by rising site, has all messages that the site sent
pub record HoldsMessages (scenario : Scenario) (story : Story) (channels : List Traffic) : Type 0 where
  pub sites : map (λ channel. channel.site) channels ≡ sites scenario
  pub sent : Each (λ channel. channel.from.items ≡ sent_from channel.site story) channels

-- the marks of each declared site, by rising site
pub record HoldsMarks (scenario : Scenario) (story : Story) (marks : List Marks) : Type 0 where
  pub sites : map (λ one. one.site) marks ≡ sites scenario
  pub kept : Each (λ one. one.kept.items ≡ marks_of scenario story one.site) marks

-- what tells of commits gives of each transaction the attempt for which the coordinator keeps a Commit record
abbrev pub TellsCommits : Story → (Tx → Option Tid → Type 0) → Type 0
TellsCommits story gives = Gives (committed_of (Coordinator.records (coord_past story))) gives

-- the coordinator is up, and every attempt that it began is forgotten, as in a session that is closed
pub record IsOver (scenario : Scenario) (story : Story) : Type 0 where
  pub up : is_down (coord_past story) ≡ false
  pub none_known : known scenario story ≡ []

-- these are a session's: lines that are right, of a session that is over, with its messages, marks and tables
pub record IsSession (scenario : Scenario) (lines : List Line) (channels : List Traffic) (marks : List Marks) (rows : List SiteRows) : Type 0 where
  pub right : IsRightStory scenario (reverse lines)
  pub over : IsOver scenario (story_of_lines scenario lines)
  pub messages : HoldsMessages scenario (story_of_lines scenario lines) channels
  pub marked : HoldsMarks scenario (story_of_lines scenario lines) marks
  pub shown : rows ≡ tables scenario (story_of_lines scenario lines)
