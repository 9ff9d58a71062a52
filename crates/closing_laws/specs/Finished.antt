-- Where of each transaction without a commit a further attempt may begin, finishing each of them alone leaves each transaction with a commit.
use Rattle.std.specs.Prelude.{ℕ, ◌≡◌, ◌<◌, true, false, Option, Some, None, List}
use Rattle.mdb_base.specs.declared.names.Tx.{Tx}
use Rattle.order_laws.specs.Chains.{In}
use Rattle.fed_rules.specs.declared.commands.Command.{Command}
use Rattle.fed_rules.specs.declared.scenario.Scenario.{Scenario}
use Rattle.fed_rules.specs.declared.scenario.TxLine.{TxLine}
use Rattle.fed_rules.specs.Closing.{finished_alone, is_done}
use Rattle.fed_rules.specs.CoordPast as Coordinator
use Rattle.fed_rules.specs.Plans.{IsScenario}
use Rattle.fed_rules.specs.Scenarios.{local_home}
use Rattle.fed_rules.specs.SitePast.{attempts_of}
use Rattle.fed_rules.specs.SiteRecords.{Home}
use Rattle.fed_rules.specs.Story.{Story, coord_past, past_of, story_of, most_attempts}
use Rattle.closing_laws.specs.AtRest.{IsAtRest}

-- how many attempts of a transaction were begun, of a local one at its home and of a global one at the coordinator
abbrev pub begun_at : Option Home → Story → Tx → ℕ
begun_at None story tx = Coordinator.attempts_of (coord_past story) tx
begun_at (Some home) story tx = attempts_of (past_of home.site story) tx

abbrev pub begun : Scenario → Story → Tx → ℕ
begun scenario story tx = begun_at (local_home scenario tx) story tx

-- of no transaction without a commit all attempts were begun
abbrev pub HaveAttemptsLeft : Scenario → Story → Type 0
HaveAttemptsLeft scenario story =
    (line : TxLine) → In line scenario.transactions → is_done scenario story line.tx ≡ false → begun scenario story line.tx < most_attempts

-- each transaction has a commit, and the session is at rest
pub record AllFinished (scenario : Scenario) (story : Story) : Type 0 where
  pub done : (line : TxLine) → In line scenario.transactions → is_done scenario story line.tx ≡ true
  pub rest : IsAtRest scenario story

-- so it is behind a session at rest
abbrev pub FinishedSessionsCommit : Type 0
FinishedSessionsCommit =
    (scenario : Scenario) (commands : List Command) → IsScenario scenario → IsAtRest scenario (story_of scenario commands)
    → HaveAttemptsLeft scenario (story_of scenario commands) → AllFinished scenario (story_of scenario (finished_alone scenario commands))
