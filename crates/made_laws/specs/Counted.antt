-- How many commits are kept: one of each transaction that is done.
use Rattle.std.specs.Prelude.{ℕ, ◌≡◌, ◌+◌, ◌-◌, ◌*◌, ◌/◌, ◌≤◌, nat_le, true, cond, is_none, is_some, List, count_by, length, sum_by}
use Rattle.order_laws.specs.Chains.{In}
use Rattle.fed_rules.specs.declared.commands.Command.{Command}
use Rattle.fed_rules.specs.declared.scenario.Scenario.{Scenario}
use Rattle.fed_rules.specs.declared.scenario.TxLine.{TxLine}
use Rattle.fed_rules.specs.Closing.{is_done}
use Rattle.fed_rules.specs.CoordPast as Coordinator
use Rattle.fed_rules.specs.Orders.{records_of}
use Rattle.fed_rules.specs.Plans.{IsScenario}
use Rattle.fed_rules.specs.Scenarios.{sites}
use Rattle.fed_rules.specs.Story.{Story, coord_past, story_of}
use Rattle.closing_laws.specs.AtRest.{IsAtRest}
use Rattle.report_text.specs.Summaries.{is_global_commit, is_local_commit}
use Rattle.scenario_maker.specs.Made.{made}
use Rattle.made_laws.specs.Moves.{total_of}

-- the Local records of all sites and the Commit records of the coordinator
abbrev pub kept_commits : Scenario → Story → ℕ
kept_commits scenario story =
    sum_by (λ site. count_by is_local_commit (records_of scenario story site)) (sites scenario)
    + count_by is_global_commit (Coordinator.records (coord_past story))

-- each transaction has a commit
abbrev pub AreDone : Scenario → Story → Type 0
AreDone scenario story = (line : TxLine) → In line scenario.transactions → is_done scenario story line.tx ≡ true

-- then there are as many commits as transactions
abbrev pub CommitsAreCounted : Type 0
CommitsAreCounted =
    (scenario : Scenario) → IsScenario scenario → (commands : List Command) → AreDone scenario (story_of scenario commands)
    → kept_commits scenario (story_of scenario commands) ≡ length scenario.transactions

-- ---- a made scenario

-- how many of these transactions are global: every second one where there are two sites or more
abbrev pub made_globals : ℕ → ℕ → ℕ
made_globals count transactions = cond (nat_le 2 count) (transactions / 2) 0

-- what its summary says: it is told by the numbers of its sites and transactions alone
pub record SumsUp (count transactions : ℕ) (scenario : Scenario) (story : Story) : Type 0 where
  pub sites : length scenario.sites ≡ count
  pub globals : count_by (λ line. is_none line.home) scenario.transactions ≡ made_globals count transactions
  pub locals : count_by (λ line. is_some line.home) scenario.transactions ≡ transactions - made_globals count transactions
  pub committed : kept_commits scenario story ≡ transactions
  pub total : total_of scenario story ≡ 1000 * count

-- so it is at rest, where each transaction has a commit
abbrev pub MadeSummariesAreFixed : Type 0
MadeSummariesAreFixed =
    (number count transactions : ℕ) → 1 ≤ count → count ≤ 8 → transactions ≤ 1024 → (commands : List Command)
    → IsAtRest (made number count transactions) (story_of (made number count transactions) commands)
    → AreDone (made number count transactions) (story_of (made number count transactions) commands)
    → SumsUp count transactions (made number count transactions) (story_of (made number count transactions) commands)
