-- The line that `make` prints of a scenario that was made, at rest and with a commit of each transaction.
use Rattle.std.specs.Prelude.{ℕ, ◌≡◌, ◌-◌, ◌*◌, ◌≤◌, List}
use Rattle.fed_rules.specs.declared.commands.Command.{Command}
use Rattle.fed_rules.specs.Story.{story_of}
use Rattle.closing_laws.specs.AtRest.{IsAtRest}
use Rattle.report_text.specs.Summaries.{summary_line, summary_text}
use Rattle.scenario_maker.specs.Made.{made}
use Rattle.made_laws.specs.Counted.{AreDone, made_globals}
use Rattle.made_laws.specs.Unchecked.{AreUnchecked}

-- the line of so many sites and transactions
abbrev pub made_line : ℕ → ℕ → List ℕ
made_line count transactions =
    summary_line count (made_globals count transactions) (transactions - made_globals count transactions) transactions (1000 * count)

-- the summary of a made scenario, at rest, with a commit of each transaction and with no Checkpoint, is told by these two numbers: by neither the number
-- that it was made from nor what the threads did
abbrev pub MadeLinesAreFixed : Type 0
MadeLinesAreFixed =
    (number count transactions : ℕ) → 1 ≤ count → count ≤ 8 → transactions ≤ 1024 → (commands : List Command) → AreUnchecked commands
    → IsAtRest (made number count transactions) (story_of (made number count transactions) commands)
    → AreDone (made number count transactions) (story_of (made number count transactions) commands)
    → summary_text (made number count transactions) (story_of (made number count transactions) commands) ≡ made_line count transactions
