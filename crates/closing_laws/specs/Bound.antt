-- How many commands closing makes, and finishing alone.
use Rattle.std.specs.Prelude.{ℕ, ◌+◌, ◌*◌, ◌≤◌, List, length}
use Rattle.fed_rules.specs.declared.commands.Command.{Command}
use Rattle.fed_rules.specs.declared.scenario.Scenario.{Scenario}
use Rattle.fed_rules.specs.Closing.{closed, finished_alone}
use Rattle.fed_rules.specs.Plans.{IsScenario}

-- the most commands for an attempt: one gives it up; at each of eight sites one ends its live run; one sends its decision again, and at each site one
-- gives the message and one takes the answer; and at each site that is in doubt of it one asks, one takes the inquiry, and one gives the answer
abbrev pub most_for_attempt : ℕ
most_for_attempt = 1 + 8 + (1 + 8 * 2) + 8 * 3

-- for each of nine actors one disarms its trip and one brings it up; and there are at most 32 attempts of each of 1,024 transactions
abbrev pub most_closing : ℕ
most_closing = 9 * 2 + 1024 * 32 * most_for_attempt

-- closing makes at most so many commands, 1,638,418, however many there are before it
abbrev pub ClosingIsShort : Type 0
ClosingIsShort =
    (scenario : Scenario) → IsScenario scenario → (commands : List Command) → length (closed scenario commands) ≤ most_closing + length commands

-- finishing each transaction alone makes at most 257 commands for each of 1,024
abbrev pub FinishingIsShort : Type 0
FinishingIsShort =
    (scenario : Scenario) → IsScenario scenario → (commands : List Command)
    → length (finished_alone scenario commands) ≤ 263168 + length commands
