-- What the lines and the report of a session are as a text.
use Rattle.std.specs.Prelude.{ℕ, List, ◌++◌}
use Rattle.fed_rules.specs.declared.commands.Line.{Line}
use Rattle.fed_rules.specs.declared.scenario.Scenario.{Scenario}
use Rattle.fed_rules.specs.Reports.{report_of}
use Rattle.fed_rules.specs.Story.{Story}
use Rattle.report_text.specs.Spelling.{report_bytes}
use Rattle.line_text.specs.Spelling.{lines_bytes}

-- lines as they are printed, the first one first, and behind them the report of the story
abbrev pub printed : List Line → Scenario → Story → List ℕ
printed lines scenario story = lines_bytes lines ++ report_bytes (report_of scenario story)
