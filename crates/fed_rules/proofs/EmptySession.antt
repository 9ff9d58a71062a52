-- Nothing is declared and nothing is commanded.
use Rattle.std.proofs.Common.{◌≡◌, List, [], map, reverse, refl}
use Rattle.mdb_base.specs.declared.names.Tid.{Tid}
use Rattle.fed_rules.specs.declared.commands.Line.{Line}
use Rattle.fed_rules.specs.declared.report.Report.{Report}
use Rattle.fed_rules.specs.declared.scenario.Scenario.{Scenario}
use Rattle.fed_rules.specs.Closing.{closed}
use Rattle.fed_rules.specs.Orders.{due_of}
use Rattle.fed_rules.specs.Reports.{report_of}
use Rattle.fed_rules.specs.Right.{story_told}
use Rattle.fed_rules.specs.Scenarios.{sites}
use Rattle.fed_rules.specs.Story.{Story, lines_of}
use Rattle.fed_rules.proofs.Opened.{opened}
use Rattle.fed_rules.proofs.Spelled.{scenario_of}

abbrev scenario : Scenario
scenario =
    scenario_of
    []
    []
    []

-- the lines of the commands, the first one first
abbrev printed : List Line
printed =
    []

-- the last line first
abbrev lines : List Line
lines = reverse printed

abbrev story : Story
story = story_told scenario lines

lines_are_right : lines_of story ≡ lines
unfolding opened
lines_are_right = refl

nothing_is_left_to_close : closed scenario (map (λ line. line.command) lines) ≡ map (λ line. line.command) lines
unfolding opened
nothing_is_left_to_close = refl

abbrev order : List Tid
order = []

abbrev report : Report
report =
    record {
      order = order;
      reads = [];
      outcomes = [];
      forgotten = [];
      tables = [];
    }

report_is_right : report_of scenario story ≡ report
unfolding opened
report_is_right = refl

each_table_is_due : map (due_of scenario story) (sites scenario) ≡ map (λ table. table.rows) report.tables
unfolding opened
each_table_is_due = refl
