-- What the old versions of a site give to its runs.
use Rattle.std.specs.Prelude.{ℕ, ◌≡◌, Some, List}
use Rattle.mdb_base.specs.declared.names.Key.{Key}
use Rattle.mdb_base.specs.declared.names.Tid.{Tid}
use Rattle.fed_rules.specs.Runs.{Start, EngineLine, Run, run_at}
use Rattle.fed_rules.specs.Replies.{table_before}
use Rattle.fed_rules.specs.EngineLines.{IsStart, IsRight}
use Rattle.multiversion_engine.specs.OldVersions.{Olds}
use Rattle.multiversion_engine.specs.Versions.{AreVersions, IsValueAt, newest}

-- each unended run finds of each key the value that the runs with smaller numbers left
abbrev pub GivesTheTableBefore : Type 0
GivesTheTableBefore =
    (olds : Olds) (start : Start) (lines : List EngineLine) (tid : Tid) (run : Run) (key : Key) (value : ℕ) → IsStart start → IsRight start lines → AreVersions olds start lines
    → run_at start lines tid ≡ Some run → IsValueAt (newest start lines key) olds run.age key value → value ≡ table_before start lines run key
