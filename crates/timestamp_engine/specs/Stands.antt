-- What a timestamp engine stands for.
use Rattle.std.specs.Prelude.{◌≡◌, true, List, ◌∷◌}
use Rattle.mdb_base.specs.declared.names.Engine.TheVariants.{Timestamp}
use Rattle.mdb_base.specs.declared.names.Tid.{Tid}
use Rattle.mdb_base.specs.declared.replies.Reply.{Reply}
use Rattle.mdb_base.specs.declared.replies.Reply.TheVariants.{Refused}
use Rattle.fed_rules.specs.Runs.{Start, EngineLine, tid_of, gives_up}
use Rattle.fed_rules.specs.EngineLines.{IsRightLine}
use Rattle.run_book.specs.Keeps.{KeepsRoomy}
use Rattle.run_book.specs.AgeLines.{KeepsAges}
use Rattle.timestamp_engine.specs.declared.engine.TimestampEngine.{TimestampEngine}

-- the book holds what the lines say by timestamp order, and beside it stand the ages of each key's accesses and who has taken the ticket
pub record Stands (engine : TimestampEngine) (start : Start) (lines : List EngineLine) : Type 0 where
  pub keeps : KeepsRoomy Timestamp engine.book start lines
  pub ages : KeepsAges engine.accesses engine.takers start lines

-- whether a line ends the run of this attempt otherwise than by commit
abbrev pub EndsBy : Tid → EngineLine → Type 0
EndsBy tid line = (tid_of line ≡ tid) × (gives_up line ≡ true)

-- behind a line that gives up the run of this attempt the engine stands for that line too
abbrev pub EndsRun : TimestampEngine → Tid → TimestampEngine → Type 0
EndsRun old tid new =
    (start : Start) (lines : List EngineLine) (line : EngineLine) → Stands old start lines → IsRightLine start lines line → EndsBy tid line → Stands new start (line ∷ lines)

-- and so behind one that is refused, where a wait leaves all as it is
abbrev pub StopsRun : TimestampEngine → Tid → Reply → TimestampEngine → Type 0
StopsRun old tid (Refused why) new = EndsRun old tid new
StopsRun old tid reply new = new ≡ old
