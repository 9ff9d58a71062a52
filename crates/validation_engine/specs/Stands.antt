-- What a validating engine stands for.
use Rattle.std.specs.Prelude.{ℕ, ◌≡◌, true, cond, Option, Some, None, List, [], ◌∷◌}
use Rattle.mdb_base.specs.declared.names.Engine.TheVariants.{Validation}
use Rattle.mdb_base.specs.declared.names.Key.{Key}
use Rattle.mdb_base.specs.declared.names.Tid.{Tid}
use Rattle.fed_rules.specs.Runs.{Start, EngineLine, Commits, Run, run_at, counter, number}
use Rattle.fed_rules.specs.Replies.{has_written}
use Rattle.run_book.specs.Keeps.{KeepsRoomy}
use Rattle.validation_engine.specs.declared.index.Ended.{Ended}
use Rattle.validation_engine.specs.declared.engine.ValidationEngine.{ValidationEngine}
use Rattle.validation_engine.specs.Index.{Index, sealed_at, last_at, has_entry}

-- a sealed run with this serial number that wrote the key
pub record IsSealedWriter (o : Option Run) (key : Key) (n : ℕ) : Type 0 where
  pub run : Run
  pub at : o ≡ Some run
  pub sealed : run.sealed ≡ Some n
  pub wrote : has_written key run ≡ true

-- the sealed writer of each key is the unended run that is one
pub record AreSealed (index : Index) (runs : Tid → Option Run) : Type 0 where
  pub there : (key : Key) (tid : Tid) (n : ℕ) → sealed_at index key ≡ Some (record { tid = tid; rank = n }) → IsSealedWriter (runs tid) key n
  pub back : (key : Key) (tid : Tid) (n : ℕ) → IsSealedWriter (runs tid) key n → sealed_at index key ≡ Some (record { tid = tid; rank = n })

-- each key that an unended run wrote has an entry
abbrev pub HaveEntries : Index → (Tid → Option Run) → Type 0
HaveEntries index runs = (tid : Tid) (run : Run) (key : Key) → runs tid ≡ Some run → has_written key run ≡ true → has_entry index key ≡ true

-- the last writer of a key after one more run ended by commit, at this moment
abbrev pub ended_last : ℕ → Key → Option Run → Option Ended → Option Ended
ended_last moment key None last = last
ended_last moment key (Some run) last = cond (has_written key run) (Some (record { tid = run.tid; number = number run; moment = moment })) last

-- the last writer of a key that ended by commit; the moment of its end is the greatest number that was drawn by then
abbrev pub last_writer : Start → List EngineLine → Key → Option Ended
last_writer start [] key = None
last_writer start (Commits tid ∷ older) key = ended_last (counter start older) key (run_at start older tid) (last_writer start older key)
last_writer start (line ∷ older) key = last_writer start older key

-- the book holds what the lines say by the rule of validation, and the index who wrote each key
pub record Stands (engine : ValidationEngine) (start : Start) (lines : List EngineLine) : Type 0 where
  pub keeps : KeepsRoomy Validation engine.book start lines
  pub sealed : AreSealed engine.index (run_at start lines)
  pub last : (key : Key) → last_at engine.index key ≡ last_writer start lines key
  pub entries : HaveEntries engine.index (run_at start lines)
