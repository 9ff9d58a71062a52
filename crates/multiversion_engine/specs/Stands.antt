-- What a multiversion engine stands for.
use Rattle.std.specs.Prelude.{ℕ, ◌≡◌, true, cond, Option, Some, None, List, ◌∷◌}
use Rattle.std.specs.FinMap.{get}
use Rattle.mdb_base.specs.declared.names.Engine.TheVariants.{Multiversion}
use Rattle.mdb_base.specs.declared.names.Key.{Key}
use Rattle.mdb_base.specs.declared.names.Tid.{Tid}
use Rattle.mdb_base.specs.declared.acts.PlainAct.TheVariants.{Write}
use Rattle.mdb_base.specs.declared.replies.Reply.{Reply}
use Rattle.mdb_base.specs.declared.replies.Reply.TheVariants.{Refused}
use Rattle.fed_rules.specs.Runs.{Start, EngineLine, Run, tid_of, run_at, gives_up, number}
use Rattle.fed_rules.specs.EngineLines.{IsRightLine}
use Rattle.fed_rules.specs.Replies.{has_written}
use Rattle.run_book.specs.Ages.{Ages, ages_of}
use Rattle.run_book.specs.Stops.{key_stop, writer_stop}
use Rattle.run_book.specs.AgeLines.{KeepsAges}
use Rattle.run_book.specs.Held.{Held, held_in, own_write}
use Rattle.run_book.specs.Book.{Book}
use Rattle.run_book.specs.Keeps.{KeepsRoomy}
use Rattle.multiversion_engine.specs.Unended.{AreUnended}
use Rattle.multiversion_engine.specs.OldVersions.{AllRead, Olds, writes_key}
use Rattle.multiversion_engine.specs.Versions.{AreVersions, IsValueAt}
use Rattle.multiversion_engine.specs.declared.engine.MultiversionEngine.{MultiversionEngine}

-- the book holds what the lines say by the multiversion rule, and beside it stand who accessed each key and who has taken the ticket, the
-- unended runs by their ages, and the old versions that they read
pub record Stands (engine : MultiversionEngine) (start : Start) (lines : List EngineLine) : Type 0 where
  pub keeps : KeepsRoomy Multiversion engine.book start lines
  pub ages : KeepsAges engine.accesses engine.takers start lines
  pub unended : AreUnended engine.unended (run_at start lines)
  pub versions : AreVersions engine.olds start lines

-- what stops a read: a run that has not written the key waits for the older writer
abbrev pub read_stop : Ages → Run → Key → Option Reply
read_stop accesses run key = cond (has_written key run) None (writer_stop (ages_of accesses key) run.age)

-- what stops a write
abbrev pub write_stop : Ages → Run → Key → ℕ → Option Reply
write_stop accesses run key value = key_stop (ages_of accesses key) run.age (Write key value)

-- the own write of a run is read, or else the version of its age
abbrev pub IsOwnOr : Option ℕ → Book → Olds → ℕ → Key → ℕ → Type 0
IsOwnOr (Some own) book olds age key value = value ≡ own
IsOwnOr None book olds age key value = IsValueAt (get book.versions key.0) olds age key value

-- what a run reads of a key: its own last write, and else the version of its age
abbrev pub IsValueFor : Book → Olds → Run → Key → ℕ → Type 0
IsValueFor book olds run key value = IsOwnOr (own_write key run.acts) book olds run.age key value

-- whether a line ends its run otherwise than by commit
abbrev pub EndsBy : Tid → EngineLine → Type 0
EndsBy tid line = (tid_of line ≡ tid) × (gives_up line ≡ true)

-- behind a line that gives up the run of this attempt the engine stands for that line too
abbrev pub EndsRun : MultiversionEngine → Tid → MultiversionEngine → Type 0
EndsRun old tid new =
    (start : Start) (lines : List EngineLine) (line : EngineLine) → Stands old start lines → IsRightLine start lines line → EndsBy tid line → Stands new start (line ∷ lines)

-- and so behind one that is refused, where a wait leaves all as it is
abbrev pub StopsRun : MultiversionEngine → Tid → Reply → MultiversionEngine → Type 0
StopsRun old tid (Refused why) new = EndsRun old tid new
StopsRun old tid reply new = new ≡ old

-- behind the commit of a run, each version below its number that is left of a key that it wrote is one that an unended run may read
abbrev pub HasDropped : MultiversionEngine → Tid → MultiversionEngine → Type 0
HasDropped old tid new =
    (held : Held) → held_in old.book.book.runs tid ≡ Some held → AllRead new.unended (writes_key held.run.acts) (number held.run) new.olds
