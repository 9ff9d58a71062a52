-- What a locking engine stands for.
use Rattle.std.specs.Prelude.{ℕ, ◌≡◌, Bool, true, cond, not, ◌&&◌, Option, Some, None, List, ◌∷◌}
use Rattle.std.specs.FinMap.{get}
use Rattle.mdb_base.specs.declared.names.Engine.TheVariants.{Locking}
use Rattle.mdb_base.specs.declared.names.Key.{Key}
use Rattle.mdb_base.specs.declared.names.Tid.{Tid}
use Rattle.mdb_base.specs.declared.replies.Reply.{Reply}
use Rattle.mdb_base.specs.declared.replies.Reply.TheVariants.{Refused}
use Rattle.fed_rules.specs.Runs.{Start, EngineLine, Run, tid_of, run_at, gives_up, is_sealed, has_ticket}
use Rattle.fed_rules.specs.EngineLines.{IsRightLine}
use Rattle.fed_rules.specs.Replies.{has_read, has_written}
use Rattle.run_book.specs.Keeps.{KeepsRoomy}
use Rattle.run_book.specs.Rivals.{IsOldest}
use Rattle.locking_engine.specs.Holders.{Holders, place_of, is_touched}
use Rattle.locking_engine.specs.Places.{Place}
use Rattle.locking_engine.specs.declared.engine.LockingEngine.{LockingEngine}

-- the attempt has a run of this age that does so with the key
pub record HasDone (does : Key → Run → Bool) (runs : Tid → Option Run) (tid : Tid) (key : Key) (age : ℕ) : Type 0 where
  pub run : Run
  pub at : runs tid ≡ Some run
  pub done : does key run ≡ true
  pub aged : run.age ≡ age

-- the holders of each key are the runs that do so with it, each by its age
pub record AreHolders (does : Key → Run → Bool) (holders : Holders) (runs : Tid → Option Run) : Type 0 where
  pub there : (key : Key) (age : ℕ) (tid : Tid) → get holders (place_of key age) ≡ Some tid → HasDone does runs tid key age
  pub back : (tid : Tid) (run : Run) (key : Key) → runs tid ≡ Some run → does key run ≡ true → get holders (place_of key run.age) ≡ Some tid

-- a live run that has taken the ticket
abbrev pub takes_ticket : Run → Bool
takes_ticket run = has_ticket run && not (is_sealed run)

-- the book holds what the lines say by the locking rule, and beside it stand who has read and written each key, and who holds the ticket
pub record Stands (engine : LockingEngine) (start : Start) (lines : List EngineLine) : Type 0 where
  pub keeps : KeepsRoomy Locking engine.book start lines
  pub readers : AreHolders has_read engine.readers (run_at start lines)
  pub writers : AreHolders has_written engine.writers (run_at start lines)
  pub taker : IsOldest (run_at start lines) takes_ticket engine.taker

-- a run holds nothing any more, neither a key nor the ticket
pub record IsReleased (old : LockingEngine) (run : Run) (new : LockingEngine) : Type 0 where
  pub readers : (q : Place) → get new.readers q ≡ cond (is_touched run q) None (get old.readers q)
  pub writers : (q : Place) → get new.writers q ≡ cond (is_touched run q) None (get old.writers q)
  pub taker : new.taker ≡ cond (takes_ticket run) None old.taker

-- whether a line ends its run otherwise than by commit
abbrev pub EndsBy : Tid → EngineLine → Type 0
EndsBy tid line = (tid_of line ≡ tid) × (gives_up line ≡ true)

-- behind a line that gives up the run of this attempt the engine stands for that line too
abbrev pub EndsRun : LockingEngine → Tid → LockingEngine → Type 0
EndsRun old tid new =
    (start : Start) (lines : List EngineLine) (line : EngineLine) → Stands old start lines → IsRightLine start lines line → EndsBy tid line → Stands new start (line ∷ lines)

-- and so behind one that is refused, where a wait leaves all as it is
abbrev pub StopsRun : LockingEngine → Tid → Reply → LockingEngine → Type 0
StopsRun old tid (Refused why) new = EndsRun old tid new
StopsRun old tid reply new = new ≡ old
