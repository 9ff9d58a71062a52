-- When a book holds what a list of engine lines says.
use Rattle.std.specs.Prelude.{ℕ, ◌≡◌, ◌+◌, ◌≤◌, cond, Option, Some, None, List, [], ◌∷◌}
use Rattle.std.specs.FinMap.{get}
use Rattle.mdb_base.specs.declared.names.Engine.{Engine}
use Rattle.mdb_base.specs.declared.names.Key.{Key}
use Rattle.mdb_base.specs.declared.names.Tid.{Tid}
use Rattle.mdb_base.specs.Names.{same_tid}
use Rattle.mdb_base.specs.Rising.{IsRising}
use Rattle.mdb_base.specs.Words.{map_some, or_else}
use Rattle.fed_rules.specs.Runs.{Start, EngineLine, Begins, Seals, Run, run_at, counter, published, owner, committed, has_ticket}
use Rattle.fed_rules.specs.EngineLines.{IsStart, IsRight}
use Rattle.run_book.specs.declared.counters.Counters.{Counters}
use Rattle.run_book.specs.Held.{Held, Runs, held_in}
use Rattle.run_book.specs.Book.{Book, RoomyBook}
use Rattle.run_book.specs.Tables.{kept_after}

-- the run of this attempt, without its counters
abbrev pub run_in : Runs → Tid → Option Run
run_in runs tid = map_some (λ held. held.run) (held_in runs tid)

-- the numbers of a site after these lines
abbrev pub counters_after : Start → List EngineLine → Counters
counters_after start lines = record { counter = counter start lines; published = published start lines; owner = owner start lines }

-- the numbers of a site before the last sealing of this attempt
abbrev pub counters_before : Start → List EngineLine → Tid → Option Counters
counters_before start [] u = None
counters_before start (Seals tid n ∷ older) u = cond (same_tid tid u) (Some (counters_after start older)) (counters_before start older u)
counters_before start (line ∷ older) u = counters_before start older u

-- how many tickets the newest sealings published, which may be taken back one after another
abbrev pub taken_back : Start → List EngineLine → ℕ
taken_back start (Begins tid n ∷ older) = taken_back start older
taken_back start (Seals tid n ∷ older) = taken_back start older + or_else (map_some (λ run. cond (has_ticket run) 1 0) (run_at start older tid)) 0
taken_back start lines = 0

-- a book of an engine of this kind holds what the lines say, and each of them is right
pub record Keeps (kind : Engine) (book : Book) (start : Start) (lines : List EngineLine) : Type 0 where
  pub of_kind : start.kind ≡ kind
  pub starts : IsStart start
  pub right : IsRight start lines
  pub rising : IsRising (λ row. row.key.0) start.rows
  pub versions : (key : Key) → get book.versions key.0 ≡ kept_after start.rows (committed start lines) key
  pub runs : (u : Tid) → run_in book.runs u ≡ run_at start lines u
  pub counters : book.counters ≡ counters_after start lines
  pub before : (u : Tid) (held : Held) (n : ℕ) (counters : Counters) → held_in book.runs u ≡ Some held → held.run.sealed ≡ Some n → counters_before start lines u ≡ Some counters → held.counters ≡ counters

-- and it has room to take the newest sealings back
pub record KeepsRoomy (kind : Engine) (roomy : RoomyBook) (start : Start) (lines : List EngineLine) : Type 0 where
  pub keeps : Keeps kind roomy.book start lines
  pub room : taken_back start lines ≤ roomy.room
