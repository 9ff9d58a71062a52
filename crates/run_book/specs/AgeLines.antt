-- The ages of each key and the takers of the ticket, as a list of engine lines says them.
use Rattle.std.specs.Prelude.{◌≡◌, Bool, true, ◌&&◌, cond, Option, Some, None, List, [], ◌∷◌}
use Rattle.std.specs.FinMap.{empty, remove}
use Rattle.mdb_base.specs.declared.names.Key.{Key}
use Rattle.mdb_base.specs.declared.names.Tid.{Tid}
use Rattle.mdb_base.specs.declared.acts.PlainAct.{PlainAct}
use Rattle.mdb_base.specs.declared.acts.PlainAct.TheVariants.{Read, Write}
use Rattle.mdb_base.specs.declared.replies.Reply.{Reply}
use Rattle.mdb_base.specs.declared.replies.Reply.TheVariants.{Done, Value, Ticket}
use Rattle.mdb_base.specs.Names.{same_key}
use Rattle.mdb_base.specs.Words.{map_some, holds_of}
use Rattle.fed_rules.specs.Runs.{Start, EngineLine, Acts, Takes, Seals, Commits, Run, tid_of, run_at, gives_up, has_ticket}
use Rattle.fed_rules.specs.Replies.{age_of, has_written}
use Rattle.run_book.specs.Rivals.{rival_by}
use Rattle.run_book.specs.declared.rival.Rival.{Rival}
use Rattle.run_book.specs.declared.key_ages.KeyAges.{KeyAges}
use Rattle.run_book.specs.Ages.{Ages, ages_of, younger_of, restored_writer}
use Rattle.run_book.specs.Takers.{ByAge, Takers, with_taker, restored_takers, takes_ticket}

-- the unended run of this attempt by its age
abbrev pub rival_at : Start → List EngineLine → Tid → Option Rival
rival_at start lines tid = map_some (rival_by age_of) (run_at start lines tid)

-- whether a line ends its run, by commit or otherwise
abbrev pub ends : EngineLine → Bool
ends (Commits tid) = true
ends line = gives_up line

-- what an answered access leaves of the youngest reader of a key
abbrev pub read_by : Reply → PlainAct → Key → Option Rival → Option Rival → Option Rival
read_by (Value value) (Read k) key run reader = cond (same_key k key) (younger_of reader run) reader
read_by reply act key run reader = reader

-- the youngest run that was granted a read of the key since the start, whatever became of it
abbrev pub reader : Start → List EngineLine → Key → Option Rival
reader start [] key = None
reader start (Acts tid act reply ∷ older) key = read_by reply act key (rival_at start older tid) (reader start older key)
reader start (line ∷ older) key = reader start older key

-- what an answered access leaves of the writer of a key, where it doesn't end the run
abbrev pub written_by : Reply → PlainAct → Key → Option Rival → Option Rival → Option Rival
written_by Done (Write k value) key run writer = cond (same_key k key) run writer
written_by reply act key run writer = writer

-- what a line that doesn't end its run leaves of the writer of a key
abbrev pub written_at : Start → EngineLine → List EngineLine → Key → Option Rival → Option Rival
written_at start (Acts tid act reply) older key writer = written_by reply act key (rival_at start older tid) writer
written_at start line older key writer = writer

-- the unended run that wrote the key
abbrev pub writer : Start → List EngineLine → Key → Option Rival
writer start [] key = restored_writer start.doubtful key None
writer start (line ∷ older) key =
    cond (ends line && holds_of (has_written key) (run_at start older (tid_of line))) None (written_at start line older key (writer start older key))

-- what a commit leaves of the youngest committed run that passes a test
abbrev pub committed_by : (Run → Bool) → Option Run → Option Rival → Option Rival
committed_by test None youngest = youngest
committed_by test (Some run) youngest = cond (test run) (younger_of youngest (Some (rival_by age_of run))) youngest

-- the youngest run that committed since the start and passes a test
abbrev pub youngest_committed : (Run → Bool) → Start → List EngineLine → Option Rival
youngest_committed test start [] = None
youngest_committed test start (Commits tid ∷ older) = committed_by test (run_at start older tid) (youngest_committed test start older)
youngest_committed test start (line ∷ older) = youngest_committed test start older

-- the ages of a key
abbrev pub ages_after : Start → List EngineLine → Key → KeyAges
ages_after start lines key = record { read = reader start lines key; last = youngest_committed (has_written key) start lines; writer = writer start lines key }

-- what an answered taking of the ticket leaves of the unended takers
abbrev pub entered_by : Reply → Option Rival → ByAge → ByAge
entered_by (Ticket n) (Some run) runs = with_taker run runs
entered_by reply run runs = runs

-- what a line that doesn't end its run leaves of the unended takers
abbrev pub entered_at : Start → EngineLine → List EngineLine → ByAge → ByAge
entered_at start (Takes tid reply) older runs = entered_by reply (rival_at start older tid) runs
entered_at start line older runs = runs

-- a run that ends is an unended taker no longer
abbrev pub left_by : Option Run → ByAge → ByAge
left_by None runs = runs
left_by (Some run) runs = remove runs run.age

-- the unended runs that have taken the ticket
abbrev pub unended_takers : Start → List EngineLine → ByAge
unended_takers start [] = restored_takers start.doubtful empty
unended_takers start (line ∷ older) =
    cond (ends line) (left_by (run_at start older (tid_of line)) (unended_takers start older)) (entered_at start line older (unended_takers start older))

-- the live run that has taken the ticket
abbrev pub live_taker : Start → List EngineLine → Option Rival
live_taker start [] = None
live_taker start (Takes tid (Ticket n) ∷ older) = rival_at start older tid
live_taker start (Seals tid n ∷ older) = cond (holds_of has_ticket (run_at start older tid)) None (live_taker start older)
live_taker start (line ∷ older) = cond (ends line && holds_of takes_ticket (run_at start older (tid_of line))) None (live_taker start older)

-- the ages and the takers are those that the lines say
pub record KeepsAges (ages : Ages) (all : Takers) (start : Start) (lines : List EngineLine) : Type 0 where
  pub keys : (key : Key) → ages_of ages key ≡ ages_after start lines key
  pub unended : all.unended ≡ unended_takers start lines
  pub live : all.live ≡ live_taker start lines
  pub committed : all.committed ≡ youngest_committed has_ticket start lines
