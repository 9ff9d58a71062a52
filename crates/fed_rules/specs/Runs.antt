-- What an engine's list of lines says of its runs: who is live or sealed, with which numbers, accesses and tickets.
-- Engine lines are the calls of one epoch with their answers, the newest first. Within an epoch an attempt names its run.
use Rattle.std.specs.Prelude.{ℕ, max, nat_lt, Bool, true, false, cond, is_some, Option, Some, None, List, [], ◌∷◌, map}
use Rattle.mdb_base.specs.declared.names.Engine.{Engine}
use Rattle.mdb_base.specs.declared.names.Key.{Key}
use Rattle.mdb_base.specs.declared.names.Tid.{Tid}
use Rattle.mdb_base.specs.declared.rows.Put.{Put}
use Rattle.mdb_base.specs.declared.acts.PlainAct.{PlainAct}
use Rattle.mdb_base.specs.declared.acts.PlainAct.TheVariants.{Read, Write}
use Rattle.mdb_base.specs.declared.replies.Reply.{Reply}
use Rattle.mdb_base.specs.declared.replies.Reply.TheVariants as Reply_is
use Rattle.mdb_base.specs.declared.replies.Why.{Why}
use Rattle.mdb_base.specs.Names.{same_tid, same_key}
use Rattle.mdb_base.specs.Rows.{Table, look_up, with_row, with_rows}
use Rattle.mdb_base.specs.Words.{or_else, with_some, found, inserted}
use Rattle.fed_rules.specs.declared.runs.Kept.{Kept}

-- what an epoch starts from: the rule, the rows, the transactions in doubt, the greatest number drawn, and the published ticket with its owner
pub record Start : Type 0 where
  pub kind : Engine
  pub rows : List Put
  pub doubtful : List Kept
  pub counter : ℕ
  pub published : ℕ
  pub owner : Option Tid

-- one call of an engine with its answer
pub data EngineLine : Type 0 where
  Begins : Tid → ℕ → EngineLine  -- with the number drawn
  Acts : Tid → PlainAct → Reply → EngineLine
  Takes : Tid → Reply → EngineLine
  Seals : Tid → ℕ → EngineLine  -- with the serial number
  Refuses : Tid → Why → EngineLine  -- a sealing that is refused
  Commits : Tid → EngineLine
  Aborts : Tid → EngineLine

-- a granted access, with the value read or written
pub data Access : Type 0 where
  Got : Key → ℕ → Access
  Wrote : Key → ℕ → Access

-- an unended run, or one that ended, as it was then
pub record Run : Type 0 where
  pub tid : Tid
  pub age : ℕ  -- drawn at its begin; of a restored one its serial number
  pub sealed : Option ℕ  -- its serial number, once it is sealed
  pub ticket : Option ℕ  -- its ticket, once it has taken one
  pub acts : List Access  -- its granted accesses, the newest first

-- the attempt that a line is about
abbrev pub tid_of : EngineLine → Tid
tid_of (Begins tid n) = tid
tid_of (Acts tid act reply) = tid
tid_of (Takes tid reply) = tid
tid_of (Seals tid n) = tid
tid_of (Refuses tid why) = tid
tid_of (Commits tid) = tid
tid_of (Aborts tid) = tid

-- the writes of a record as granted accesses
abbrev pub written : List Put → List Access
written [] = []
written (put ∷ puts) = Wrote put.key put.value ∷ written puts

-- a restored run has the writes of its record and no reads, and its age is its serial number
abbrev pub restored : Kept → Run
restored kept = record { tid = kept.tid; age = kept.number; sealed = Some kept.number; ticket = Some kept.ticket; acts = written kept.writes }

abbrev pub restored_at : List Kept → Tid → Option Run
restored_at [] tid = None
restored_at (kept ∷ more) tid = cond (same_tid kept.tid tid) (Some (restored kept)) (restored_at more tid)

-- the run that begins
abbrev pub begun : Tid → ℕ → Run
begun tid n = record { tid = tid; age = n; sealed = None; ticket = None; acts = [] }

-- what an answered access leaves of a run: a refused one has ended, and a waiting access changes nothing
abbrev pub acted : Reply → PlainAct → Run → Option Run
acted (Reply_is.Refused why) act run = None
acted (Reply_is.Wait by) act run = Some run
acted (Reply_is.Ticket n) act run = Some run
acted Reply_is.Unknown act run = Some run
acted (Reply_is.Value value) (Read key) run = Some (record run { acts = Got key value ∷ run.acts })
acted (Reply_is.Value value) (Write key v) run = Some run
acted Reply_is.Done (Read key) run = Some run
acted Reply_is.Done (Write key value) run = Some (record run { acts = Wrote key value ∷ run.acts })

-- what an answered taking of the ticket leaves of a run
abbrev pub took : Reply → Run → Option Run
took (Reply_is.Ticket n) run = Some (record run { ticket = Some n })
took (Reply_is.Refused why) run = None
took reply run = Some run

-- what a line leaves of the unended run of its attempt
abbrev pub changed : EngineLine → Option Run → Option Run
changed (Begins tid n) old = Some (begun tid n)
changed (Acts tid act reply) (Some run) = acted reply act run
changed (Takes tid reply) (Some run) = took reply run
changed (Seals tid n) (Some run) = Some (record run { sealed = Some n })
changed line old = None

-- the unended run of this attempt
abbrev pub run_at : Start → List EngineLine → Tid → Option Run
run_at start [] tid = restored_at start.doubtful tid
run_at start (line ∷ older) tid = cond (same_tid (tid_of line) tid) (changed line (run_at start older tid)) (run_at start older tid)

-- the attempts that were restored or begun
abbrev pub attempts : Start → List EngineLine → List Tid
attempts start [] = map (λ kept. kept.tid) start.doubtful
attempts start (Begins tid n ∷ older) = tid ∷ attempts start older
attempts start (line ∷ older) = attempts start older

-- the unended runs
abbrev pub unended : Start → List EngineLine → List Run
unended start lines = found (run_at start lines) (attempts start lines)

abbrev pub is_sealed : Run → Bool
is_sealed run = is_some run.sealed

abbrev pub has_ticket : Run → Bool
has_ticket run = is_some run.ticket

-- the serial number of a sealed run
abbrev pub number : Run → ℕ
number run = or_else run.sealed 0

-- the greatest number drawn since the start, or the start's
abbrev pub counter : Start → List EngineLine → ℕ
counter start [] = start.counter
counter start (Begins tid n ∷ older) = max n (counter start older)
counter start (Seals tid n ∷ older) = max n (counter start older)
counter start (line ∷ older) = counter start older

-- the ticket of a run, or 0
abbrev pub ticket_of : Option Run → ℕ
ticket_of None = 0
ticket_of (Some run) = or_else run.ticket 0

-- the published ticket: the greatest of those that were sealed
abbrev pub published : Start → List EngineLine → ℕ
published start [] = start.published
published start (Seals tid n ∷ older) = max (ticket_of (run_at start older tid)) (published start older)
published start (line ∷ older) = published start older

-- the attempt that the published ticket belongs to
abbrev pub owner : Start → List EngineLine → Option Tid
owner start [] = start.owner
owner start (Seals tid n ∷ older) =
    cond (nat_lt (published start older) (ticket_of (run_at start older tid))) (Some tid) (owner start older)
owner start (line ∷ older) = owner start older

-- the list with this run, kept by serial number, the greatest first
abbrev pub by_number : Option Run → List Run → List Run
by_number None runs = runs
by_number (Some run) runs = inserted (λ a b. nat_lt (number b) (number a)) run runs

-- the runs that ended by commit, the one with the greatest serial number first
abbrev pub committed : Start → List EngineLine → List Run
committed start [] = []
committed start (Commits tid ∷ older) = by_number (run_at start older tid) (committed start older)
committed start (line ∷ older) = committed start older

-- whether a line ends its run otherwise than by commit
abbrev pub gives_up : EngineLine → Bool
gives_up (Acts tid act (Reply_is.Refused why)) = true
gives_up (Takes tid (Reply_is.Refused why)) = true
gives_up (Refuses tid why) = true
gives_up (Aborts tid) = true
gives_up line = false

-- the runs that ended otherwise than by commit, the last one first
abbrev pub aborted : Start → List EngineLine → List Run
aborted start [] = []
aborted start (line ∷ older) = cond (gives_up line) (with_some (run_at start older (tid_of line)) (aborted start older)) (aborted start older)

-- the runs that ended by commit since this attempt began, the last one first
abbrev pub committed_since : Start → List EngineLine → Tid → List Run
committed_since start [] tid = []
committed_since start (Begins begun n ∷ older) tid = cond (same_tid begun tid) [] (committed_since start older tid)
committed_since start (Commits ended ∷ older) tid = with_some (run_at start older ended) (committed_since start older tid)
committed_since start (line ∷ older) tid = committed_since start older tid

-- what these accesses leave of a table
abbrev pub after : List Access → Table → Table
after [] table key = table key
after (Got k value ∷ acts) table key = after acts table key
after (Wrote k value ∷ acts) table key = cond (same_key k key) value (after acts table key)

-- the table that these runs leave, the last one first
abbrev pub table_of : Table → List Run → Table
table_of items [] = items
table_of items (run ∷ runs) = after run.acts (table_of items runs)

-- the table of a site: the rows that it started from, and the writes of the committed ones by number
abbrev pub table : Start → List EngineLine → Table
table start lines = table_of (look_up start.rows) (committed start lines)

-- the last write of each key, by rising key
abbrev pub puts_of : List Access → List Put
puts_of [] = []
puts_of (Got key value ∷ acts) = puts_of acts
puts_of (Wrote key value ∷ acts) = with_row (record { key = key; value = value }) (puts_of acts)

-- the rows that these runs leave, the last one first
abbrev pub rows_of : List Put → List Run → List Put
rows_of items [] = items
rows_of items (run ∷ runs) = with_rows (puts_of run.acts) (rows_of items runs)

-- the rows of a site: the first ones, and every key that a committed one wrote
abbrev pub rows : Start → List EngineLine → List Put
rows start lines = rows_of start.rows (committed start lines)
