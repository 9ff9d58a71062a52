-- What holds at a site whatever calls come, by whichever of the four rules: the words of the serial laws.
use Rattle.std.specs.Prelude.{ℕ, ◌≡◌, ◌<◌, ◌≤◌, false, Some, List, [], ◌∷◌}
use Rattle.mdb_base.specs.declared.names.Engine.{Engine}
use Rattle.mdb_base.specs.declared.names.Key.{Key}
use Rattle.mdb_base.specs.declared.names.Tid.{Tid}
use Rattle.mdb_base.specs.Names.{same_tid}
use Rattle.mdb_base.specs.Rows.{look_up}
use Rattle.mdb_base.specs.Rising.{IsRising}
use Rattle.mdb_base.specs.Words.{Each}
use Rattle.fed_rules.specs.declared.runs.Kept.{Kept}
use Rattle.fed_rules.specs.Runs.{Start, EngineLine, Commits, Run, committed, published, table, rows, puts_of}
use Rattle.fed_rules.specs.EngineLines.{IsRight, IsSealed, IsStart}
use Rattle.fed_rules.specs.SerialRuns.{IsSerial, NumbersFall, TicketsFall, HasLowerTicket}
use Rattle.engine_laws.specs.Unended.{EachRun, EachPair, IsClear}

-- the fact holds from each good start by this rule, after every list of right lines
abbrev pub AlwaysBy : Engine → (Start → List EngineLine → Type 0) → Type 0
AlwaysBy kind P = (start : Start) (lines : List EngineLine) → start.kind ≡ kind → IsStart start → IsRight start lines
    → P start lines

-- the fact holds from each good start by any rule, after every list of right lines
abbrev pub Always : (Start → List EngineLine → Type 0) → Type 0
Always P = (start : Start) (lines : List EngineLine) → IsStart start → IsRight start lines → P start lines

-- the committed runs, no two with one number, read alone by their numbers what they were answered, from the first rows on
pub record IsSerialSite (start : Start) (lines : List EngineLine) : Type 0 where
  pub numbers : NumbersFall (committed start lines)
  pub alone : IsSerial (look_up start.rows) (committed start lines)

-- the ticket of the run, where it took one, is at most this
abbrev pub HasTicketTo : ℕ → Run → Type 0
HasTicketTo most run = (t : ℕ) → run.ticket ≡ Some t → t ≤ most

-- tickets stand in the order of the numbers, among the committed runs and among the sealed ones, and none is above the published one
pub record HasTicketsInOrder (start : Start) (lines : List EngineLine) : Type 0 where
  pub among_committed : TicketsFall (committed start lines)
  pub among_sealed : EachPair start lines (λ a b. (m n : ℕ) → a.sealed ≡ Some m → b.sealed ≡ Some n → m < n → HasLowerTicket b a)
  pub of_committed : Each (HasTicketTo (published start lines)) (committed start lines)
  pub of_sealed : EachRun start lines (λ run. (n : ℕ) → run.sealed ≡ Some n → HasTicketTo (published start lines) run)

-- the lines, and then the commits of these attempts
abbrev pub with_commits : List Tid → List EngineLine → List EngineLine
with_commits [] lines = lines
with_commits (tid ∷ tids) lines = Commits tid ∷ with_commits tids lines

-- each of these attempts is sealed, and none stands twice
abbrev pub AreSealed : Start → List EngineLine → List Tid → Type 0
AreSealed start lines [] = Unit {0}
AreSealed start lines (tid ∷ tids) =
    (run : Run) × (n : ℕ) × IsSealed start lines tid run n × Each (λ other. same_tid tid other ≡ false) tids
    × AreSealed start lines tids

-- the fact holds as well where any of the sealed runs are taken as committed
abbrev pub WithAnyCommits : (Start → List EngineLine → Type 0) → Start → List EngineLine → Type 0
WithAnyCommits P start lines = (tids : List Tid) → AreSealed start lines tids → P start (with_commits tids lines)

-- the kept one is a sealed run with a ticket, with its last write of each key
pub record IsLeft (start : Start) (lines : List EngineLine) (kept : Kept) : Type 0 where
  pub run : Run
  pub sealed : IsSealed start lines kept.tid run kept.number
  pub ticket : run.ticket ≡ Some kept.ticket
  pub writes : kept.writes ≡ puts_of run.acts

-- no attempt stands twice
abbrev pub EachOnce : List Kept → Type 0
EachOnce [] = Unit {0}
EachOnce (kept ∷ more) = Each (λ other. same_tid kept.tid other.tid ≡ false) more × EachOnce more

-- after a stop behind these lines a site may start so: by the same rule, from rows of the table, with some of the sealed runs in doubt
pub record IsRestart (start : Start) (lines : List EngineLine) (next : Start) : Type 0 where
  pub kind : next.kind ≡ start.kind
  pub rows : (key : Key) → look_up next.rows key ≡ table start lines key
  pub left : Each (IsLeft start lines) next.doubtful
  pub once : EachOnce next.doubtful
  pub counter : Each (λ kept. kept.number ≤ next.counter) next.doubtful
  pub published : published start lines ≤ next.published

-- commits of restored runs leave the table that they would have left before the stop
abbrev pub CommitsAsBefore : (start : Start) (lines : List EngineLine) (next : Start) → Type 0
CommitsAsBefore start lines next =
    (tids : List Tid) → AreSealed next [] tids → AreSealed start lines tids
    × ((key : Key) → table next (with_commits tids []) key ≡ table start (with_commits tids lines) key)

-- each restart after these lines is a good start, and commits as before
abbrev pub MayRestart : Start → List EngineLine → Type 0
MayRestart start lines = (next : Start) → IsRestart start lines next → IsStart next × CommitsAsBefore start lines next

-- no unended run has an access of a key that another one wrote
abbrev pub HasNoConflicts : Start → List EngineLine → Type 0
HasNoConflicts start lines = EachPair start lines (λ a b. IsClear a.acts b.acts)

-- the rows give the table, and they rise by their keys where the first ones do
pub record HasRowsOfTable (start : Start) (lines : List EngineLine) : Type 0 where
  pub values : (key : Key) → look_up (rows start lines) key ≡ table start lines key
  pub rising : IsRising (λ row. row.key.0) start.rows → IsRising (λ row. row.key.0) (rows start lines)
