-- The calls that change a book, and what each makes of the local transactions.
use Rattle.std.specs.Prelude.{ℕ, suc, ◌≡◌, Bool, true, false, ◌&&◌, ◌||◌, cond, is_some, not, Option, Some, None, List, [], ◌∷◌}
use Rattle.mdb_base.specs.declared.acts.PlainAct.{PlainAct}
use Rattle.mdb_base.specs.declared.names.Tid.{Tid}
use Rattle.mdb_base.specs.declared.names.Tx.{Tx}
use Rattle.mdb_base.specs.declared.replies.Reply.{Reply}
use Rattle.mdb_base.specs.Names.{same_tx}
use Rattle.mdb_base.specs.Words.{first_where, map_some}
use Rattle.fed_rules.specs.EngineLines.{IsRight}
use Rattle.fed_rules.specs.Runs.{Start, EngineLine, is_sealed, unended}
use Rattle.site_book.specs.declared.progress.Progress.TheVariants as Is
use Rattle.site_book.specs.Book.{Book, progress_of, live_in, running_in, committed_in, begun_in, enters, begins_global, begins_local, notes_reply, notes_take, seals, closes, commits_local, stopped, restarted}
use Rattle.site_book.specs.Follows.{Follows, IsInOrder}

-- a call that changes a book
pub data Call : Type 0 where
  Begin_global : Tid → Call
  Begin_local : Tid → Call
  Note_reply : Tid → PlainAct → Reply → Call
  Note_take : Tid → Reply → Call
  Seal : Tid → Call
  Close : Tid → Call
  Close_unheld : Tid → Call
  Commit_local : Tid → Call
  Stop : Call
  Restart : List Tid → List Tid → Call

-- the book behind a call
abbrev pub book_after : Call → Book → Book
book_after (Begin_global tid) book = begins_global tid book
book_after (Begin_local tid) book = begins_local tid book
book_after (Note_reply tid act reply) book = notes_reply tid act reply book
book_after (Note_take tid reply) book = notes_take tid reply book
book_after (Seal tid) book = seals tid book
book_after (Close tid) book = closes tid book
book_after (Close_unheld tid) book = enters tid Is.Closed book
book_after (Commit_local tid) book = commits_local tid book
book_after Stop book = stopped book
book_after (Restart committed doubtful) book = restarted committed doubtful book

-- whether a transaction is local behind a call: a begin as a local one makes it so
abbrev pub local_after : Call → (Tx → Bool) → Tx → Bool
local_after (Begin_local tid) local tx = local tx || same_tx tid.tx tx
local_after (Begin_global tid) local tx = local tx
local_after (Note_reply tid act reply) local tx = local tx
local_after (Note_take tid reply) local tx = local tx
local_after (Seal tid) local tx = local tx
local_after (Close tid) local tx = local tx
local_after (Close_unheld tid) local tx = local tx
local_after (Commit_local tid) local tx = local tx
local_after Stop local tx = local tx
local_after (Restart committed doubtful) local tx = local tx

-- no attempt of the transaction is live
abbrev pub NoneLives : Book → Tx → Type 0
NoneLives book tx = (u : Tid) → same_tx tx u.tx ≡ true → live_in book u ≡ None

-- where a call may come: a local attempt begins where none of its transaction is live or committed, and only those of global transactions are begun or sealed as such
abbrev pub MayCome : (Tx → Bool) → Book → Call → Type 0
MayCome local book (Begin_global tid) = local tid.tx ≡ false
MayCome local book (Begin_local tid) = (committed_in book tid.tx ≡ None) × NoneLives book tid.tx
MayCome local book (Note_reply tid act reply) = Unit {0}
MayCome local book (Note_take tid reply) = Unit {0}
MayCome local book (Seal tid) = local tid.tx ≡ false
MayCome local book (Close tid) = Unit {0}
MayCome local book (Close_unheld tid) = progress_of book tid ≡ None
MayCome local book (Commit_local tid) = running_in book tid.tx ≡ Some tid
MayCome local book Stop = Unit {0}
MayCome local book (Restart committed doubtful) = Unit {0}

-- a call that may come keeps the book in order
abbrev pub OrdersWell : Type 0
OrdersWell = (local : Tx → Bool) (book : Book) (call : Call) → IsInOrder local book → MayCome local book call → IsInOrder (local_after call local) (book_after call book)

-- where no attempt of a local transaction is running, none is live
abbrev pub NoneRunning : Type 0
NoneRunning = (local : Tx → Bool) (book : Book) → IsInOrder local book → (tx : Tx) → local tx ≡ true → running_in book tx ≡ None → NoneLives book tx

-- the running attempt of a local transaction is the one that the rules find live
abbrev pub RunsWell : Type 0
RunsWell =
    (local : Tx → Bool) (book : Book) (start : Start) (lines : List EngineLine) (closed : Tid → Bool) → IsInOrder local book → Follows book start lines closed → IsRight start lines
    → (tx : Tx) → local tx ≡ true
    → running_in book tx ≡ map_some (λ run. run.tid) (first_where (λ run. same_tx run.tid.tx tx && not (is_sealed run)) (unended start lines))

-- a begin of a local attempt is counted, and nothing else changes the counts
abbrev pub count_after : Call → Tx → ℕ → ℕ
count_after (Begin_local tid) tx n = cond (same_tx tid.tx tx) (suc n) n
count_after (Begin_global tid) tx n = n
count_after (Note_reply tid act reply) tx n = n
count_after (Note_take tid reply) tx n = n
count_after (Seal tid) tx n = n
count_after (Close tid) tx n = n
count_after (Close_unheld tid) tx n = n
count_after (Commit_local tid) tx n = n
count_after Stop tx n = n
count_after (Restart committed doubtful) tx n = n

abbrev pub CountsWell : Type 0
CountsWell = (book : Book) (call : Call) (tx : Tx) → begun_in (book_after call book) tx ≡ count_after call tx (begun_in book tx)

-- the last of these attempts that is one of the transaction
abbrev pub last_of : Tx → List Tid → Option Tid
last_of tx [] = None
last_of tx (tid ∷ more) = cond (is_some (last_of tx more)) (last_of tx more) (cond (same_tx tid.tx tx) (Some tid) None)

-- a commit is kept till the site stops, and a start says who committed
abbrev pub committed_after : Call → Tx → Option Tid → Option Tid
committed_after (Commit_local tid) tx o = cond (same_tx tid.tx tx) (Some tid) o
committed_after Stop tx o = None
committed_after (Restart committed doubtful) tx o = last_of tx committed
committed_after (Begin_global tid) tx o = o
committed_after (Begin_local tid) tx o = o
committed_after (Note_reply tid act reply) tx o = o
committed_after (Note_take tid reply) tx o = o
committed_after (Seal tid) tx o = o
committed_after (Close tid) tx o = o
committed_after (Close_unheld tid) tx o = o

abbrev pub RemembersWell : Type 0
RemembersWell =
    (local : Tx → Bool) (book : Book) (call : Call) (tx : Tx) → MayCome local book call → committed_in (book_after call book) tx ≡ committed_after call tx (committed_in book tx)
