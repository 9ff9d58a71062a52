-- When a book follows the engine lines of an epoch, and when its parts are in order.
use Rattle.std.specs.Prelude.{◌≡◌, Bool, true, cond, is_some, Option, Some, None, List}
use Rattle.mdb_base.specs.declared.names.Tid.{Tid}
use Rattle.mdb_base.specs.declared.names.Tx.{Tx}
use Rattle.fed_rules.specs.Runs.{Start, EngineLine, Run, run_at, is_sealed}
use Rattle.site_book.specs.declared.progress.Progress.{Progress}
use Rattle.site_book.specs.declared.progress.Progress.TheVariants as Is
use Rattle.site_book.specs.Noted.{noted_of}
use Rattle.site_book.specs.Book.{Book, progress_of, live_in, running_in, runs, standing_of}

-- how far an attempt with this unended run is; one with none is closed, or has no entry
abbrev pub progress_by : Option Run → Bool → Option Progress
progress_by None closed = cond closed (Some Is.Closed) None
progress_by (Some run) closed = Some (cond (is_sealed run) Is.Sealed (Is.Live (noted_of run)))

-- the book says of each attempt what its unended run is by these lines, and else whether it is closed
pub record Follows (book : Book) (start : Start) (lines : List EngineLine) (closed : Tid → Bool) : Type 0 where
  pub attempts : (u : Tid) → progress_of book u ≡ progress_by (run_at start lines u) (closed u)

-- a running attempt is its transaction's own, and of the transactions that are local here the live attempts are those that are running
pub record IsInOrder (local : Tx → Bool) (book : Book) : Type 0 where
  pub own : (tx : Tx) (tid : Tid) → running_in book tx ≡ Some tid → tid.tx ≡ tx
  pub live : (u : Tid) → local u.tx ≡ true → is_some (live_in book u) ≡ runs u (standing_of book u.tx)
