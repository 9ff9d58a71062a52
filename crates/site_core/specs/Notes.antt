-- What the book of a site notes of its past while the site is up.
use Rattle.std.specs.Prelude.{ℕ, ◌≡◌, ◌≤◌, ◌⊎◌, Bool, true, is_some, Option, Some, List, length}
use Rattle.mdb_base.specs.declared.names.Tid.{Tid}
use Rattle.mdb_base.specs.declared.names.Tx.{Tx}
use Rattle.fed_rules.specs.Runs.{Start, EngineLine, Run, run_at}
use Rattle.fed_rules.specs.SitePast.{SitePast, engine_lines, epoch_start, is_closed, live_one, records}
use Rattle.fed_rules.specs.SiteRecords.{Home, local_of}
use Rattle.site_book.specs.Book.{Book, committed_in}
use Rattle.site_book.specs.Follows.{Follows}
use Rattle.site_core.specs.Order.{IsInOrder}
use Rattle.site_core.specs.Made.{was_begun, was_global}

-- the book follows these engine lines with these attempts closed, and says who is committed as a local one; each attempt that is closed or live
-- was begun as a local one, or a message was about its transaction; and a live one has at most 32 granted accesses
pub record Notes (book : Book) (start : Start) (lines : List EngineLine) (closed : Tid → Bool) (committed : Tx → Option Tid) (past : SitePast) : Type 0 where
  pub follows : Follows book start lines closed
  pub order : IsInOrder book
  pub committed_is : (tx : Tx) → committed_in book tx ≡ committed tx
  pub known : (tid : Tid) → (closed tid ≡ true) ⊎ (is_some (live_one (run_at start lines tid)) ≡ true) → (was_begun tid past ≡ true) ⊎ (was_global tid.tx past ≡ true)
  pub few : (tid : Tid) (run : Run) → live_one (run_at start lines tid) ≡ Some run → length run.acts ≤ 32

-- so it notes this past
abbrev pub NotesPast : Book → Home → SitePast → Type 0
NotesPast book home past = Notes book (epoch_start home past) (engine_lines past) (is_closed past) (local_of (records home past)) past
