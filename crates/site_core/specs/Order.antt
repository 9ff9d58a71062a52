-- When a book knows its local transactions.
use Rattle.std.specs.Prelude.{◌≡◌, Some, IsSome}
use Rattle.std.specs.FinMap.{get}
use Rattle.mdb_base.specs.declared.names.Tid.{Tid}
use Rattle.mdb_base.specs.declared.names.Tx.{Tx}
use Rattle.site_book.specs.Book.{Book, live_in, running_in}

-- a running attempt is its transaction's own and live, of a transaction that was begun as a local one; and a live attempt of such a transaction is
-- the running one
pub record IsInOrder (book : Book) : Type 0 where
  pub own : (tx : Tx) (tid : Tid) → running_in book tx ≡ Some tid → tid.tx ≡ tx
  pub live : (tx : Tx) (tid : Tid) → running_in book tx ≡ Some tid → IsSome (live_in book tid)
  pub running : (u : Tid) → IsSome (live_in book u) → IsSome (get book.again u.tx) → running_in book u.tx ≡ Some u
  pub counted : (tx : Tx) (tid : Tid) → running_in book tx ≡ Some tid → IsSome (get book.again tx)
