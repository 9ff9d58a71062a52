-- How the parts of a run book hang together.
use Rattle.std.specs.Prelude.{ℕ, ◌≡◌, ◌≤◌, List}
use Rattle.std.specs.FinMap.{from_entries}
use Rattle.mdb_base.specs.declared.names.Tid.{Tid}
use Rattle.ticket_item.specs.Item.{Item, is_holder}
use Rattle.run_book.specs.Held.{Held, held_in, is_taker}
use Rattle.run_book.specs.Tables.{promised}

-- the promised writes are counted, the table has room for them, and the holders of the ticket are the live runs that have taken it
pub record IsInOrder (entries : List (Tid × Held)) (count spare : ℕ) (ticket : Item) : Type 0 where
  pub counted : promised entries ≡ count
  pub room : count ≤ spare
  pub holders : (u : Tid) → is_holder ticket u ≡ is_taker (held_in (from_entries entries) u)
