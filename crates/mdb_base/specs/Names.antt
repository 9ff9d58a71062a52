-- Tests on the names of sites, keys, transactions and attempts, and the orders of the last two.
use Rattle.std.specs.Prelude.{Bool, ◌==◌, ◌&&◌, ◌||◌, nat_lt}
use Rattle.std.specs.Ordering.{nat_cmp, ordering_then}
use Rattle.std.specs.declared.cmp.Ordering.{Ordering}
use Rattle.mdb_base.specs.declared.names.SiteId.{SiteId}
use Rattle.mdb_base.specs.declared.names.Key.{Key}
use Rattle.mdb_base.specs.declared.names.Tx.{Tx}
use Rattle.mdb_base.specs.declared.names.Tid.{Tid}

abbrev pub same_site : SiteId → SiteId → Bool
same_site a b = a.0 == b.0

abbrev pub same_key : Key → Key → Bool
same_key a b = a.0 == b.0

abbrev pub same_tx : Tx → Tx → Bool
same_tx a b = a.0 == b.0

-- the same attempt of the same transaction
abbrev pub same_tid : Tid → Tid → Bool
same_tid a b = (a.tx.0 == b.tx.0) && (a.attempt == b.attempt)

-- by transaction, then by attempt
abbrev pub tid_before : Tid → Tid → Bool
tid_before a b = nat_lt a.tx.0 b.tx.0 || ((a.tx.0 == b.tx.0) && nat_lt a.attempt b.attempt)

-- the order of transactions is that of their numbers
abbrev pub tx_cmp : Tx → Tx → Ordering
tx_cmp a b = nat_cmp a.0 b.0

-- attempts are compared by transaction, then by attempt
abbrev pub tid_cmp : Tid → Tid → Ordering
tid_cmp a b = ordering_then (nat_cmp a.tx.0 b.tx.0) (nat_cmp a.attempt b.attempt)
