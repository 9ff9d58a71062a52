-- Trees by transaction: how many attempts of each were begun, and which one is committed.
use Rattle.std.specs.Prelude.{ℕ, Option, None, List}
use Rattle.std.specs.BTreeMap.{is_at}
use Rattle.std.specs.Map.{lookup}
use Rattle.mdb_base.specs.declared.names.Tid.{Tid}
use Rattle.mdb_base.specs.declared.names.Tx.{Tx}
use Rattle.mdb_base.specs.Words.{or_else}
use Rattle.mdb_base.specs.Names.{tx_cmp}

-- the entries of a tree
pub record Tree (X : Type 0) : Type 0 where
  pub listed : List (Tx × X)

-- the entry of the transaction
abbrev pub entry_of : {X : Type 0} → List (Tx × X) → Tx → Option X
entry_of entries tx = lookup (is_at (tx_cmp tx)) entries

-- how many attempts of the transaction were begun
abbrev pub noted : List (Tx × ℕ) → Tx → ℕ
noted counts tx = or_else (entry_of counts tx) 0

-- the committed attempt of the transaction
abbrev pub committed_in : List (Tx × Option Tid) → Tx → Option Tid
committed_in tids tx = or_else (entry_of tids tx) None
