-- What the sets of a site's transactions tell of the records so far.
use Rattle.std.specs.Prelude.{◌≡◌, Bool, false, ◌||◌, Option, Some, None}
use Rattle.std.specs.BTreeSet.{contains}
use Rattle.mdb_base.specs.declared.names.Tid.{Tid}
use Rattle.mdb_base.specs.declared.names.Tx.{Tx}
use Rattle.mdb_base.specs.Names.{same_tx, tx_cmp}
use Rattle.mdb_base.specs.Words.{some_of}
use Rattle.fed_rules.specs.declared.records.SiteRecord.{SiteRecord}
use Rattle.fed_rules.specs.declared.records.SiteRecord.TheVariants.{Prepared, Ended, Checkpoint}
use Rattle.fed_rules.specs.declared.sums.SiteSum.{SiteSum}
use Rattle.fed_rules.specs.SiteRecords.{Held}
use Rattle.usable_journals.specs.declared.parted.Parted.{Parted}

-- an attempt of the transaction
abbrev pub is_of : Tx → Tid → Bool
is_of tx tid = same_tx tid.tx tx

abbrev pub is_held_of : Tx → Held → Bool
is_held_of tx held = same_tx held.tid.tx tx

abbrev pub is_owner_of : Tx → Option Tid → Bool
is_owner_of tx None = false
is_owner_of tx (Some owner) = same_tx owner.tx tx

abbrev pub is_sum_of : Tx → SiteSum → Bool
is_sum_of tx sum = is_owner_of tx sum.owner || some_of (is_held_of tx) sum.doubtful

-- a record of the global transaction
abbrev pub is_global_of : Tx → SiteRecord → Bool
is_global_of tx (Prepared tid epoch number ticket writes) = same_tx tid.tx tx
is_global_of tx (Ended tid decision) = same_tx tid.tx tx
is_global_of tx (Checkpoint sum) = is_sum_of tx sum
is_global_of tx other = false

abbrev pub none : Tx → Bool
none tx = false

-- these local transactions were added and these global ones, and no others
pub record Adds (these those : Tx → Bool) (before after : Parted) : Type 0 where
  pub locals : (tx : Tx) → contains tx_cmp after.locals tx ≡ (these tx || contains tx_cmp before.locals tx)
  pub globals : (tx : Tx) → contains tx_cmp after.globals tx ≡ (those tx || contains tx_cmp before.globals tx)
