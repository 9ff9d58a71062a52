-- The transactions that the coordinator's records name.
use Rattle.std.specs.Prelude.{◌≡◌, Bool, false, ◌||◌}
use Rattle.std.specs.BTreeSet.{BTreeSet, contains}
use Rattle.mdb_base.specs.declared.names.Tx.{Tx}
use Rattle.mdb_base.specs.Names.{same_tx, tx_cmp}
use Rattle.mdb_base.specs.Words.{some_of}
use Rattle.fed_rules.specs.declared.records.CoordRecord.{CoordRecord}
use Rattle.fed_rules.specs.declared.records.CoordRecord.TheVariants.{Initiation, Commit, Abort, End, Checkpoint}
use Rattle.fed_rules.specs.declared.sums.CommittedAttempt.{CommittedAttempt}
use Rattle.fed_rules.specs.declared.sums.CoordSum.{CoordSum}
use Rattle.fed_rules.specs.declared.sums.OpenAttempt.{OpenAttempt}

-- a record of an attempt of the transaction
abbrev pub is_attempt_of : Tx → CoordRecord → Bool
is_attempt_of tx (Initiation tid participants) = same_tx tid.tx tx
is_attempt_of tx (Commit tid tickets) = same_tx tid.tx tx
is_attempt_of tx (Abort tid participants) = same_tx tid.tx tx
is_attempt_of tx (End tid) = same_tx tid.tx tx
is_attempt_of tx (Checkpoint sum) = false

abbrev pub is_open_of : Tx → OpenAttempt → Bool
is_open_of tx attempt = same_tx attempt.tid.tx tx

abbrev pub is_committed_of : Tx → CommittedAttempt → Bool
is_committed_of tx attempt = same_tx attempt.tid.tx tx

-- what a first Checkpoint names
abbrev pub is_named_in : Tx → CoordSum → Bool
is_named_in tx sum = some_of (is_committed_of tx) sum.committed || some_of (is_open_of tx) sum.open_attempts

-- these transactions were added, and no others
abbrev pub AddsTo : (Tx → Bool) → BTreeSet Tx → BTreeSet Tx → Type 0
AddsTo these before after = (tx : Tx) → contains tx_cmp after tx ≡ (these tx || contains tx_cmp before tx)
