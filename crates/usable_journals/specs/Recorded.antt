-- What the sets of recorded attempts tell of the records so far.
use Rattle.std.specs.Prelude.{◌≡◌, Bool, true, false, not, List, [], ◌∷◌, ◌++◌}
use Rattle.std.specs.BTreeSet.{BTreeSet, contains}
use Rattle.mdb_base.specs.declared.names.Tid.{Tid}
use Rattle.mdb_base.specs.declared.names.Tx.{Tx}
use Rattle.mdb_base.specs.Words.{some_of}
use Rattle.mdb_base.specs.Names.{tid_cmp, tx_cmp}
use Rattle.fed_rules.specs.declared.records.CoordRecord.{CoordRecord}
use Rattle.fed_rules.specs.declared.records.CoordRecord.TheVariants.{End}
use Rattle.fed_rules.specs.declared.sums.CommittedAttempt.{CommittedAttempt}
use Rattle.usable_journals.specs.declared.coord_order.Recorded.{Recorded}
use Rattle.usable_journals.specs.CoordTests.{in_order, is_any_of, is_commit_of, is_decided_of, is_end_of, may_stand}

pub record Tells (recorded : Recorded) (records : List CoordRecord) : Type 0 where
  pub named : (tid : Tid) → contains tid_cmp recorded.named tid ≡ some_of (is_any_of tid) records
  pub decided : (tid : Tid) → contains tid_cmp recorded.decided tid ≡ some_of (is_decided_of tid) records
  pub ended : (tid : Tid) → contains tid_cmp recorded.ended tid ≡ some_of (is_end_of tid) records
  pub committed : (tx : Tx) → contains tx_cmp recorded.committed tx ≡ some_of (is_commit_of tx) records

-- one more record was taken, and this is whether it may stand there
abbrev pub Takes : Recorded → Recorded → CoordRecord → Bool → Type 0
Takes before after entry fits = (records : List CoordRecord) → Tells before records → (fits ≡ may_stand entry records) × Tells after (entry ∷ records)

-- the records stand in order, and the sets tell what they say
pub record IsGood (recorded : Recorded) (records : List CoordRecord) : Type 0 where
  pub tells : Tells recorded records
  pub stands : in_order records ≡ true

-- these records were taken, the newest first, and this is whether they stand in order behind those before
abbrev pub TakesAll : Recorded → Recorded → List CoordRecord → Bool → Type 0
TakesAll before after entries fits =
    (records : List CoordRecord) → IsGood before records → (fits ≡ in_order (entries ++ records)) × (fits ≡ true → Tells after (entries ++ records))

-- the committed attempt isn't one of these
abbrev pub not_in : BTreeSet Tid → CommittedAttempt → Bool
not_in tids attempt = not (contains tid_cmp tids attempt.tid)

-- an End of the attempt, unless it is open
abbrev pub end_unless : Bool → Tid → List CoordRecord
end_unless true tid = []
end_unless false tid = End tid ∷ []
