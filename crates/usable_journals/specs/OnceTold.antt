-- What the sets of a site's attempts tell of the records so far.
use Rattle.std.specs.Prelude.{◌≡◌, Bool, true, is_some, List, ◌∷◌, ◌++◌}
use Rattle.std.specs.BTreeSet.{contains}
use Rattle.mdb_base.specs.declared.names.Tid.{Tid}
use Rattle.mdb_base.specs.declared.names.Tx.{Tx}
use Rattle.mdb_base.specs.Words.{some_of}
use Rattle.mdb_base.specs.Names.{tid_cmp, tx_cmp}
use Rattle.fed_rules.specs.declared.records.SiteRecord.{SiteRecord}
use Rattle.fed_rules.specs.SiteRecords.{doubt_of}
use Rattle.usable_journals.specs.declared.site_once.Once.{Once}
use Rattle.usable_journals.specs.SiteTests.{is_local_of, is_prepared_of, may_stand, once_each}

pub record Tells (once : Once) (records : List SiteRecord) : Type 0 where
  pub prepared : (tid : Tid) → contains tid_cmp once.prepared tid ≡ some_of (is_prepared_of tid) records
  pub in_doubt : (tid : Tid) → contains tid_cmp once.in_doubt tid ≡ is_some (doubt_of records tid)
  pub locals : (tx : Tx) → contains tx_cmp once.locals tx ≡ some_of (is_local_of tx) records

abbrev pub Takes : Once → Once → SiteRecord → Bool → Type 0
Takes before after entry fits = (records : List SiteRecord) → Tells before records → (fits ≡ may_stand entry records) × Tells after (entry ∷ records)

pub record IsGood (once : Once) (records : List SiteRecord) : Type 0 where
  pub tells : Tells once records
  pub stands : once_each records ≡ true

abbrev pub TakesAll : Once → Once → List SiteRecord → Bool → Type 0
TakesAll before after entries fits =
    (records : List SiteRecord) → IsGood before records → (fits ≡ once_each (entries ++ records)) × (fits ≡ true → Tells after (entries ++ records))
