-- What was read so far stands for a Checkpoint and the records behind it.
use Rattle.std.specs.Prelude.{◌≡◌, max, nat_lt, cond, List, ◌∷◌, ◌++◌, reverse}
use Rattle.std.specs.BTreeMap.{get}
use Rattle.mdb_base.specs.declared.names.Key.{Key}
use Rattle.mdb_base.specs.declared.names.Tid.{Tid}
use Rattle.mdb_base.specs.Rising.{IsRising}
use Rattle.mdb_base.specs.Names.{tid_cmp}
use Rattle.fed_rules.specs.declared.records.SiteRecord.{SiteRecord}
use Rattle.fed_rules.specs.declared.sums.SiteSum.{SiteSum}
use Rattle.fed_rules.specs.SiteRecords.{Home, doubt_of, installs, last_number, last_ticket, ticket_owner}
use Rattle.fed_rules.specs.SiteSums.{behind_sum, carried, epoch_with}
use Rattle.journal_sums.specs.declared.counters.SiteCounters.{SiteCounters}
use Rattle.journal_sums.specs.declared.reading.Reading.{Reading}
use Rattle.journal_sums.specs.Journals.{base}
use Rattle.journal_sums.specs.Locals.{local_tids}
use Rattle.journal_sums.specs.Versions.{kept, version_in}

-- the counters are those of this Checkpoint with the newer records
pub record TellsCounters (counters : SiteCounters) (sum : SiteSum) (newer : List SiteRecord) : Type 0 where
  pub epoch : counters.epoch ≡ epoch_with sum.epoch newer
  pub counter : counters.counter ≡ max (last_number newer) sum.counter
  pub published : counters.published ≡ max (last_ticket newer) sum.published
  pub owner : counters.owner ≡ cond (nat_lt sum.published (last_ticket newer)) (ticket_owner newer) sum.owner

-- beside its counters, all that was read is what this Checkpoint says with the newer records
pub record Holds (reading : Reading) (sum : SiteSum) (newer : List SiteRecord) : Type 0 where
  pub site : reading.site ≡ sum.site
  pub engine : reading.engine ≡ sum.engine
  pub protocol : reading.protocol ≡ sum.protocol
  pub rising : IsRising (λ put. put.key.0) sum.rows
  pub versions : (key : Key) → kept reading.versions key ≡ version_in sum.rows (installs (newer ++ carried sum.doubtful)) key
  pub first_locals : reading.first_locals ≡ sum.locals
  pub locals : reverse reading.locals.items ≡ local_tids newer
  pub doubtful : (tid : Tid) → get tid_cmp reading.doubtful tid ≡ doubt_of (newer ++ carried sum.doubtful) tid

-- all that was read says what this Checkpoint says with the newer records
pub record Says (reading : Reading) (sum : SiteSum) (newer : List SiteRecord) : Type 0 where
  pub counters : TellsCounters reading.counters sum newer
  pub holds : Holds reading sum newer

-- beside the counters, the one holds what the other holds with this record behind
abbrev pub Adds : Reading → Reading → SiteRecord → Type 0
Adds old new entry = (sum : SiteSum) (newer : List SiteRecord) → Holds old sum newer → Holds new sum (entry ∷ newer)

-- it says what the journal of this site says, the newest record first
abbrev pub SaysJournal : Reading → Home → List SiteRecord → Type 0
SaysJournal reading home journal = Says reading (base home journal) (behind_sum journal)
