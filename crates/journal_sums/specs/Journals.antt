-- Which records are the journal of a site, and what it begins from.
use Rattle.std.specs.Prelude.{◌≡◌, List, [], ◌∷◌, ◌++◌}
use Rattle.mdb_base.specs.Words.{or_else}
use Rattle.fed_rules.specs.declared.records.SiteRecord.{SiteRecord}
use Rattle.fed_rules.specs.declared.records.SiteRecord.TheVariants.{Setup, Checkpoint}
use Rattle.fed_rules.specs.declared.sums.SiteSum.{SiteSum}
use Rattle.fed_rules.specs.SiteRecords.{Home}
use Rattle.fed_rules.specs.SiteSums.{last_sum, site_sum}

-- a record that the journal of a site may begin with: its set-up, or a Checkpoint that names it, its engine and its protocol
abbrev pub Begins : Home → SiteRecord → Type 0
Begins home (Setup site engine protocol items) = (site ≡ home.site) × (engine ≡ home.engine) × (protocol ≡ home.protocol) × (items ≡ home.items)
Begins home (Checkpoint sum) = (sum.site ≡ home.site) × (sum.engine ≡ home.engine) × (sum.protocol ≡ home.protocol)
Begins home other = ⊥

-- the journal of some site may begin with it
pub record IsFirst (oldest : SiteRecord) : Type 0 where
  pub home : Home
  pub begins : Begins home oldest

-- the records, the newest first, are the journal of this site
pub record IsJournalOf (home : Home) (records : List SiteRecord) : Type 0 where
  pub newer : List SiteRecord
  pub oldest : SiteRecord
  pub begins : Begins home oldest
  pub stands : records ≡ newer ++ oldest ∷ []

-- they are the journal of some site
pub record IsJournal (records : List SiteRecord) : Type 0 where
  pub home : Home
  pub journal : IsJournalOf home records

-- what a site says before its first record
abbrev pub first_sum : Home → SiteSum
first_sum home = site_sum home []

-- what the records behind the last Checkpoint go on from
abbrev pub base : Home → List SiteRecord → SiteSum
base home records = or_else (last_sum records) (first_sum home)
