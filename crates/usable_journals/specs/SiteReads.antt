-- What a site's Checkpoints say of the records before them, where each older one stands for all before it. Lists of records stand newest first.
use Rattle.std.specs.Prelude.{ℕ, ◌≡◌, ◌==◌, ◌&&◌, Bool, Some, List, [], ◌∷◌}
use Rattle.std.specs.Cmp.Lexicographic.{pointwise}
use Rattle.mdb_base.specs.declared.rows.Put.{Put}
use Rattle.mdb_base.specs.Names.{same_key, same_tid}
use Rattle.fed_rules.specs.declared.records.SiteRecord.{SiteRecord}
use Rattle.fed_rules.specs.declared.records.SiteRecord.TheVariants.{Checkpoint}
use Rattle.fed_rules.specs.declared.sums.SiteSum.{SiteSum}
use Rattle.fed_rules.specs.SiteRecords.{Held, Home}
use Rattle.fed_rules.specs.Reopened.{first_of}
use Rattle.fed_rules.specs.SiteSums.{journal_sum}
use Rattle.fed_rules.specs.Usable.{home_of_first}

-- a Checkpoint says what the journal before it says
abbrev pub Fits : Home → SiteRecord → List SiteRecord → Type 0
Fits home (Checkpoint sum) front = journal_sum home front ≡ sum
Fits home other front = Unit {0}

-- so does each Checkpoint behind other records
abbrev pub AllFit : Home → List SiteRecord → Type 0
AllFit home [] = Unit {0}
AllFit home (first ∷ []) = Unit {0}
AllFit home (newest ∷ next ∷ older) = Fits home newest (next ∷ older) × AllFit home (next ∷ older)

-- ---- lists that are compared item by item

abbrev pub same_put : Put → Put → Bool
same_put a b = same_key a.key b.key && (a.value == b.value)

abbrev pub same_held : Held → Held → Bool
same_held a b =
    same_tid a.tid b.tid
    && ((a.epoch == b.epoch) && ((a.number == b.number) && ((a.ticket == b.ticket) && pointwise same_put a.writes b.writes)))

-- ---- the parts of a sum

pub record IsSameHome (one other : SiteSum) : Type 0 where
  pub site : one.site ≡ other.site
  pub engine : one.engine ≡ other.engine
  pub protocol : one.protocol ≡ other.protocol

pub record HasSameMarks (one other : SiteSum) : Type 0 where
  pub epoch : one.epoch ≡ other.epoch
  pub counter : one.counter ≡ other.counter
  pub published : one.published ≡ other.published
  pub owner : one.owner ≡ other.owner

pub record HasSameLists (one other : SiteSum) : Type 0 where
  pub rows : one.rows ≡ other.rows
  pub locals : one.locals ≡ other.locals
  pub doubtful : one.doubtful ≡ other.doubtful

-- ---- the front that a Checkpoint is compared with

-- where it begins behind this record: at a Checkpoint, which stands for all before it
abbrev pub front_from : SiteRecord → ℕ → ℕ → ℕ
front_from (Checkpoint sum) place last = place
front_from other place last = last

-- the first record is one that a site's journal begins with
abbrev pub HasHome : List SiteRecord → Type 0
HasHome journal = (home : Home) × (home_of_first (first_of journal) ≡ Some home)
