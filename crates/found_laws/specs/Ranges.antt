-- Attempts in their range, and records that name such alone.
use Rattle.std.specs.Prelude.{◌≡◌, ◌≤◌, ◌<◌, Some}
use Rattle.mdb_base.specs.declared.names.Tid.{Tid}
use Rattle.mdb_base.specs.Words.{Each}
use Rattle.fed_rules.specs.declared.records.CoordRecord.{CoordRecord}
use Rattle.fed_rules.specs.declared.records.CoordRecord.TheVariants.{Abort, Checkpoint, Commit, End, Initiation}
use Rattle.fed_rules.specs.declared.records.SiteRecord.{SiteRecord}
use Rattle.fed_rules.specs.declared.sums.CommittedAttempt.{CommittedAttempt}
use Rattle.fed_rules.specs.declared.sums.OpenAttempt.{OpenAttempt}
use Rattle.fed_rules.specs.Found.{Found, Journal}
use Rattle.fed_rules.specs.Resumed.{names}

-- one of 32 attempts of one of 1,024 transactions
abbrev pub IsInRange : Tid → Type 0
IsInRange tid = (1 ≤ tid.tx.0) × (tid.tx.0 ≤ 1024) × (tid.attempt < 32)

-- the attempts that a record of the coordinator names lie in their range, as the format has them
abbrev pub CoordInRange : CoordRecord → Type 0
CoordInRange (Initiation tid participants) = IsInRange tid
CoordInRange (Commit tid tickets) = IsInRange tid
CoordInRange (Abort tid participants) = IsInRange tid
CoordInRange (End tid) = IsInRange tid
CoordInRange (Checkpoint sum) =
    Each (λ (attempt : OpenAttempt). IsInRange attempt.tid) sum.open_attempts × Each (λ (attempt : CommittedAttempt). IsInRange attempt.tid) sum.committed

-- so do the global attempts that a record of a site names
abbrev pub SiteInRange : SiteRecord → Type 0
SiteInRange entry = Each IsInRange (names entry)

-- so it is in every record that is found
pub record AreInRange (found : Found) : Type 0 where
  pub coordinator : (journal : Journal CoordRecord) → found.coordinator ≡ Some journal → Each CoordInRange journal.records
  pub sites : Each (λ (journal : Journal SiteRecord). Each SiteInRange journal.records) found.sites
