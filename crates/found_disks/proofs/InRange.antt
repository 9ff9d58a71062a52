-- What is read from disks names attempts in their range, since each record of it is one of the format.
use Rattle.std.proofs.Common.{ℕ, ◌+◌, Option, Some, None, List, [], ◌∷◌, ◌++◌, map, subst}
use Rattle.std.specs.List.{AllByRecursion}
use Rattle.mdb_base.specs.declared.names.Tid.{Tid}
use Rattle.mdb_base.specs.Words.{Each, with_some}
use Rattle.mdb_base.proofs.ForCallers.{append_each, some_parts}
use Rattle.order_laws.proofs.ForCallers.{each_reverse}
use Rattle.fed_rules.specs.declared.records.CoordRecord.{CoordRecord}
use Rattle.fed_rules.specs.declared.records.CoordRecord.TheVariants as Coord_rec
use Rattle.fed_rules.specs.declared.records.SiteRecord.{SiteRecord}
use Rattle.fed_rules.specs.declared.records.SiteRecord.TheVariants as Rec
use Rattle.fed_rules.specs.declared.sums.CommittedAttempt.{CommittedAttempt}
use Rattle.fed_rules.specs.declared.sums.DoubtfulSum.{DoubtfulSum}
use Rattle.fed_rules.specs.declared.sums.OpenAttempt.{OpenAttempt}
use Rattle.fed_rules.specs.Found.{Journal}
use Rattle.field_bytes.specs.Fields.{IsTid}
use Rattle.record_fields.specs.Sums.{MaybeFits, a_committed_attempt, a_doubtful, an_open_attempt}
use Rattle.journal_disk.specs.Disk.{Image}
use Rattle.frame_journal.specs.Journal.{Kept, records}
use Rattle.coord_journal.specs.Spelling as Coordinators
use Rattle.site_journal.specs.Spelling as Sites
use Rattle.found_laws.specs.Ranges.{AreInRange, CoordInRange, IsInRange, SiteInRange}
use Rattle.found_disks.specs.declared.reading.Journals.{Journals}
use Rattle.found_disks.specs.Finding.{found_in, journal_on, sites_from, unless_empty}
use Rattle.found_disks.specs.Reading.{AreRead, AreReadFrom}

-- ---- one record

tid_range : (tid : Tid) → IsTid tid → IsInRange tid
tid_range tid is = (is.least, is.greatest, is.attempts)

open_range : (attempts : List OpenAttempt) → AllByRecursion an_open_attempt.Fits attempts → Each (λ (attempt : OpenAttempt). IsInRange attempt.tid) attempts
open_range [] fits = tt
open_range (attempt ∷ attempts) fits = (tid_range attempt.tid fits.0.0, open_range attempts fits.1)

committed_range : (attempts : List CommittedAttempt) → AllByRecursion a_committed_attempt.Fits attempts
    → Each (λ (attempt : CommittedAttempt). IsInRange attempt.tid) attempts
committed_range [] fits = tt
committed_range (attempt ∷ attempts) fits = (tid_range attempt.tid fits.0.0, committed_range attempts fits.1)

coord_range : (entry : CoordRecord) → Coordinators.IsRecord entry → CoordInRange entry
coord_range (Coord_rec.Initiation tid participants) fits = tid_range tid fits.0
coord_range (Coord_rec.Commit tid tickets) fits = tid_range tid fits.0
coord_range (Coord_rec.Abort tid participants) fits = tid_range tid fits.0
coord_range (Coord_rec.End tid) fits = tid_range tid fits
coord_range (Coord_rec.Checkpoint sum) fits = (open_range sum.open_attempts fits.0.2, committed_range sum.committed fits.1.2)

doubtful_range : (helds : List DoubtfulSum) → AllByRecursion a_doubtful.Fits helds → Each IsInRange (map (λ (held : DoubtfulSum). held.tid) helds)
doubtful_range [] fits = tt
doubtful_range (held ∷ helds) fits = (tid_range held.tid fits.0.0, doubtful_range helds fits.1)

owner_range : (owner : Option Tid) → MaybeFits IsTid owner → Each IsInRange (with_some owner [])
owner_range None fits = tt
owner_range (Some tid) fits = (tid_range tid fits, tt)

site_range : (entry : SiteRecord) → Sites.IsRecord entry → SiteInRange entry
site_range (Rec.Setup site engine protocol items) fits = tt
site_range (Rec.Start epoch) fits = tt
site_range (Rec.Prepared tid epoch number ticket writes) fits = (tid_range tid fits.0, tt)
site_range (Rec.Ended tid decision) fits = (tid_range tid fits.0, tt)
site_range (Rec.Local tid number writes) fits = tt
site_range (Rec.Checkpoint sum) fits =
    append_each IsInRange (map (λ (held : DoubtfulSum). held.tid) sum.doubtful) (with_some sum.owner []) (doubtful_range sum.doubtful fits.1.1.1.1.1.1.1.1.1.2)
    (owner_range sum.owner fits.1.1.1.1.1.1.0)

-- ---- all that is found

module _ {R : Type 0} (P Q : R → Type 0) (one : (entry : R) → P entry → Q entry) where
  all_range : (entries : List R) → AllByRecursion P entries → Each Q entries
  all_range [] fits = tt
  all_range (entry ∷ entries) fits = (one entry fits.0, all_range entries fits.1)

module _ (images : List Image) where
  listed_range : (entries : List SiteRecord) (journal : Journal SiteRecord) → Each SiteInRange journal.records
      → (more : List (Journal SiteRecord)) → Each (λ (other : Journal SiteRecord). Each SiteInRange other.records) more
      → Each (λ (other : Journal SiteRecord). Each SiteInRange other.records) (unless_empty entries journal ++ more)
  listed_range [] journal own more rest = rest
  listed_range (first ∷ newer) journal own more rest = (own, rest)

  sites_range : (number : ℕ) (kept : List (Kept SiteRecord)) → Each (λ (journal : Kept SiteRecord). AllByRecursion Sites.IsRecord (records journal)) kept
      → Each (λ (journal : Journal SiteRecord). Each SiteInRange journal.records) (sites_from number images kept)
  sites_range number [] fits = tt
  sites_range number (journal ∷ more) fits =
      listed_range (records journal) (journal_on Sites.spelling images number journal)
      (each_reverse SiteInRange (records journal) (all_range Sites.IsRecord SiteInRange site_range (records journal) fits.0)) (sites_from (number + 1) images more)
      (sites_range (number + 1) more fits.1)

  records_fit : (number : ℕ) (kept : List (Kept SiteRecord)) → AreReadFrom number images kept → Each (λ (journal : Kept SiteRecord). AllByRecursion Sites.IsRecord (records journal)) kept
  records_fit number [] read = tt
  records_fit number (journal ∷ more) read = (read.0.holds.are_records, records_fit (number + 1) more read.1)

  -- the attempts that the nine journals name
  pub found_range : (journals : Journals) → AreRead images journals → AreInRange (found_in images journals)
  found_range journals read = record {
    coordinator = λ journal e. subst (λ (j : Journal CoordRecord). Each CoordInRange j.records) (some_parts e)
        (each_reverse CoordInRange (records journals.coordinator)
        (all_range Coordinators.IsRecord CoordInRange coord_range (records journals.coordinator) read.coordinator.holds.are_records));
    sites = sites_range 1 journals.sites.items (records_fit 1 journals.sites.items read.sites);
  }
