-- What was read of disks, and why one wasn't.
use Rattle.std.proofs.Common.{◌≡◌, ◌<◌, ◌+◌, ℕ, zero, suc, Bool, IsTrue, Option, List, [], ◌∷◌, ◌++◌, Ok, Err, inl, inr, get_or, length, map, slice_set, refl, sym, ◌∙◌, subst, arith}
use Rattle.std.specs.List.{AllByRecursion}
use Rattle.mdb_base.specs.Counts.{HasCauseOf}
use Rattle.fed_rules.specs.declared.records.CoordRecord.{CoordRecord}
use Rattle.fed_rules.specs.declared.records.SiteRecord.{SiteRecord}
use Rattle.journal_disk.specs.declared.errors.JournalErr.{JournalErr}
use Rattle.journal_disk.specs.declared.errors.JournalErr.TheVariants as Why
use Rattle.journal_disk.specs.Disk.{Image, Seen}
use Rattle.journal_disk.specs.Frames.{Frame, AreWhole, IsDamagedBehind, frames_size}
use Rattle.frame_journal.specs.Journal.{IsKeptOn, Kept, records}
use Rattle.frame_journal.specs.Records.{AreRecordsOf, Loads, StopsAt, entries_at, entry_frame}
use Rattle.coord_journal.specs.Spelling as Coordinators
use Rattle.site_journal.specs.Spelling as Sites
use Rattle.found_disks.specs.declared.errors.ReopenErr.{ReopenErr}
use Rattle.found_disks.specs.declared.errors.ReopenErr.TheVariants as Err_is
use Rattle.found_disks.specs.Faults.{RoseAt, faults_of}
use Rattle.found_disks.specs.Reading.{AreReadFrom, AreSitesUnread, FailsAs, HasBytes, IsDamagedAt, IsFirstUnread, IsReadFrom, IsUnread, images_of, unread}
use Rattle.found_disks.proofs.Puts.{its_bytes, put_calm, put_rose}

-- ---- one disk

module _ {D : Type 0} (seen : D → Seen) (disks : List D) (n : ℕ) (old new : D) (within : n < length disks) (read : old ≡ get_or disks n old) where
  abbrev before : List Seen
  before = map seen disks

  abbrev after : List Seen
  after = map seen (slice_set disks n new)

  -- a journal of it is read
  pub read_here : {R : Type 0} (spelling : R → List ℕ) (is_record : R → Type 0) (tells : Bool) (kept : Kept R) → IsTrue tells → (seen new).image ≡ (seen old).image
      → IsKeptOn spelling tells (seen new) kept → AllByRecursion is_record (records kept) → HasBytes (images_of before) n (IsReadFrom spelling is_record kept)
  read_here {R} spelling is_record tells kept told same on each =
      its_bytes seen disks n old new within read (IsReadFrom spelling is_record kept)
      (record { whole = subst (λ (image : Image). AreRecordsOf (entry_frame spelling) image.bytes kept.entries) same (on.records told); are_records = each })

  -- or there is a reason
  pub unread_here : {R : Type 0} (reading : List ℕ → Option R) (why : JournalErr)
      → ((found : List Frame) → AreWhole (seen old).image.bytes found → Loads (λ (journal : Kept R). journal.entries) (Err why) (entries_at reading 0 found))
      → ((front : List Frame) → IsDamagedBehind (seen old).image.bytes front → StopsAt {X = Kept R} (frames_size front) (Err why) (entries_at reading 0 front))
      → IsUnread reading n (images_of before) (unread n why)
  unread_here reading (Why.Malformed at) exact damaged =
      (refl, its_bytes seen disks n old new within read (IsDamagedAt reading at) (record { malformed = λ found whole. exact found whole; damaged = λ front stop. inr (damaged front stop) }))
  unread_here reading (Why.Damaged at) exact damaged =
      (refl, its_bytes seen disks n old new within read (IsDamagedAt reading at) (record { malformed = λ found whole. absurd (exact found whole); damaged = λ front stop. inl (damaged front stop) }))
  unread_here reading Why.Failed exact damaged = refl
  unread_here reading Why.Memory exact damaged = tt

  -- its count tells
  pub told_read : {A : Type 0} (done : A) → HasCauseOf {T = A} {E = JournalErr} JournalErr.Failed (seen old).faults (seen new).faults (Ok done) → faults_of after ≡ faults_of before
  told_read done cause = put_calm seen disks n old new within read (cause.clean (λ failed. cc))

  pub told_unread : {A : Type 0} (why : JournalErr) → HasCauseOf {T = A} JournalErr.Failed (seen old).faults (seen new).faults (Err why) → FailsAs (unread n why) before after
  told_unread (Why.Malformed at) cause = put_calm seen disks n old new within read (cause.clean (λ failed. cc))
  told_unread (Why.Damaged at) cause = put_calm seen disks n old new within read (cause.clean (λ failed. cc))
  told_unread Why.Failed cause = put_rose seen disks n old new within read cause.later (cause.failed refl)
  told_unread Why.Memory cause = put_calm seen disks n old new within read (cause.clean (λ failed. cc))

-- ---- several disks

-- a call that failed behind others that moved no count
pub told_later : (why : ReopenErr) (old mid new : List Seen) → faults_of mid ≡ faults_of old → FailsAs why mid new → FailsAs why old new
told_later (Err_is.Damaged number at) old mid new same told = told ∙ same
told_later (Err_is.Foreign number) old mid new same told = told ∙ same
told_later (Err_is.Disk number) old mid new same told = subst (λ (counts : List ℕ). RoseAt number counts (faults_of new)) same told
told_later Err_is.Memory old mid new same told = told ∙ same

-- one more journal is read
pub one_more : (number last : ℕ) (images : List Image) (journals : List (Kept SiteRecord)) (journal : Kept SiteRecord) → last ≡ number + length journals
    → AreReadFrom number images journals → HasBytes images last (IsReadFrom Sites.spelling Sites.IsRecord journal) → AreReadFrom number images (journals ++ journal ∷ [])
one_more number last images [] journal is are more = (subst (λ k. HasBytes images k (IsReadFrom Sites.spelling Sites.IsRecord journal)) (omega (arith, is)) more, tt)
one_more number last images (first ∷ others) journal is are more = (are.0, one_more (number + 1) last images others journal (omega (arith, is)) are.1 more)

-- or it isn't
pub site_unread : (images : List Image) (journals : List (Kept SiteRecord)) (number : ℕ) (why : ReopenErr) → AreReadFrom 1 images journals → number ≡ length journals + 1
    → IsUnread Sites.reading number images why → AreSitesUnread images why
site_unread images journals number (Err_is.Damaged disk at) are is told =
    record { before = journals; number_is = told.0 ∙ is; read = are; damaged = subst (λ k. HasBytes images k (IsDamagedAt Sites.reading at)) (sym told.0) told.1 }
site_unread images journals number (Err_is.Foreign disk) are is told = absurd told
site_unread images journals number (Err_is.Disk disk) are is told = omega (arith, is, told)
site_unread images journals number Err_is.Memory are is told = tt

-- ---- all disks

pub first_unread : (images : List Image) (why : ReopenErr) → IsUnread Coordinators.reading 0 images why → IsFirstUnread images why
first_unread images (Err_is.Damaged zero at) told = told.1
first_unread images (Err_is.Damaged (suc n) at) told = absurd (omega (arith, told.0))
first_unread images (Err_is.Foreign disk) told = absurd told
first_unread images (Err_is.Disk disk) told = tt
first_unread images Err_is.Memory told = tt

pub other_unread : (images : List Image) (coordinator : Kept CoordRecord) (why : ReopenErr) → HasBytes images 0 (IsReadFrom Coordinators.spelling Coordinators.IsRecord coordinator)
    → AreSitesUnread images why → IsFirstUnread images why
other_unread images coordinator (Err_is.Damaged zero at) own told = let is = told.number_is in absurd (omega (arith, is))
other_unread images coordinator (Err_is.Damaged (suc n) at) own told = ((coordinator, own), told)
other_unread images coordinator (Err_is.Foreign disk) own told = absurd told
other_unread images coordinator (Err_is.Disk disk) own told = tt
other_unread images coordinator Err_is.Memory own told = tt
