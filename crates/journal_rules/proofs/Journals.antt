-- A journal beside the disk of the rules: it has the records that stand there, and is torn where that disk is.
use Rattle.std.proofs.Common.{◌≡◌, ℕ, ◌+◌, Bool, true, false, cond, leb, ltb, IsTrue, Option, Some, Result, Ok, Err, List, [], ◌∷◌, ◌++◌, length, map, refl, sym, ap, ap₂, subst, ◌∙◌, arith}
use Rattle.std.specs.Prelude.{reverse}
use Rattle.std.specs.List.{AllByRecursion}
use Rattle.std.proofs.lemmas.List.{length-append, reverse-append}
use Rattle.mdb_base.proofs.ForCallers.{all_push}
use Rattle.fed_rules.specs.Disk.{Disk, bytes_of, is_torn, journal as journal_of, standing, whole}
use Rattle.journal_disk.specs.Disk.{Seen}
use Rattle.journal_disk.specs.Frames.{AreWhole, frames_size}
use Rattle.journal_disk.proofs.ForCallers.{one_reading}
use Rattle.frame_journal.specs.Journal.{IsKeptOn, Kept}
use Rattle.frame_journal.specs.Records.{as_written, before_last, entry_frame, spelled_size, values}
use Rattle.frame_journal.proofs.ForCallers.{lt_shift, one_list}
use Rattle.journal_rules.specs.Stands.{CountsFrames, StandsFor, record_frame}
use Rattle.journal_rules.proofs.Keeps.{journal_is, journal_stands, sizes_agree}

module _ {R : Type 0} (spelling : R → List ℕ) where
  -- the frames of records as they are written
  pub written_frames : (records : List R) → map (entry_frame spelling) (map as_written records) ≡ map (record_frame spelling) records
  written_frames [] = refl
  written_frames (entry ∷ records) = ap (λ l. record_frame spelling entry ∷ l) (written_frames records)

pub written_values : {R : Type 0} (records : List R) → values (map as_written records) ≡ records
written_values [] = refl
written_values {R} (entry ∷ records) = ap (λ (l : List R). entry ∷ l) (written_values records)

-- what holds of all holds of those that stand, and in the other order
pub all_standing : {R : Type 0} (P : R → Type 0) (size : R → ℕ) (place : ℕ) (records : List R) → AllByRecursion P records → AllByRecursion P (standing size place records)
all_standing P size place [] all = tt
all_standing {R} P size place (entry ∷ records) all = by_test (leb place (bytes_of size records)) (all_standing P size place records all.1)
  where
    by_test : (b : Bool) → AllByRecursion P (standing size place records) → AllByRecursion P (cond b (entry ∷ standing size place records) [])
    by_test true rest = (all.0, rest)
    by_test false rest = tt

pub all_reverse : {R : Type 0} (P : R → Type 0) (records : List R) → AllByRecursion P records → AllByRecursion P (reverse records)
all_reverse P [] all = tt
all_reverse P (entry ∷ records) all =
    let turned : reverse (entry ∷ records) ≡ reverse records ++ entry ∷ [] = reverse-append (entry ∷ []) records in
    rw turned (all_push P (reverse records) entry (all_reverse P records all.1) all.0)

pub bytes_of_append : {R : Type 0} (size : R → ℕ) (newer older : List R) → bytes_of size (newer ++ older) ≡ bytes_of size newer + bytes_of size older
bytes_of_append size [] older = omega arith
bytes_of_append size (entry ∷ newer) older = omega (arith, bytes_of_append size newer older)

-- what a stop keeps is among them
pub all_whole : {R : Type 0} (P : R → Type 0) (size : R → ℕ) (n : ℕ) (records : List R) → AllByRecursion P records → AllByRecursion P (whole size n records)
all_whole P size n [] all = tt
all_whole {R} P size n (entry ∷ records) all = by_test (leb (bytes_of size (entry ∷ records)) n) (all_whole P size n records all.1)
  where
    by_test : (b : Bool) → AllByRecursion P (whole size n records) → AllByRecursion P (cond b (entry ∷ records) (whole size n records))
    by_test true rest = all
    by_test false rest = rest

pub before_last_push : {A : Type 0} (xs : List A) (x : A) → before_last (xs ++ x ∷ []) ≡ xs
before_last_push [] x = refl
before_last_push (a ∷ []) x = refl
before_last_push {A} (a ∷ b ∷ xs) x = ap (λ (l : List A). a ∷ l) (before_last_push (b ∷ xs) x)

module _ {R : Type 0} (spelling : R → List ℕ) (size : R → ℕ) (counts : CountsFrames spelling size) where
  -- the bytes of the frames that stand, behind what was trimmed
  pub whole_follows : (tells : Bool) (seen : Seen) (journal : Kept R) (disk : Disk R) → IsTrue tells → IsKeptOn spelling tells seen journal → StandsFor spelling size seen.image disk
      → bytes_of size disk.records ≡ disk.trimmed + spelled_size (entry_frame spelling) journal.entries
  whole_follows tells seen journal disk told kept stands =
      let those = reverse (journal_of size disk) in
      let same : spelled_size (entry_frame spelling) journal.entries ≡ spelled_size (record_frame spelling) those =
      ap frames_size (one_reading seen.image.bytes (map (entry_frame spelling) journal.entries) (map (record_frame spelling) those) (kept.records told) (journal_stands spelling size counts seen.image disk stands)) in
      let newer : spelled_size (record_frame spelling) those ≡ bytes_of size stands.newer = sizes_agree spelling size counts (journal_of size disk) ∙ ap (bytes_of size) (journal_is spelling size counts seen.image disk stands) in
      let parts : bytes_of size disk.records ≡ bytes_of size stands.newer + bytes_of size stands.older = ap (bytes_of size) stands.parts ∙ bytes_of_append size stands.newer stands.older in
      let border = stands.border in
      omega (arith, same, newer, parts, border)

  pub torn_follows : (tells : Bool) (seen : Seen) (journal : Kept R) (disk : Disk R) → IsTrue tells → length seen.image.bytes ≡ seen.size → IsKeptOn spelling tells seen journal → StandsFor spelling size seen.image disk
      → journal.is_torn ≡ is_torn size disk
  torn_follows tells seen journal disk told told_size kept stands =
      let t = stands.trimmed in
      let whole = whole_follows tells seen journal disk told kept stands in
      let all : length (stands.front ++ seen.image.bytes) ≡ disk.length = stands.all.bytes in
      let long : disk.length ≡ disk.trimmed + seen.size = omega (arith, all, length-append stands.front seen.image.bytes, t, told_size) in
      kept.is_torn ∙ sym (ap₂ (λ (a b : ℕ). ltb a b) whole long ∙ lt_shift disk.trimmed (spelled_size (entry_frame spelling) journal.entries) seen.size)

module _ {R : Type 0} (spelling : R → List ℕ) (reading : List ℕ → Option R) (is_record : R → Type 0) (size : R → ℕ) (counts : CountsFrames spelling size) (again : (entry : R) → is_record entry → reading (spelling entry) ≡ Some entry) where
  pub entries_follow : (tells : Bool) (seen : Seen) (journal : Kept R) (disk : Disk R) → IsTrue tells → IsKeptOn spelling tells seen journal → StandsFor spelling size seen.image disk
      → AllByRecursion is_record (values journal.entries) → AllByRecursion is_record disk.records → journal.entries ≡ map as_written (reverse (journal_of size disk))
  entries_follow tells seen journal disk told kept stands all_entries all_records =
      let those = reverse (journal_of size disk) in
      let all : AllByRecursion is_record those = all_reverse is_record (journal_of size disk) (all_standing is_record size disk.trimmed disk.records all_records) in
      let whole = subst (AreWhole seen.image.bytes) (sym (written_frames spelling those)) (journal_stands spelling size counts seen.image disk stands) in
      one_list spelling reading is_record again seen.image.bytes journal.entries (map as_written those) all_entries (subst (AllByRecursion is_record) (sym (written_values those)) all) (kept.records told) whole

pub ok_is_no_err : {A : Type 0} (found : A) (place : ℕ) → ◌≡◌ {A = Result A ℕ} (Ok found) (Err place) → ⊥
ok_is_no_err found place e = cc
