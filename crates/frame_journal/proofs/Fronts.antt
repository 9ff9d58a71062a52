-- What a front of whole frames says of every reading of the bytes.
use Rattle.std.proofs.Common.{◌≡◌, ℕ, Bool, true, false, List, Result, Err, refl}
use Rattle.journal_disk.specs.declared.errors.JournalErr.{JournalErr}
use Rattle.journal_disk.specs.declared.errors.JournalErr.TheVariants as Why
use Rattle.journal_disk.specs.Frames.{Frame, AreWhole, IsDamagedBehind, IsFront}
use Rattle.journal_disk.proofs.ForCallers.{no_other, one_place, one_reading}
use Rattle.frame_journal.specs.Records.{LoadFails, StopsAt}

pub same_whole : (bytes : List ℕ) (front found : List Frame) (is_damaged : Bool) → IsFront bytes front is_damaged → AreWhole bytes found → (front ≡ found) × (is_damaged ≡ false)
same_whole bytes front found true is whole = absurd (no_other bytes found front whole is)
same_whole bytes front found false is whole = (one_reading bytes front found is whole, refl)

pub same_damaged : (bytes : List ℕ) (front before : List Frame) (is_damaged : Bool) → IsFront bytes front is_damaged → IsDamagedBehind bytes before → (front ≡ before) × (is_damaged ≡ true)
same_damaged bytes front before true is damaged = (one_place bytes front before is damaged, refl)
same_damaged bytes front before false is damaged = absurd (no_other bytes front before is damaged)

pub not_both : {A : Type 0} (test : Bool) → test ≡ true → test ≡ false → A
not_both test holds fails = absurd cc

-- where a record before the damaged frame wasn't read
pub stops_before : (X : Type 0) {A : Type 0} (place : ℕ) (why : JournalErr) (read : Result A ℕ) → LoadFails why read → StopsAt {X = X} place (Err why) read
stops_before X place (Why.Malformed at) read fails = fails
stops_before X place (Why.Damaged at) read fails = absurd fails
stops_before X place Why.Failed read fails = tt
stops_before X place Why.Memory read fails = tt
