-- The counts of faults where one disk was put anew, and over one call after another.
use Rattle.std.proofs.Common.{◌≡◌, ◌≤◌, ℕ, zero, suc, Some, List, [], ◌∷◌, Result, Ok, Err, slice_get, slice_set, sym, ◌∙◌, ap, subst}
use Rattle.mdb_base.specs.Counts.{HasCauseOf, HasRisen}
use Rattle.journal_disk.specs.Disk.{Seen}
use Rattle.actor_store.specs.declared.errors.StepErr.{StepErr}
use Rattle.actor_store.specs.declared.errors.StepErr.TheVariants as Step_err
use Rattle.fed_world.specs.declared.errors.WorldErr.{WorldErr}
use Rattle.fed_world.specs.declared.errors.WorldErr.TheVariants as Err_is
use Rattle.fed_world.specs.Faults.{CountsTell, FailedAs, RoseAt, faults_of}
use Rattle.fed_world.specs.Worlds.{error_of}
use Rattle.fed_world.proofs.Disks.{seen_at, seen_put}

-- an item that is put where it stands
set_same : {A : Type 0} (xs : List A) (n : ℕ) (x : A) → slice_get xs n ≡ Some x → slice_set xs n x ≡ xs
set_same [] n x e = cc
set_same {A} (y ∷ xs) zero x e = let same : x ≡ y = cc in ap (λ (z : A). z ∷ xs) same
set_same {A} (y ∷ xs) (suc n) x e = ap (λ (zs : List A). y ∷ zs) (set_same xs n x e)

module _ (disks now : List Seen) (n : ℕ) (old new : Seen) (at : slice_get disks n ≡ Some old) (is : now ≡ slice_set disks n new) where
  counts_are : faults_of now ≡ slice_set (faults_of disks) n new.faults
  counts_are = ap faults_of is ∙ seen_put (λ (disk : Seen). disk.faults) disks n new

  count_was : slice_get (faults_of disks) n ≡ Some old.faults
  count_was = seen_at (λ (disk : Seen). disk.faults) disks n old at

  -- no count moves, where that of the disk doesn't
  pub put_calm : new.faults ≡ old.faults → faults_of now ≡ faults_of disks
  put_calm same = counts_are ∙ (ap (λ (count : ℕ). slice_set (faults_of disks) n count) same ∙ set_same (faults_of disks) n old.faults count_was)

  -- and where that of the disk rose no other one moves
  pub put_rose : old.faults ≤ new.faults → HasRisen old.faults new.faults → RoseAt n (faults_of disks) (faults_of now)
  put_rose later rose = record { before = old.faults; now = new.faults; own = count_was; later = later; rose = rose; others = counts_are }

  -- what they tell of a line
  pub line_told : {T : Type 0} (outcome : Result T StepErr) (done : T) → outcome ≡ Ok done → HasCauseOf Step_err.Disk old.faults new.faults outcome → faults_of now ≡ faults_of disks
  line_told outcome done e cause = put_calm (cause.clean (λ failed. (let never = sym e ∙ failed in cc)))

  -- and of why there is none
  pub failure_told : {T : Type 0} (outcome : Result T StepErr) (why : StepErr) → outcome ≡ Err why → HasCauseOf Step_err.Disk old.faults new.faults outcome → FailedAs (error_of n why) disks now
  failure_told outcome Step_err.Memory e cause = put_calm (cause.clean (λ failed. (let never = sym e ∙ failed in cc)))
  failure_told outcome Step_err.Disk e cause = put_rose cause.later (cause.failed e)

-- a call that failed behind others that moved no count
pub failed_later : (why : WorldErr) (old mid new : List Seen) → faults_of mid ≡ faults_of old → FailedAs why mid new → FailedAs why old new
failed_later Err_is.Memory old mid new same told = told ∙ same
failed_later (Err_is.Disk n) old mid new same told = subst (λ (counts : List ℕ). RoseAt n counts (faults_of new)) same told

-- and any call behind such ones
pub told_later : {T : Type 0} (outcome : Result T WorldErr) (old mid new : List Seen) → faults_of mid ≡ faults_of old → CountsTell outcome mid new → CountsTell outcome old new
told_later (Ok done) old mid new same told = told ∙ same
told_later (Err why) old mid new same told = failed_later why old mid new same told
