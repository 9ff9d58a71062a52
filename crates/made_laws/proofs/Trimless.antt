-- Calls of a disk that trim nothing, and lines that make only such.
use Rattle.std.proofs.Common.{◌≡◌, ℕ, zero, suc, Bool, true, false, cond, Option, Some, None, List, [], ◌∷◌, ◌++◌, take, refl, ap, ◌∙◌, arith, le-leb}
use Rattle.mdb_base.specs.Words.{Each, given}
use Rattle.mdb_base.proofs.ForCallers.{when_either}
use Rattle.fed_rules.specs.Disk as Disks
use Rattle.fed_rules.specs.Disk.{Call, Append, CutBack, Disk, Stops, Sync, TrimFront, after_call, after_calls, bytes_of, is_torn}
use Rattle.fed_rules.specs.Happenings.{Happening, Trip, stopped, tripped}

-- ---- disks

-- whether a call trims the front
unfoldable pub is_trim : {R : Type 0} → Call R → Bool
is_trim TrimFront = true
is_trim call = false

-- calls that trim nothing
unfoldable pub Trimless : {R : Type 0} → List (Call R) → Type 0
Trimless calls = Each (λ call. is_trim call ≡ false) calls

-- calls that trim nothing leave what was trimmed as it was
pub trimmed_stays : {R : Type 0} (size : R → ℕ) (disk : Disk R) (calls : List (Call R)) → Trimless calls → (after_calls size disk calls).trimmed ≡ disk.trimmed
unfolding Trimless is_trim
trimmed_stays size disk [] t = refl
trimmed_stays size disk (Append x ∷ calls) t = trimmed_stays size (after_call size disk (Append x)) calls t.1
trimmed_stays size disk (Sync ∷ calls) t = trimmed_stays size (after_call size disk Sync) calls t.1
trimmed_stays size disk (CutBack ∷ calls) t = trimmed_stays size (after_call size disk CutBack) calls t.1
trimmed_stays size disk (TrimFront ∷ calls) t = (let clash = t.0 in cc)
trimmed_stays size disk (Stops cut ∷ calls) t = trimmed_stays size (after_call size disk (Stops cut)) calls t.1

stand_all : {R : Type 0} (size : R → ℕ) (records : List R) → Disks.standing size 0 records ≡ records
stand_all size [] = refl
stand_all size (x ∷ records) =
    ap (λ b. cond b (x ∷ Disks.standing size 0 records) []) (le-leb 0 (bytes_of size records) (omega arith)) ∙ ap (λ rs. x ∷ rs) (stand_all size records)

-- where nothing was trimmed the journal is all the records
pub whole_journal : {R : Type 0} (size : R → ℕ) (disk : Disk R) → disk.trimmed ≡ 0 → Disks.journal size disk ≡ disk.records
whole_journal size disk e = ap (λ n. Disks.standing size n disk.records) e ∙ stand_all size disk.records

-- ---- lines

-- a line whose calls trim nothing
pub record TrimsNothing {E M R : Type 0} (x : Happening E M R) : Type 0 where
  pub calls : Trimless x.calls

pub by_given : {A B : Type 0} (P : B → Type 0) (o : Option A) (x : B) (f : A → B) → P x → ((v : A) → P (f v)) → P (given o f x)
unfolding given
by_given P None x f p q = p
by_given P (Some v) x f p q = q v

front : {R : Type 0} (n : ℕ) (calls : List (Call R)) (cut : ℕ) → Trimless calls → Trimless (take n calls ++ Stops cut ∷ [])
unfolding Trimless is_trim
front zero calls cut t = (refl, tt)
front (suc n) [] cut t = (refl, tt)
front (suc n) (c ∷ calls) cut t = (t.0, front n calls cut t.1)

-- nor does a trip trim anything
pub by_trip : {E M R : Type 0} (size : R → ℕ) (disk : Disk R) (o : Option Trip) (x : Happening E M R) → TrimsNothing x → TrimsNothing (tripped size disk o x)
unfolding tripped stopped
by_trip size disk None x t = t
by_trip size disk (Some trip) x t = when_either TrimsNothing _ _ _ (record { calls = front trip.calls x.calls trip.cut t.calls }) t
