-- The records whose frames end within the first bytes.
use Rattle.std.proofs.Common.{◌≡◌, ℕ, ◌+◌, ◌-◌, ◌<◌, ◌≤◌, true, false, leb, List, [], ◌∷◌, ◌++◌, length, take, map, refl, sym, ap, ◌∙◌, arith, inl, inr}
use Rattle.std.specs.List.{AllByRecursion}
use Rattle.std.proofs.lemmas.Bool.{cases_lt, le-leb, lt-leb}
use Rattle.std.proofs.lemmas.List.{map_push, length-take}
use Rattle.journal_disk.specs.Frames.{Frame, IsFrame, IsRight, AreRight, frame_size, whole_within}
use Rattle.frame_journal.specs.Records.{Entry, values, spelled_size, records_within}
use Rattle.frame_journal.proofs.Sizes.{all_last, spelled_size_push}

module _ {R : Type 0} (shape : R → Frame) where
  -- all, where there are enough bytes
  pub within_all : (n : ℕ) (records : List R) → spelled_size shape records ≤ n → records_within shape n records ≡ records
  within_all n [] enough = refl
  within_all n (entry ∷ records) enough =
      let fits : leb (frame_size (shape entry)) n ≡ true = le-leb _ _ (omega arith) in
      rw fits (ap (λ (l : List R). entry ∷ l) (within_all (n - frame_size (shape entry)) records (omega arith)))

  -- the last one goes where there are too few
  pub within_last : (n : ℕ) (records : List R) (last : R) → n < spelled_size shape (records ++ last ∷ []) → records_within shape n (records ++ last ∷ []) ≡ records_within shape n records
  within_last n [] last few =
      let short : leb (frame_size (shape last)) n ≡ false = lt-leb _ _ (omega arith) in
      rw short refl
  within_last n (entry ∷ records) last few =
      elim (cases_lt n (frame_size (shape entry))) [
        | inl short ↦
            let test : leb (frame_size (shape entry)) n ≡ false = lt-leb _ _ short in
            rw test refl
        | inr fits ↦
            let test : leb (frame_size (shape entry)) n ≡ true = le-leb _ _ fits in
            rw test (ap (λ (l : List R). entry ∷ l) (within_last (n - frame_size (shape entry)) records last (omega arith)))
      ]

  -- what holds of all holds of those
  pub all_within : (P : R → Type 0) (n : ℕ) (records : List R) → AllByRecursion P records → AllByRecursion P (records_within shape n records)
  all_within P n [] all = tt
  all_within P n (entry ∷ records) all =
      elim (cases_lt n (frame_size (shape entry))) [
        | inl short ↦
            let test : leb (frame_size (shape entry)) n ≡ false = lt-leb _ _ short in
            rw test tt
        | inr fits ↦
            let test : leb (frame_size (shape entry)) n ≡ true = le-leb _ _ fits in
            rw test (all.0, all_within P (n - frame_size (shape entry)) records all.1)
      ]

  -- their frames are those that end there
  pub map-within : (n : ℕ) (records : List R) → map shape (records_within shape n records) ≡ whole_within n (map shape records)
  map-within n [] = refl
  map-within n (entry ∷ records) =
      elim (cases_lt n (frame_size (shape entry))) [
        | inl short ↦
            let test : leb (frame_size (shape entry)) n ≡ false = lt-leb _ _ short in
            rw test refl
        | inr fits ↦
            let test : leb (frame_size (shape entry)) n ≡ true = le-leb _ _ fits in
            rw test (ap (λ (l : List Frame). shape entry ∷ l) (map-within (n - frame_size (shape entry)) records))
      ]

  -- they are the first ones
  pub within_front : (n : ℕ) (records : List R) → records_within shape n records ≡ take (length (records_within shape n records)) records
  within_front n [] = refl
  within_front n (entry ∷ records) =
      elim (cases_lt n (frame_size (shape entry))) [
        | inl short ↦
            let test : leb (frame_size (shape entry)) n ≡ false = lt-leb _ _ short in
            rw test refl
        | inr fits ↦
            let test : leb (frame_size (shape entry)) n ≡ true = le-leb _ _ fits in
            rw test (ap (λ (l : List R). entry ∷ l) (within_front (n - frame_size (shape entry)) records))
      ]

  -- their frames are right, if all are
  pub right_within : (n : ℕ) (records : List R) → AreRight (map shape records) → AreRight (map shape (records_within shape n records))
  right_within n [] right = right
  right_within n (entry ∷ records) right =
      elim (cases_lt n (frame_size (shape entry))) [
        | inl short ↦
            let test : leb (frame_size (shape entry)) n ≡ false = lt-leb _ _ short in
            rw test (record { are_frames = tt; are_right = tt })
        | inr fits ↦
            let test : leb (frame_size (shape entry)) n ≡ true = le-leb _ _ fits in
            let others = right_within (n - frame_size (shape entry)) records (record { are_frames = right.are_frames.1; are_right = right.are_right.1 }) in
            rw test (record { are_frames = (right.are_frames.0, others.are_frames); are_right = (right.are_right.0, others.are_right) })
      ]

  -- they are no more than all
  pub within_fewer : (n : ℕ) (records : List R) → length (records_within shape n records) ≤ length records
  within_fewer n records = omega (arith, ap length (within_front n records), length-take (length (records_within shape n records)) records)

  -- their frames fit in the bytes
  pub within_fits : (n : ℕ) (records : List R) → spelled_size shape (records_within shape n records) ≤ n
  within_fits n [] = omega arith
  within_fits n (entry ∷ records) =
      elim (cases_lt n (frame_size (shape entry))) [
        | inl short ↦
            let test : leb (frame_size (shape entry)) n ≡ false = lt-leb _ _ short in
            rw test (omega arith)
        | inr fits ↦
            let test : leb (frame_size (shape entry)) n ≡ true = le-leb _ _ fits in
            rw test (omega (arith, within_fits (n - frame_size (shape entry)) records))
      ]

-- what is left where the last record goes
pub record LastGoes {R : Type 0} (shape : R → Frame) (left whole : ℕ) (first before : List R) (last : R) : Type 0 where
  pub same : records_within shape left before ≡ records_within shape left first
  pub size : whole ≡ spelled_size shape before + frame_size (shape last)
  pub right : AreRight (map shape before)
  pub fits : IsFrame (shape last)

pub last_goes : {R : Type 0} (shape : R → Frame) (left whole : ℕ) (first old before : List R) (last : R) → old ≡ before ++ last ∷ [] → left < whole
    → records_within shape left old ≡ records_within shape left first → whole ≡ spelled_size shape old → AreRight (map shape old) → LastGoes shape left whole first before last
last_goes shape left whole first old before last popped few same size right =
    let sized : whole ≡ spelled_size shape (before ++ last ∷ []) = size ∙ ap (spelled_size shape) popped in
    let those = rw map_push at (rw popped at right) in
    let fits = all_last IsFrame (map shape before) (shape last) those.are_frames in
    let good = all_last IsRight (map shape before) (shape last) those.are_right in
    record {
      same = sym (within_last shape left before last (omega arith)) ∙ ap (records_within shape left) (sym popped) ∙ same;
      size = sized ∙ spelled_size_push shape before last;
      right = record { are_frames = fits.0; are_right = good.0 };
      fits = fits.1;
    }

-- what holds of the records holds of those
pub values_within : {R : Type 0} (P : R → Type 0) (shape : Entry R → Frame) (n : ℕ) (entries : List (Entry R)) → AllByRecursion P (values entries) → AllByRecursion P (values (records_within shape n entries))
values_within P shape n [] all = tt
values_within P shape n (entry ∷ entries) all =
    elim (cases_lt n (frame_size (shape entry))) [
      | inl short ↦
          let test : leb (frame_size (shape entry)) n ≡ false = lt-leb _ _ short in
          rw test tt
      | inr fits ↦
          let test : leb (frame_size (shape entry)) n ≡ true = le-leb _ _ fits in
          rw test (all.0, values_within P shape (n - frame_size (shape entry)) entries all.1)
    ]
