-- One more frame that is read behind those that were.
use Rattle.std.proofs.Common.{◌≡◌, ℕ, zero, suc, ◌+◌, ◌≤◌, List, [], ◌∷◌, ◌++◌, take, drop, map, Option, Some, None, Result, Ok, Err, refl, sym, ap, ◌∙◌, arith, append_assoc, add-one}
use Rattle.std.specs.List.{slice_get, AllByRecursion}
use Rattle.journal_disk.specs.Frames.{Frame, payload_of, version_of, frame_size, frames_size}
use Rattle.journal_disk.specs.declared.frames.Version.{Version}
use Rattle.frame_journal.specs.Records.{Entry, values, entry_frame, with_first, with_front, entries_at}
use Rattle.frame_journal.proofs.Entries.{payload_in_frame, version_in_frame}

-- what stands from a place on, and up to it
pub drop_got : {A : Type 0} (xs : List A) (i : ℕ) (x : A) → slice_get xs i ≡ Some x → drop i xs ≡ x ∷ drop (i + 1) xs
drop_got [] i x e = absurd cc
drop_got (y ∷ xs) zero x e = let same : y ≡ x = cc in rw same refl
drop_got (y ∷ xs) (suc i) x e = rw add-one (rw add-one at (drop_got xs i x e))

pub take_got : {A : Type 0} (xs : List A) (i : ℕ) (x : A) → slice_get xs i ≡ Some x → take (i + 1) xs ≡ take i xs ++ x ∷ []
take_got [] i x e = absurd cc
take_got (y ∷ xs) zero x e = let same : y ≡ x = cc in rw same refl
take_got (y ∷ xs) (suc i) x e = rw add-one (ap (λ (l : List _). y ∷ l) (rw add-one at (take_got xs i x e)))

-- the frames up to a place are no more than all
pub frames_size_take : (ps : List Frame) (i : ℕ) → frames_size (take i ps) ≤ frames_size ps
frames_size_take [] zero = omega arith
frames_size_take [] (suc i) = omega arith
frames_size_take (p ∷ ps) zero = omega arith
frames_size_take (p ∷ ps) (suc i) = omega (arith, frames_size_take ps i)

with_front_first : {R : Type 0} (front : List (Entry R)) (entry : Entry R) (read : Result (List (Entry R)) ℕ) → with_front front (with_first entry read) ≡ with_front (front ++ entry ∷ []) read
with_front_first front entry (Ok entries) = ap (λ (l : List _). Ok l) (sym (append_assoc front (entry ∷ []) entries))
with_front_first front entry (Err place) = refl

module _ {R : Type 0} (reading : List ℕ → Option R) where
  pub reading_fails : (front : List (Entry R)) (place i : ℕ) (fs : List Frame) (f : Frame) (payload : List ℕ) (total : Result (List (Entry R)) ℕ) → slice_get fs i ≡ Some f → payload_of f ≡ payload → reading payload ≡ None
      → with_front front (entries_at reading place (drop i fs)) ≡ total → total ≡ Err place
  reading_fails front place i fs f payload total got is none so_far =
      let here = drop_got fs i f got in
      let one : with_front front (entries_at reading place (drop i fs)) ≡ Err place = rw (here, is, none) refl in
      sym so_far ∙ one

  pub reading_goes_on : (front : List (Entry R)) (place i : ℕ) (fs : List Frame) (f : Frame) (payload : List ℕ) (version : Version) (value : R) (total : Result (List (Entry R)) ℕ) → slice_get fs i ≡ Some f
      → payload_of f ≡ payload → version_of f ≡ version → reading payload ≡ Some value
      → with_front front (entries_at reading place (drop i fs)) ≡ total
      → with_front (front ++ record { version = version; value = value } ∷ []) (entries_at reading (place + frame_size f) (drop (i + 1) fs)) ≡ total
  reading_goes_on front place i fs f payload version value total got is as_told some so_far =
      let here = drop_got fs i f got in
      let entry : Entry R = record { version = version; value = value } in
      let rest = entries_at reading (place + frame_size f) (drop (i + 1) fs) in
      let one : with_front front (entries_at reading place (drop i fs)) ≡ with_front (front ++ entry ∷ []) rest = rw (here, is, as_told, some) (with_front_first front entry rest) in
      sym one ∙ so_far

-- records that were written are read again
pub records_again : {R : Type 0} (spelling : R → List ℕ) (reading : List ℕ → Option R) (is_record : R → Type 0) → ((entry : R) → is_record entry → reading (spelling entry) ≡ Some entry)
    → (place : ℕ) (entries : List (Entry R)) → AllByRecursion is_record (values entries) → entries_at reading place (map (entry_frame spelling) entries) ≡ Ok entries
records_again spelling reading is_record again place [] all = refl
records_again spelling reading is_record again place (entry ∷ entries) all =
    let here = again entry.value all.0 in
    let payload = payload_in_frame entry.version (spelling entry.value) in
    let version = version_in_frame entry.version (spelling entry.value) in
    let others = records_again spelling reading is_record again (place + frame_size (entry_frame spelling entry)) entries all.1 in
    rw (payload, version, here, others) refl
