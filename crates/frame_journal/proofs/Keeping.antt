-- What stays true of a disk and its records through each call.
use Rattle.std.proofs.Common.{◌≡◌, ℕ, ◌+◌, ◌≤◌, ◌⊎◌, Bool, false, ltb, List, [], ◌∷◌, ◌++◌, length, take, drop, map, Result, Ok, Err, OnOk, OnErr, IsTrue, refl, sym, ap, ◌∙◌, arith, append_assoc, inl, inr}
use Rattle.std.proofs.lemmas.Bool.{ltb-false}
use Rattle.std.proofs.lemmas.List.{append-nil, length-append, length-take-le, take_all, take_at, drop_at, nil_from_length, map_push}
use Rattle.journal_disk.specs.Disk.{Image, Seen, appended, cut_to, trimmed_to, stopped, kept_bytes, synced_bytes, AppendsSome, CutsOrNot}
use Rattle.journal_disk.specs.Frames.{Frame, Old, IsFrame, IsRight, AreRight, frame_bytes, frame_size, frames, frames_size, IsPartOfFrame, AreWhole, whole_within}
use Rattle.journal_disk.proofs.ForCallers.{cut_frame, right_push, whole_left}
use Rattle.frame_journal.proofs.Sizes.{right_last, split_last, spelled_append, spelled_push}
use Rattle.frame_journal.specs.Journal.{IsKeptOn, new_journal}
use Rattle.frame_journal.proofs.Within.{map-within}
use Rattle.frame_journal.specs.Records.{spelled, spelled_size, last_alone, before_last, AreRecordsOf, records_within}

-- no byte is a proper prefix of a frame
pub none_is_part : IsPartOfFrame []
none_is_part = record { whole = Old (0 ∷ []); is_frame = (omega arith, omega arith); lacking = frame_bytes (Old (0 ∷ [])); lacks_some = omega arith; parts = refl }

pub length-frames : (ps : List Frame) → length (frames ps) ≡ frames_size ps
length-frames [] = refl
length-frames (p ∷ ps) = length-append (frame_bytes p) (frames ps) ∙ ap (λ (n : ℕ). frame_size p + n) (length-frames ps)

pub frames_append : (ps qs : List Frame) → frames (ps ++ qs) ≡ frames ps ++ frames qs
frames_append [] qs = refl
frames_append (p ∷ ps) qs = ap (λ rest. frame_bytes p ++ rest) (frames_append ps qs) ∙ sym (append_assoc (frame_bytes p) (frames ps) (frames qs))

-- frames alone are whole
pub frames_are_whole : (ps : List Frame) → AreRight ps → AreWhole (frames ps) ps
frames_are_whole ps right = record { right = right; rest = []; parts = sym (append-nil (frames ps)); is_torn = none_is_part }

module _ {R : Type 0} (shape : R → Frame) where
  -- the first bytes are the frames of the records
  pub cut_image : (old new : Image) (records : List R) (n : ℕ) → AreRecordsOf shape old.bytes records → n ≡ spelled_size shape records → new ≡ cut_to n old → new ≡ synced_bytes (spelled shape records)
  cut_image old new records n holds size e =
      let long : length (spelled shape records) ≡ n = length-frames (map shape records) ∙ sym size in
      e ∙ ap (λ (b : List ℕ). synced_bytes (take n b)) holds.parts ∙ ap synced_bytes (take_at (spelled shape records) holds.rest n long)

  pub cut_holds : (old new : Image) (records : List R) (n : ℕ) → AreRecordsOf shape old.bytes records → n ≡ spelled_size shape records → new ≡ cut_to n old → AreRecordsOf shape new.bytes records
  cut_holds old new records n holds size e =
      let bytes : new.bytes ≡ spelled shape records = ap (λ (i : Image). i.bytes) (cut_image old new records n holds size e) in
      rw bytes (frames_are_whole (map shape records) holds.right)

  pub cut_keeps : {T E : Type 0} (r : Result T E) (old new : Image) (records : List R) (n : ℕ) → AreRecordsOf shape old.bytes records → n ≡ spelled_size shape records
      → OnOk r (new ≡ cut_to n old) → OnErr r (CutsOrNot n old new) → AreRecordsOf shape new.bytes records
  cut_keeps (Ok x) old new records n holds size ok err = cut_holds old new records n holds size ok
  cut_keeps (Err x) old new records n holds size ok (inl cut) = cut_holds old new records n holds size cut
  cut_keeps (Err x) old new records n holds size ok (inr same) = rw same holds

-- a cut leaves at least what it cuts to
pub cut_size : {T E : Type 0} (r : Result T E) (old new n : ℕ) → n ≤ old → OnOk r (new ≡ n) → OnErr r ((new ≡ n) ⊎ (new ≡ old)) → n ≤ new
cut_size (Ok x) old new n le ok err = omega arith
cut_size (Err x) old new n le ok (inl cut) = omega arith
cut_size (Err x) old new n le ok (inr same) = omega arith

-- what isn't torn has no byte behind the frames
pub not_torn : (is_torn : Bool) (whole size : ℕ) → is_torn ≡ ltb whole size → is_torn ≡ false → size ≤ whole
not_torn is_torn whole size e off = ltb-false whole size (sym e ∙ off)

-- a call that appended, or appended some prefix
pub some_appended : {T E : Type 0} (r : Result T E) (piece : List ℕ) (old new : Image) → OnOk r (new ≡ appended piece old) → OnErr r (AppendsSome piece old new) → AppendsSome piece old new
some_appended (Ok x) piece old new ok err = (length piece, omega arith, ok ∙ ap (λ (p : List ℕ). appended p old) (sym (take_all (length piece) piece (omega arith))))
some_appended (Err x) piece old new ok err = err

module _ {R : Type 0} (shape : R → Frame) (old new : Image) (records : List R) (entry : R)
    (holds : AreRecordsOf shape old.bytes records) (full : length old.bytes ≤ spelled_size shape records) (fits : IsFrame (shape entry)) (good : IsRight (shape entry))
    (some : AppendsSome (frame_bytes (shape entry)) old new) where
  -- nothing stands behind the frames
  no_rest : old.bytes ≡ spelled shape records
  no_rest =
      let sizes : length old.bytes ≡ length (spelled shape records) + length holds.rest = ap length holds.parts ∙ length-append (spelled shape records) holds.rest in
      let none : holds.rest ≡ [] = nil_from_length holds.rest (omega (arith, sizes, length-frames (map shape records))) in
      holds.parts ∙ ap (λ (x : List ℕ). spelled shape records ++ x) none ∙ append-nil (spelled shape records)

  bytes_are : new.bytes ≡ spelled shape records ++ take some.0 (frame_bytes (shape entry))
  bytes_are = ap (λ (i : Image). i.bytes) some.2 ∙ ap (λ (x : List ℕ). x ++ take some.0 (frame_bytes (shape entry))) no_rest

  sizes_are : length new.bytes ≡ spelled_size shape records + some.0
  sizes_are =
      ap length bytes_are ∙ length-append (spelled shape records) (take some.0 (frame_bytes (shape entry))) ∙ ap (λ (n : ℕ). n + length (take some.0 (frame_bytes (shape entry)))) (length-frames (map shape records))
      ∙ ap (λ (n : ℕ). spelled_size shape records + n) (length-take-le some.0 (frame_bytes (shape entry)) some.1)

  -- the whole frame is there
  pub note_whole : length new.bytes ≡ spelled_size shape records + frame_size (shape entry) → AreRecordsOf shape new.bytes (records ++ entry ∷ [])
  note_whole size =
      let all : take some.0 (frame_bytes (shape entry)) ≡ frame_bytes (shape entry) = take_all some.0 (frame_bytes (shape entry)) (omega (arith, size, sizes_are)) in
      let bytes : new.bytes ≡ spelled shape (records ++ entry ∷ []) = bytes_are ∙ ap (λ (x : List ℕ). spelled shape records ++ x) all ∙ sym (spelled_push shape records entry) in
      let right : AreRight (map shape (records ++ entry ∷ [])) = rw map_push (right_push (map shape records) (shape entry) holds.right fits good) in
      rw bytes (frames_are_whole (map shape (records ++ entry ∷ [])) right)

  -- a part of the frame is there
  pub note_torn : (length new.bytes ≡ spelled_size shape records + frame_size (shape entry) → ⊥) → AreRecordsOf shape new.bytes records
  note_torn size = record {
    right = holds.right;
    rest = take some.0 (frame_bytes (shape entry));
    parts = bytes_are;
    is_torn = cut_frame some.0 (shape entry) fits (omega (arith, some.1, sizes_are, size));
  }

-- what a stop leaves
pub stop_keeps : {R : Type 0} (shape : R → Frame) (old new : Image) (records left : List R) (cut size : ℕ) → AreRecordsOf shape old.bytes records → new ≡ stopped cut old → length new.bytes ≡ size
    → left ≡ records_within shape size records → AreRecordsOf shape new.bytes left
stop_keeps shape old new records left cut size holds e told kept =
    let n = kept_bytes cut old in
    let bytes : new.bytes ≡ take n old.bytes = ap (λ (i : Image). i.bytes) e in
    let long : size ≡ n = sym told ∙ ap length bytes ∙ length-take-le n old.bytes (omega arith) in
    let payloads : map shape left ≡ whole_within n (map shape records) = ap (map shape) kept ∙ map-within shape size records ∙ ap (λ (k : ℕ). whole_within k (map shape records)) long in
    rw (bytes, payloads) (whole_left n old.bytes (map shape records) holds)

-- what a trim leaves
pub trim_keeps : {A : Type 0} (shape : A → Frame) (old new : Image) (items : List A) → AreRecordsOf shape old.bytes items → new ≡ trimmed_to (spelled_size shape (before_last items)) old → AreRecordsOf shape new.bytes (last_alone items)
trim_keeps {A} shape old new items holds e =
    let front = before_last items in
    let last = last_alone items in
    let halves : items ≡ front ++ last = split_last items in
    let bytes : new.bytes ≡ drop (spelled_size shape front) old.bytes = ap (λ (i : Image). i.bytes) e in
    let split : old.bytes ≡ spelled shape front ++ (spelled shape last ++ holds.rest) =
    holds.parts ∙ ap (λ (l : List A). spelled shape l ++ holds.rest) halves ∙ ap (λ (x : List ℕ). x ++ holds.rest) (spelled_append shape front last) ∙ append_assoc (spelled shape front) (spelled shape last) holds.rest in
    let left = ap (drop (spelled_size shape front)) split ∙ drop_at (spelled shape front) (spelled shape last ++ holds.rest) (spelled_size shape front) (length-frames (map shape front)) in
    record {
      right = right_last shape items holds.right;
      rest = holds.rest;
      parts = bytes ∙ left;
      is_torn = holds.is_torn;
    }

-- a new journal is that of an empty disk
pub new_is_kept : {R : Type 0} (spelling : R → List ℕ) (tells : Bool) (seen : Seen) → seen.size ≡ 0 → (IsTrue tells → seen.image.bytes ≡ []) → IsKeptOn {R = R} spelling tells seen new_journal
new_is_kept {R} spelling tells seen empty none = record {
  records = λ told. rw (none told) (record { right = record { are_frames = tt; are_right = tt }; rest = []; parts = refl; is_torn = none_is_part });
  whole = omega arith;
  is_torn = rw empty refl;
  room = omega arith;
}
