-- Each call on the bytes is the call of the rules.
use Rattle.std.proofs.Common.{◌≡◌, ℕ, ◌+◌, ◌-◌, ◌<◌, ◌≤◌, min, Bool, true, false, cond, leb, List, [], ◌∷◌, ◌++◌, length, take, map, refl, sym, ap, ◌∙◌, arith, inl, inr, subst, drop}
use Rattle.std.specs.Prelude.{reverse}
use Rattle.std.proofs.lemmas.Bool.{cases_lt, le-leb, lt-leb, ltb-false}
use Rattle.std.proofs.lemmas.List.{length-append, length-take-le, map-append, reverse-append, take_all, take-append-drop, append_assoc}
use Rattle.fed_rules.specs.Disk.{Call, Append, Sync, CutBack, TrimFront, Stops, Disk, before_last, bytes_of, whole, after_call, after_calls, empty_disk, is_torn, standing, journal}
use Rattle.journal_disk.specs.Disk.{Image, no_bytes, appended, cut_to, stopped, kept_bytes, trimmed_to}
use Rattle.journal_disk.specs.Frames.{Frame, IsPayload, AreRight, frame, frame_size, frames}
use Rattle.journal_disk.proofs.ForCallers.{written_is_frame}
use Rattle.frame_journal.specs.Records.{AreRecordsOf, spelled, spelled_size, records_within}
use Rattle.frame_journal.proofs.ForCallers.{cut_holds, cut_image, frames_append, length-frames, new_size, none_is_part, note_whole, spelled_size_push, whole_records, within_all, within_last}
use Rattle.journal_rules.specs.Stands.{StandsWhole, StandsFor, CountsFrames, with_front, record_frame, image_after, MayCome, image_after_calls, AllMayCome}
use Rattle.std.proofs.Math.Seq.{take-append-add, drop-append_seam}

module _ {R : Type 0} (spelling : R → List ℕ) (size : R → ℕ) (counts : CountsFrames spelling size) where
  reverse-cons : (newest : R) (records : List R) → reverse (newest ∷ records) ≡ reverse records ++ newest ∷ []
  reverse-cons newest records = reverse-append (newest ∷ []) records

  -- the rules count the bytes of the frames
  pub sizes_agree : (records : List R) → spelled_size (record_frame spelling) (reverse records) ≡ bytes_of size records
  sizes_agree [] = refl
  sizes_agree (newest ∷ records) =
      ap (spelled_size (record_frame spelling)) (reverse-cons newest records) ∙ omega (arith, spelled_size_push (record_frame spelling) (reverse records) newest, sizes_agree records, counts newest)

  -- the records that a stop keeps
  pub within_agrees : (n : ℕ) (records : List R) → records_within (record_frame spelling) n (reverse records) ≡ reverse (whole size n records)
  within_agrees n [] = refl
  within_agrees n (newest ∷ records) =
      let all = sizes_agree (newest ∷ records) in
      let turned = reverse-cons newest records in
      elim (cases_lt n (bytes_of size (newest ∷ records))) [
        | inl short ↦
            let test : leb (bytes_of size (newest ∷ records)) n ≡ false = lt-leb _ _ short in
            let few : n < spelled_size (record_frame spelling) (reverse records ++ newest ∷ []) = omega (arith, all, ap (spelled_size (record_frame spelling)) turned) in
            rw (test, turned) (within_last (record_frame spelling) n (reverse records) newest few ∙ within_agrees n records)
        | inr fits ↦
            let test : leb (bytes_of size (newest ∷ records)) n ≡ true = le-leb _ _ fits in
            rw test (within_all (record_frame spelling) n (reverse (newest ∷ records)) (omega (arith, all)))
      ]

  empty_stands : StandsWhole spelling no_bytes (empty_disk {Record = R})
  empty_stands = record { records = record { right = record { are_frames = tt; are_right = tt }; rest = []; parts = refl; is_torn = none_is_part }; bytes = refl; synced = refl }

  append_stands : (image : Image) (disk : Disk R) (entry : R) → StandsWhole spelling image disk → is_torn size disk ≡ false → IsPayload (spelling entry)
      → StandsWhole spelling (appended (frame (spelling entry)) image) (after_call size disk (Append entry))
  append_stands image disk entry s whole fits =
      let f = frame (spelling entry) in
      let records = reverse disk.records in
      let full : length image.bytes ≤ spelled_size (record_frame spelling) records = omega (arith, ltb-false _ _ whole, s.bytes, sizes_agree disk.records) in
      let there : length image.bytes ≡ spelled_size (record_frame spelling) records = omega (arith, full, ap length s.records.parts, length-append (spelled (record_frame spelling) records) s.records.rest, length-frames (map (record_frame spelling) records)) in
      let long : length (image.bytes ++ f) ≡ spelled_size (record_frame spelling) records + frame_size (record_frame spelling entry) = omega (arith, length-append image.bytes f, there) in
      let turned = reverse-cons entry disk.records in
      record {
        records = rw turned (note_whole (record_frame spelling) image (appended f image) records entry s.records full (written_is_frame (spelling entry) fits) refl (length f, omega arith, ap (λ (l : List ℕ). appended l image) (sym (take_all (length f) f (omega arith)))) long);
        bytes = omega (arith, length-append image.bytes f, s.bytes, counts entry);
        synced = s.synced;
      }

  cut_stands : (image : Image) (disk : Disk R) → StandsWhole spelling image disk → StandsWhole spelling (cut_to (bytes_of size disk.records) image) (after_call size disk CutBack)
  cut_stands image disk s =
      let n = bytes_of size disk.records in
      let records = reverse disk.records in
      let counted : n ≡ spelled_size (record_frame spelling) records = sym (sizes_agree disk.records) in
      let bytes : take n image.bytes ≡ spelled (record_frame spelling) records = ap (λ (i : Image). i.bytes) (cut_image (record_frame spelling) image (cut_to n image) records n s.records counted refl) in
      let long : length (take n image.bytes) ≡ n = ap length bytes ∙ length-frames (map (record_frame spelling) records) ∙ sym counted in
      record { records = cut_holds (record_frame spelling) image (cut_to n image) records n s.records counted refl; bytes = long; synced = long }

  stop_stands : (image : Image) (disk : Disk R) (cut : ℕ) → StandsWhole spelling image disk → StandsWhole spelling (stopped cut image) (after_call size disk (Stops cut))
  stop_stands image disk cut s =
      let n = kept_bytes cut image in
      let m = min disk.length (disk.synced + cut) in
      let same : n ≡ m = omega (arith, s.bytes, s.synced) in
      let long : length (take n image.bytes) ≡ m = length-take-le n image.bytes (omega arith) ∙ same in
      let kept = whole_records (record_frame spelling) n image.bytes (reverse disk.records) s.records in
      let agrees : records_within (record_frame spelling) n (reverse disk.records) ≡ reverse (whole size m disk.records) = rw same (within_agrees m disk.records) in
      record { records = rw agrees at kept; bytes = long; synced = long }

  -- what was trimmed put back in front
  same_image : {a b : List ℕ} {m n : ℕ} → a ≡ b → m ≡ n → (let i : Image = record { bytes = a; synced = m } in i) ≡ (let i : Image = record { bytes = b; synced = n } in i)
  same_image e f = cc

  pub take_behind : (front bytes : List ℕ) (n : ℕ) → length front ≤ n → take n (front ++ bytes) ≡ front ++ take (n - length front) bytes
  take_behind front bytes n le =
      ap (λ k. take k (front ++ bytes)) (let e : n ≡ length front + (n - length front) = omega (arith, le) in e) ∙ take-append-add front bytes (n - length front)

  cut_behind : (front : List ℕ) (image : Image) (n : ℕ) → length front ≤ n → n ≤ length front + length image.bytes
      → cut_to n (with_front front image) ≡ with_front front (cut_to (n - length front) image)
  cut_behind front image n le most =
      same_image (take_behind front image.bytes n le)
      (ap length (take_behind front image.bytes n le) ∙ length-append front (take (n - length front) image.bytes))

  whole_behind : (place : ℕ) (newer older : List R) → bytes_of size older ≤ place → (kept : List R) × (whole size place (newer ++ older) ≡ kept ++ older)
  whole_behind place [] [] le = ([], refl)
  whole_behind place [] (x ∷ older) le = ([], ap (λ b. cond b (x ∷ older) (whole size place older)) (le-leb _ _ le))
  whole_behind place (x ∷ newer) older le = by_test (leb (bytes_of size (x ∷ (newer ++ older))) place) (whole_behind place newer older le)
    where
      by_test : (b : Bool) → (kept : List R) × (whole size place (newer ++ older) ≡ kept ++ older)
          → (kept : List R) × (cond b (x ∷ (newer ++ older)) (whole size place (newer ++ older)) ≡ kept ++ older)
      by_test true rest = (x ∷ newer, refl)
      by_test false rest = rest

  pub bytes_behind : (newer older : List R) → bytes_of size older ≤ bytes_of size (newer ++ older)
  bytes_behind [] older = omega arith
  bytes_behind (x ∷ newer) older = let h = bytes_behind newer older in omega (arith, h)

  trim_stands : (image : Image) (disk : Disk R) → StandsFor spelling size image disk → MayCome spelling size disk TrimFront
      → StandsFor spelling size (trimmed_to (bytes_of size (before_last disk.records) - disk.trimmed) image) (after_call size disk TrimFront)
  trim_stands image disk s may =
      let n = bytes_of size (before_last disk.records) - disk.trimmed in
      let lower = may.0 in
      let upper = may.1 in
      let t = s.trimmed in
      let syncs : length s.front + image.synced ≡ disk.synced = s.all.synced in
      let bytes : (s.front ++ take n image.bytes) ++ drop n image.bytes ≡ s.front ++ image.bytes =
      append_assoc s.front (take n image.bytes) (drop n image.bytes) ∙ ap (λ bs. s.front ++ bs) (take-append-drop n image.bytes) in
      let few : n ≤ length image.bytes = enough image disk s may in
      let long : length (s.front ++ take n image.bytes) ≡ length s.front + n =
      length-append s.front (take n image.bytes) ∙ ap (λ k. length s.front + k) (length-take-le n image.bytes few) in
      let same : with_front s.front image ≡ with_front (s.front ++ take n image.bytes) (trimmed_to n image) =
      same_image (sym bytes) (omega (arith, long, lower, upper, t, syncs)) in
      let split = before_parts disk.records in
      record {
        front = s.front ++ take n image.bytes;
        trimmed = omega (arith, long, lower, t);
        all = (let w = subst (λ (i : Image). StandsWhole spelling i disk) same s.all in record { records = w.records; bytes = w.bytes; synced = w.synced });
        newer = split.0;
        older = before_last disk.records;
        parts = split.1;
        border = refl;
      }
    where
      before_parts : (rs : List R) → (newer : List R) × (rs ≡ newer ++ before_last rs)
      before_parts [] = ([], refl)
      before_parts (r ∷ rs) = (r ∷ [], refl)

      enough : (image : Image) (disk : Disk R) → StandsFor spelling size image disk → MayCome spelling size disk TrimFront
          → bytes_of size (before_last disk.records) - disk.trimmed ≤ length image.bytes
      enough image disk s may =
          let records = reverse disk.records in
          let held : bytes_of size disk.records ≤ length (s.front ++ image.bytes) =
          omega (arith, ap length s.all.records.parts, length-append (spelled (record_frame spelling) records) s.all.records.rest, length-frames (map (record_frame spelling) records), sizes_agree disk.records) in
          let last : bytes_of size (before_last disk.records) ≤ bytes_of size disk.records = behind_last disk.records in
          let t = s.trimmed in
          omega (arith, held, last, t, length-append s.front image.bytes)
        where
          behind_last : (rs : List R) → bytes_of size (before_last rs) ≤ bytes_of size rs
          behind_last [] = omega arith
          behind_last (r ∷ rs) = omega arith

  pub call_stands : (image : Image) (disk : Disk R) (call : Call R) → StandsFor spelling size image disk → MayCome spelling size disk call
      → StandsFor spelling size (image_after spelling size disk image call) (after_call size disk call)
  call_stands image disk (Append entry) s may = record {
    front = s.front;
    trimmed = s.trimmed;
    all = (let same : appended (frame (spelling entry)) (with_front s.front image) ≡ with_front s.front (appended (frame (spelling entry)) image) =
        same_image (append_assoc s.front image.bytes (frame (spelling entry))) refl in
        subst (λ (i : Image). StandsWhole spelling i (after_call size disk (Append entry))) same (append_stands (with_front s.front image) disk entry s.all may.0 may.1));
    newer = entry ∷ s.newer;
    older = s.older;
    parts = ap (λ rs. entry ∷ rs) s.parts;
    border = s.border;
  }
  call_stands image disk Sync s may = record {
    front = s.front;
    trimmed = s.trimmed;
    all = record { records = s.all.records; bytes = s.all.bytes; synced = sym (length-append s.front image.bytes) ∙ s.all.bytes };
    newer = s.newer;
    older = s.older;
    parts = s.parts;
    border = s.border;
  }
  call_stands image disk CutBack s may =
      let n = bytes_of size disk.records in
      let records = reverse disk.records in
      let t = s.trimmed in
      let b = s.border in
      let behind : bytes_of size s.older ≤ n = subst (λ rs. bytes_of size s.older ≤ bytes_of size rs) (sym s.parts) (bytes_behind s.newer s.older) in
      let most : n ≤ length s.front + length image.bytes =
      omega (arith, ap length s.all.records.parts, length-append (spelled (record_frame spelling) records) s.all.records.rest, length-frames (map (record_frame spelling) records), sizes_agree disk.records, length-append s.front image.bytes) in
      let same = cut_behind s.front image n (omega (arith, t, b, behind)) most in
      record {
        front = s.front;
        trimmed = s.trimmed;
        all = subst (λ (i : Image). StandsWhole spelling i (after_call size disk CutBack)) (same ∙ ap (λ k. with_front s.front (cut_to (n - k) image)) s.trimmed)
            (cut_stands (with_front s.front image) disk s.all);
        newer = s.newer;
        older = s.older;
        parts = s.parts;
        border = s.border;
      }
  call_stands image disk TrimFront s may = trim_stands image disk s may
  call_stands image disk (Stops cut) s may =
      let n = kept_bytes cut (with_front s.front image) in
      let t = s.trimmed in
      let long = length-append s.front image.bytes in
      let syncs : length s.front + image.synced ≡ disk.synced = s.all.synced in
      let all : length (s.front ++ image.bytes) ≡ disk.length = s.all.bytes in
      let held : disk.trimmed ≤ n = (let records = reverse disk.records in
      let b = s.border in
      let behind : bytes_of size s.older ≤ bytes_of size disk.records = subst (λ rs. bytes_of size s.older ≤ bytes_of size rs) (sym s.parts) (bytes_behind s.newer s.older) in
      omega (arith, ap length s.all.records.parts, length-append (spelled (record_frame spelling) records) s.all.records.rest, length-frames (map (record_frame spelling) records), sizes_agree disk.records, may, syncs, b, behind, long)) in
      let same = cut_behind s.front image n (omega (arith, t, held)) (omega (arith, long)) in
      let count : n - length s.front ≡ kept_bytes cut image = omega (arith, long) in
      let place : min disk.length (disk.synced + cut) ≡ n = omega (arith, syncs, all) in
      let kept = whole_behind (min disk.length (disk.synced + cut)) s.newer s.older (let b = s.border in omega (arith, place, held, b)) in
      record {
        front = s.front;
        trimmed = s.trimmed;
        all = subst (λ (i : Image). StandsWhole spelling i (after_call size disk (Stops cut))) (same ∙ ap (λ k. with_front s.front (cut_to k image)) count)
            (stop_stands (with_front s.front image) disk cut s.all);
        newer = kept.0;
        older = s.older;
        parts = ap (whole size (min disk.length (disk.synced + cut))) s.parts ∙ kept.1;
        border = s.border;
      }

  -- each frame has bytes
  some_size : (entry : R) → 0 < size entry
  some_size entry = omega (arith, counts entry, new_size (spelling entry))

  standing_newer : (newer older : List R) → standing size (bytes_of size older) (newer ++ older) ≡ newer
  standing_newer [] older = none older
    where
      none : (rs : List R) → standing size (bytes_of size rs) rs ≡ []
      none [] = refl
      none (r ∷ rs) = ap (λ b. cond b (r ∷ standing size (bytes_of size (r ∷ rs)) rs) []) (lt-leb _ _ (let s = some_size r in omega (arith, s)))
  standing_newer (r ∷ newer) older =
      ap (λ b. cond b (r ∷ standing size (bytes_of size older) (newer ++ older)) []) (le-leb _ _ (bytes_behind newer older))
      ∙ ap (λ rs. r ∷ rs) (standing_newer newer older)

  right_behind : (xs ys : List Frame) → AreRight (xs ++ ys) → AreRight ys
  right_behind [] ys right = right
  right_behind (x ∷ xs) ys right = right_behind xs ys (record { are_frames = right.are_frames.1; are_right = right.are_right.1 })

  same_ends : (xs ys us vs : List ℕ) → xs ++ us ≡ ys ++ vs → length xs ≡ length ys → us ≡ vs
  same_ends xs ys us vs e same =
      sym (drop-append_seam xs us) ∙ ap (drop (length xs)) e ∙ ap (λ n. drop n (ys ++ vs)) same ∙ drop-append_seam ys vs

  -- those that stand there are the newer ones
  pub journal_is : (image : Image) (disk : Disk R) (s : StandsFor spelling size image disk) → journal size disk ≡ s.newer
  journal_is image disk s = ap (λ n. standing size n disk.records) s.border ∙ ap (standing size (bytes_of size s.older)) s.parts ∙ standing_newer s.newer s.older

  -- the whole frames on the disk are those of the records that stand there
  pub journal_stands : (image : Image) (disk : Disk R) → StandsFor spelling size image disk → AreRecordsOf (record_frame spelling) image.bytes (reverse (journal size disk))
  journal_stands image disk s =
      let older = reverse s.older in
      let newer = reverse s.newer in
      let turned : reverse disk.records ≡ older ++ newer = ap reverse s.parts ∙ reverse-append s.newer s.older in
      let is : reverse (journal size disk) ≡ newer = ap reverse (journal_is image disk s) in
      let mapped : map (record_frame spelling) (reverse disk.records) ≡ map (record_frame spelling) older ++ map (record_frame spelling) newer = ap (map (record_frame spelling)) turned ∙ map-append (record_frame spelling) older newer in
      let whole : s.front ++ image.bytes ≡ frames (map (record_frame spelling) older) ++ (frames (map (record_frame spelling) newer) ++ s.all.records.rest) =
      s.all.records.parts ∙ ap (λ ps. frames ps ++ s.all.records.rest) mapped
      ∙ ap (λ bs. bs ++ s.all.records.rest) (frames_append (map (record_frame spelling) older) (map (record_frame spelling) newer))
      ∙ append_assoc (frames (map (record_frame spelling) older)) (frames (map (record_frame spelling) newer)) s.all.records.rest in
      let t = s.trimmed in
      let b = s.border in
      let long : length s.front ≡ length (frames (map (record_frame spelling) older)) = omega (arith, t, b, sizes_agree s.older, length-frames (map (record_frame spelling) older)) in
      subst (λ rs. AreRecordsOf (record_frame spelling) image.bytes rs) (sym is)
      (record {
        right = right_behind (map (record_frame spelling) older) (map (record_frame spelling) newer) (subst AreRight mapped s.all.records.right);
        rest = s.all.records.rest;
        parts = same_ends s.front (frames (map (record_frame spelling) older)) image.bytes (frames (map (record_frame spelling) newer) ++ s.all.records.rest) whole long;
        is_torn = s.all.records.is_torn;
      })

  pub calls_stand : (image : Image) (disk : Disk R) (calls : List (Call R)) → StandsFor spelling size image disk → AllMayCome spelling size disk calls
      → StandsFor spelling size (image_after_calls spelling size disk image calls) (after_calls size disk calls)
  calls_stand image disk [] s may = s
  calls_stand image disk (call ∷ calls) s may =
      calls_stand (image_after spelling size disk image call) (after_call size disk call) calls (call_stands image disk call s may.0) may.1

  pub from_empty : (calls : List (Call R)) → AllMayCome spelling size empty_disk calls
      → StandsFor spelling size (image_after_calls spelling size empty_disk no_bytes calls) (after_calls size empty_disk calls)
  from_empty calls may =
      calls_stand no_bytes empty_disk calls (record { front = []; trimmed = refl; all = empty_stands; newer = []; older = []; parts = refl; border = refl }) may
