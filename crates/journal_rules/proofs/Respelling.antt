-- A front of frames that were found, spelled as version 2: a call on the bytes is the same call on those that are spelled so.
use Rattle.std.proofs.Common.{◌≡◌, ℕ, ◌+◌, ◌-◌, ◌≤◌, Bool, true, false, leb, ltb, if◌then◌else◌, IsTrue, List, [], ◌∷◌, ◌++◌, length, take, drop, map, refl, sym, ap, ap₂, subst, ◌∙◌, arith, inl, inr, append_assoc, length-drop, drop-drop, drop_at}
use Rattle.std.proofs.lemmas.Bool.{le-leb}
use Rattle.std.proofs.lemmas.List.{append-nil, length-append, drop-append-le, drop-take}
use Rattle.std.proofs.Math.Seq.{take-append-add, drop-append_seam}
use Rattle.journal_disk.specs.Disk.{Image, Seen, appended, all_synced, cut_to, stopped, synced_bytes, kept_bytes, trimmed_to, AppendsSome, SyncsSome, CutsOrNot}
use Rattle.journal_disk.specs.Frames.{Frame, AreRight, frame_size, frames, frames_size}
use Rattle.journal_disk.proofs.ForCallers.{written_is_frame}
use Rattle.frame_journal.specs.Journal.{IsKeptOn, Kept}
use Rattle.frame_journal.specs.Records.{Entry, as_written, entry_frame, records_within, spelled, spelled_size, values}
use Rattle.frame_journal.proofs.ForCallers.{frame_in_payload, length-frames, lt_shift, spelled_append}
use Rattle.journal_rules.specs.Stands.{record_frame, respelled, with_front}
use Rattle.journal_rules.proofs.Journals.{written_frames, written_values}

pub image_is : {a b : List ℕ} {m n : ℕ} → a ≡ b → m ≡ n → (let i : Image = record { bytes = a; synced = m } in i) ≡ (let i : Image = record { bytes = b; synced = n } in i)
image_is e f = cc

-- ---- other bytes in the place of the first n

module _ (front : List ℕ) (n : ℕ) where
  abbrev pub put : Image → Image
  put image = with_front front (trimmed_to n image)

  pub put_append : (piece : List ℕ) (image : Image) → n ≤ length image.bytes → put (appended piece image) ≡ appended piece (put image)
  put_append piece image le = image_is (ap (λ (bs : List ℕ). front ++ bs) (drop-append-le n image.bytes piece le) ∙ sym (append_assoc front (drop n image.bytes) piece)) refl

  pub put_synced : (image : Image) → put (all_synced image) ≡ all_synced (put image)
  put_synced image = image_is refl (omega (arith, length-append front (drop n image.bytes), length-drop n image.bytes))

  pub put_cut : (k : ℕ) (image : Image) → n ≤ k → put (cut_to k image) ≡ cut_to (length front + (k - n)) (put image)
  put_cut k image le =
      let there : k ≡ n + (k - n) = omega (arith, le) in
      let behind : drop n (take k image.bytes) ≡ take (k - n) (drop n image.bytes) = ap (λ (m : ℕ). drop n (take m image.bytes)) there ∙ drop-take n (k - n) image.bytes in
      let bytes : front ++ drop n (take k image.bytes) ≡ take (length front + (k - n)) (front ++ drop n image.bytes) =
      ap (λ (bs : List ℕ). front ++ bs) behind ∙ sym (take-append-add front (drop n image.bytes) (k - n)) in
      image_is bytes (omega (arith, ap length bytes, length-append front (drop n (take k image.bytes)), length-drop n (take k image.bytes)))

  pub put_stop : (cut : ℕ) (image : Image) → n ≤ image.synced → n ≤ length image.bytes → put (stopped cut image) ≡ stopped cut (put image)
  put_stop cut image synced le =
      let places : length front + (kept_bytes cut image - n) ≡ kept_bytes cut (put image) = omega (arith, synced, le, length-append front (drop n image.bytes), length-drop n image.bytes) in
      put_cut (kept_bytes cut image) image (omega (arith, synced, le)) ∙ ap (λ (m : ℕ). cut_to m (put image)) places

  pub put_trim : (m : ℕ) (image : Image) → trimmed_to (length front + m) (put image) ≡ trimmed_to (n + m) image
  put_trim m image =
      image_is
      (sym (drop-drop m (length front) (front ++ drop n image.bytes)) ∙ ap (drop m) (drop-append_seam front (drop n image.bytes)) ∙ drop-drop m n image.bytes)
      (omega arith)

-- ---- entries at the front

module _ {R : Type 0} (spelling : R → List ℕ) where
  -- the frames of right entries' payloads are right as version 2
  right_written : (entries : List (Entry R)) → AreRight (map (entry_frame spelling) entries) → AreRight (map (record_frame spelling) (values entries))
  right_written [] right = record { are_frames = tt; are_right = tt }
  right_written (e ∷ entries) right =
      let rest = right_written entries (record { are_frames = right.are_frames.1; are_right = right.are_right.1 }) in
      record { are_frames = (written_is_frame (spelling e.value) (frame_in_payload e.version (spelling e.value) right.are_frames.0), rest.are_frames); are_right = (refl, rest.are_right) }

  pub size_append : {A : Type 0} (shape : A → Frame) (xs ys : List A) → spelled_size shape (xs ++ ys) ≡ spelled_size shape xs + spelled_size shape ys
  size_append shape [] ys = omega arith
  size_append shape (x ∷ xs) ys = omega (arith, size_append shape xs ys)

  -- the records of old entries and of those that were written behind them
  pub values_front : (old : List (Entry R)) (news : List R) → values (old ++ map as_written news) ≡ values old ++ news
  values_front [] news = written_values news
  values_front (e ∷ old) news = ap (λ (l : List R). e.value ∷ l) (values_front old news)

  -- what a stop keeps of them
  written_within : (m : ℕ) (news : List R) → records_within (entry_frame spelling) m (map as_written news) ≡ map as_written (records_within (record_frame spelling) m news)
  written_within m [] = refl
  written_within m (x ∷ news) = by_test (leb (frame_size (record_frame spelling x)) m) (written_within (m - frame_size (record_frame spelling x)) news)
    where
      by_test : (b : Bool) → records_within (entry_frame spelling) (m - frame_size (record_frame spelling x)) (map as_written news) ≡ map as_written (records_within (record_frame spelling) (m - frame_size (record_frame spelling x)) news)
          → (if b then as_written x ∷ records_within (entry_frame spelling) (m - frame_size (record_frame spelling x)) (map as_written news) else [])
          ≡ map as_written (if b then x ∷ records_within (record_frame spelling) (m - frame_size (record_frame spelling x)) news else [])
      by_test true e = ap (λ (l : List (Entry R)). as_written x ∷ l) e
      by_test false e = refl

  pub front_within : (m : ℕ) (old : List (Entry R)) (news : List R) → spelled_size (entry_frame spelling) old ≤ m
      → records_within (entry_frame spelling) m (old ++ map as_written news) ≡ old ++ map as_written (records_within (record_frame spelling) (m - spelled_size (entry_frame spelling) old) news)
  front_within m [] news le = let same : m - 0 ≡ m = omega arith in rw same (written_within m news)
  front_within m (e ∷ old) news le =
      let first = frame_size (entry_frame spelling e) in
      let rest = spelled_size (entry_frame spelling) old in
      let test : leb first m ≡ true = le-leb _ _ (omega (arith, le)) in
      let places : m - first - rest ≡ m - (first + rest) = omega arith in
      rw test
      (ap (λ (l : List (Entry R)). e ∷ l) (front_within (m - first) old news (omega (arith, le))
      ∙ ap (λ (k : ℕ). old ++ map as_written (records_within (record_frame spelling) k news)) places))

  module _ (old : List (Entry R)) where
    abbrev pub old_size : ℕ
    old_size = spelled_size (entry_frame spelling) old

    abbrev pub new_front : List ℕ
    new_front = spelled (record_frame spelling) (values old)

    pub new_length : length new_front ≡ spelled_size (record_frame spelling) (values old)
    new_length = length-frames (map (record_frame spelling) (values old))

  -- what is seen of a disk with its front respelled, and a journal of it
  abbrev pub respelled_seen : List (Entry R) → Seen → Seen
  respelled_seen old seen = record seen { image = respelled spelling old seen.image; size = spelled_size (record_frame spelling) (values old) + (seen.size - spelled_size (entry_frame spelling) old) }

  abbrev pub respelled_journal : Kept R → Kept R
  respelled_journal journal = record journal { entries = map as_written (values journal.entries) }

  pub respelled_is : (old : List (Entry R)) (image : Image) → respelled spelling old image ≡ put (new_front old) (old_size old) image
  respelled_is [] image = image_is refl (omega arith)
  respelled_is (e ∷ old) image = refl

  -- the old entries' frames are there
  pub front_held : (tells : Bool) (seen : Seen) (journal : Kept R) (old : List (Entry R)) (news : List R) → IsTrue tells → journal.entries ≡ old ++ map as_written news → IsKeptOn spelling tells seen journal
      → (spelled_size (entry_frame spelling) old ≤ length seen.image.bytes) × (spelled_size (entry_frame spelling) old ≤ seen.size)
  front_held tells seen journal old news told listed kept =
      let k = kept.records told in
      let all : spelled_size (entry_frame spelling) journal.entries ≡ spelled_size (entry_frame spelling) old + spelled_size (entry_frame spelling) (map as_written news) =
      ap (spelled_size (entry_frame spelling)) listed ∙ size_append (entry_frame spelling) old (map as_written news) in
      (omega (arith, all, ap length k.parts, length-append (spelled (entry_frame spelling) journal.entries) k.rest, length-frames (map (entry_frame spelling) journal.entries)), omega (arith, all, kept.whole))

  -- the sizes of all frames, as they stand and respelled
  pub size_stands : (old : List (Entry R)) (news : List R) (entries : List (Entry R)) → entries ≡ old ++ map as_written news
      → spelled_size (entry_frame spelling) entries ≡ spelled_size (entry_frame spelling) old + spelled_size (record_frame spelling) news
  size_stands old news entries listed =
      ap (spelled_size (entry_frame spelling)) listed ∙ size_append (entry_frame spelling) old (map as_written news) ∙ ap (λ (k : ℕ). spelled_size (entry_frame spelling) old + k) (ap frames_size (written_frames spelling news))

  pub size_respelled : (old : List (Entry R)) (news : List R) (entries : List (Entry R)) → entries ≡ old ++ map as_written news
      → spelled_size (entry_frame spelling) (map as_written (values entries)) ≡ spelled_size (record_frame spelling) (values old) + spelled_size (record_frame spelling) news
  size_respelled old news entries listed =
      ap frames_size (written_frames spelling (values entries)) ∙ ap (spelled_size (record_frame spelling)) (ap values listed ∙ values_front old news) ∙ size_append (record_frame spelling) (values old) news

  -- their bytes
  bytes_stand : (old : List (Entry R)) (news : List R) (entries : List (Entry R)) (rest : List ℕ) → entries ≡ old ++ map as_written news
      → drop (spelled_size (entry_frame spelling) old) (spelled (entry_frame spelling) entries ++ rest) ≡ spelled (record_frame spelling) news ++ rest
  bytes_stand old news entries rest listed =
      let all : spelled (entry_frame spelling) entries ++ rest ≡ spelled (entry_frame spelling) old ++ (spelled (record_frame spelling) news ++ rest) =
      ap (λ (l : List (Entry R)). spelled (entry_frame spelling) l ++ rest) listed
      ∙ ap (λ (b : List ℕ). b ++ rest) (spelled_append (entry_frame spelling) old (map as_written news) ∙ ap (λ (b : List ℕ). spelled (entry_frame spelling) old ++ b) (ap frames (written_frames spelling news)))
      ∙ append_assoc (spelled (entry_frame spelling) old) (spelled (record_frame spelling) news) rest in
      ap (drop (spelled_size (entry_frame spelling) old)) all
      ∙ drop_at (spelled (entry_frame spelling) old) (spelled (record_frame spelling) news ++ rest) (spelled_size (entry_frame spelling) old) (length-frames (map (entry_frame spelling) old))

  bytes_respelled : (old : List (Entry R)) (news : List R) (entries : List (Entry R)) → entries ≡ old ++ map as_written news
      → spelled (entry_frame spelling) (map as_written (values entries)) ≡ spelled (record_frame spelling) (values old) ++ spelled (record_frame spelling) news
  bytes_respelled old news entries listed =
      ap frames (written_frames spelling (values entries)) ∙ ap (spelled (record_frame spelling)) (ap values listed ∙ values_front old news) ∙ spelled_append (record_frame spelling) (values old) news

  -- the journal is kept on the respelled disk too
  pub kept_respelled : (tells : Bool) (seen : Seen) (journal : Kept R) (old : List (Entry R)) (news : List R) → journal.entries ≡ old ++ map as_written news → IsKeptOn spelling tells seen journal
      → IsKeptOn spelling tells (respelled_seen old seen) (respelled_journal journal)
  kept_respelled tells seen journal old news listed kept =
      let n = spelled_size (entry_frame spelling) old in
      let w = spelled_size (record_frame spelling) (values old) in
      let m = spelled_size (record_frame spelling) news in
      let stands = size_stands old news journal.entries listed in
      let again = size_respelled old news journal.entries listed in
      let there : seen.size ≡ n + (seen.size - n) = omega (arith, stands, kept.whole) in
      record {
        records = λ told.
            let k = kept.records told in
            let shape = written_frames spelling (values journal.entries) in
            let front = spelled (record_frame spelling) (values old) in
            let bytes : (respelled spelling old seen.image).bytes ≡ spelled (entry_frame spelling) (map as_written (values journal.entries)) ++ k.rest =
            ap (λ (i : Image). i.bytes) (respelled_is old seen.image) ∙ ap (λ (b : List ℕ). front ++ drop n b) k.parts ∙ ap (λ (b : List ℕ). front ++ b) (bytes_stand old news journal.entries k.rest listed)
            ∙ sym (append_assoc front (spelled (record_frame spelling) news) k.rest) ∙ ap (λ (b : List ℕ). b ++ k.rest) (sym (bytes_respelled old news journal.entries listed)) in
            record { right = subst AreRight (sym shape) (right_written journal.entries k.right); rest = k.rest; parts = bytes; is_torn = k.is_torn };
        whole = omega (arith, stands, again, kept.whole);
        is_torn = kept.is_torn ∙ ap₂ (λ (a b : ℕ). ltb a b) stands there ∙ lt_shift n m (seen.size - n) ∙ sym (lt_shift w m (seen.size - n)) ∙ ap (λ (a : ℕ). ltb a (w + (seen.size - n))) (sym again);
        room = kept.room;
      }

  -- ---- each call on the bytes

  pub respelled_append : (old : List (Entry R)) (piece : List ℕ) (image : Image) → spelled_size (entry_frame spelling) old ≤ length image.bytes → respelled spelling old (appended piece image) ≡ appended piece (respelled spelling old image)
  respelled_append old piece image le = respelled_is old (appended piece image) ∙ put_append (new_front old) (old_size old) piece image le ∙ ap (appended piece) (sym (respelled_is old image))

  pub respelled_sync : (old : List (Entry R)) (image : Image) → respelled spelling old (all_synced image) ≡ all_synced (respelled spelling old image)
  respelled_sync old image = respelled_is old (all_synced image) ∙ put_synced (new_front old) (old_size old) image ∙ ap all_synced (sym (respelled_is old image))

  pub respelled_stop : (old : List (Entry R)) (cut : ℕ) (image : Image) → spelled_size (entry_frame spelling) old ≤ image.synced → spelled_size (entry_frame spelling) old ≤ length image.bytes
      → respelled spelling old (stopped cut image) ≡ stopped cut (respelled spelling old image)
  respelled_stop old cut image synced le = respelled_is old (stopped cut image) ∙ put_stop (new_front old) (old_size old) cut image synced le ∙ ap (stopped cut) (sym (respelled_is old image))

  -- a cut back to the end of all frames
  pub respelled_cut : (old : List (Entry R)) (news : List R) (entries : List (Entry R)) (image : Image) → entries ≡ old ++ map as_written news
      → respelled spelling old (cut_to (spelled_size (entry_frame spelling) entries) image) ≡ cut_to (spelled_size (entry_frame spelling) (map as_written (values entries))) (respelled spelling old image)
  respelled_cut old news entries image listed =
      let k = spelled_size (entry_frame spelling) entries in
      let stands = size_stands old news entries listed in
      let again = size_respelled old news entries listed in
      let places : length (new_front old) + (k - old_size old) ≡ spelled_size (entry_frame spelling) (map as_written (values entries)) = omega (arith, stands, again, new_length old) in
      respelled_is old (cut_to k image) ∙ put_cut (new_front old) (old_size old) k image (omega (arith, stands)) ∙ ap₂ (λ (m : ℕ) (i : Image). cut_to m i) places (sym (respelled_is old image))

  -- the frames alone
  pub respelled_frames : (old : List (Entry R)) (news : List R) (entries : List (Entry R)) → entries ≡ old ++ map as_written news
      → respelled spelling old (synced_bytes (spelled (entry_frame spelling) entries)) ≡ synced_bytes (spelled (entry_frame spelling) (map as_written (values entries)))
  respelled_frames old news entries listed =
      let i = synced_bytes (spelled (entry_frame spelling) entries) in
      let front = spelled (record_frame spelling) (values old) in
      let n = spelled_size (entry_frame spelling) old in
      let here : drop n (spelled (entry_frame spelling) entries) ≡ spelled (record_frame spelling) news =
      ap (drop n) (sym (append-nil (spelled (entry_frame spelling) entries))) ∙ bytes_stand old news entries [] listed ∙ append-nil (spelled (record_frame spelling) news) in
      respelled_is old i ∙ put_synced front n i ∙ ap synced_bytes (ap (λ (b : List ℕ). front ++ b) here ∙ sym (bytes_respelled old news entries listed))

  -- a trim that drops the old entries and some behind them
  pub respelled_trim : (old : List (Entry R)) (m : ℕ) (image : Image)
      → trimmed_to (spelled_size (record_frame spelling) (values old) + m) (respelled spelling old image) ≡ trimmed_to (spelled_size (entry_frame spelling) old + m) image
  respelled_trim old m image =
      ap₂ (λ (k : ℕ) (i : Image). trimmed_to (k + m) i) (sym (new_length old)) (respelled_is old image) ∙ put_trim (new_front old) (old_size old) m image

  pub respelled_appends : (old : List (Entry R)) (piece : List ℕ) (before after : Image) → spelled_size (entry_frame spelling) old ≤ length before.bytes → AppendsSome piece before after
      → AppendsSome piece (respelled spelling old before) (respelled spelling old after)
  respelled_appends old piece before after le some = (some.0, some.1, ap (respelled spelling old) some.2 ∙ respelled_append old (take some.0 piece) before le)

  pub respelled_syncs : (old : List (Entry R)) (before after : Image) → SyncsSome before after → SyncsSome (respelled spelling old before) (respelled spelling old after)
  respelled_syncs [] before after some = some
  respelled_syncs (e ∷ old) before after some = record {
    bytes = ap (λ (b : List ℕ). new_front (e ∷ old) ++ drop (old_size (e ∷ old)) b) some.bytes;
    synced = let more = some.synced in omega (arith, more);
  }

  pub respelled_cuts : (old : List (Entry R)) (news : List R) (entries : List (Entry R)) (before after : Image) → entries ≡ old ++ map as_written news
      → CutsOrNot (spelled_size (entry_frame spelling) entries) before after → CutsOrNot (spelled_size (entry_frame spelling) (map as_written (values entries))) (respelled spelling old before) (respelled spelling old after)
  respelled_cuts old news entries before after listed (inl cut) = inl (ap (respelled spelling old) cut ∙ respelled_cut old news entries before listed)
  respelled_cuts old news entries before after listed (inr same) = inr (ap (respelled spelling old) same)
