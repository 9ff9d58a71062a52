-- Entries: versions and records side by side, and the frames that they have.
use Rattle.std.proofs.Common.{◌≡◌, ℕ, zero, suc, ◌+◌, ◌-◌, ◌<◌, get_or, List, [], ◌∷◌, ◌++◌, length, map, Some, refl, sym, ap, ◌∙◌, arith}
use Rattle.std.specs.List.{slice_get}
use Rattle.mdb_base.specs.Words.{map_some}
use Rattle.journal_disk.specs.declared.frames.Version.{Version}
use Rattle.journal_disk.specs.declared.frames.Version.TheVariants.{First, Second}
use Rattle.journal_disk.specs.Frames.{Frame, Old, New, IsPayload, IsFrame, IsRight, AreRight, digest_of, payload_of, version_of, frame_in, frame_size}
use Rattle.journal_disk.proofs.ForCallers.{length-digest_of}
use Rattle.frame_journal.specs.Records.{Entry, entry_frame, entries_of, last_alone, spelled_size, values}
use Rattle.frame_journal.specs.Journal.{EndsWith}
use Rattle.frame_journal.proofs.Sizes.{right_last}
use Rattle.std.proofs.lemmas.List.{length-append}
use Rattle.std.proofs.lemmas.Option.{same_Some}
use Rattle.byte_numbers.proofs.ForCallers.{length-number}
use Rattle.byte_numbers.specs.Numbers.{number}

pub payload_in_frame : (version : Version) (payload : List ℕ) → payload_of (frame_in version payload) ≡ payload
payload_in_frame First payload = refl
payload_in_frame Second payload = refl

pub version_in_frame : (version : Version) (payload : List ℕ) → version_of (frame_in version payload) ≡ version
version_in_frame First payload = refl
version_in_frame Second payload = refl

pub frame_in_payload : (version : Version) (payload : List ℕ) → IsFrame (frame_in version payload) → IsPayload payload
frame_in_payload First payload fits = fits.1
frame_in_payload Second payload fits = fits.0

-- how many bytes a frame has
pub old_size : (payload : List ℕ) → frame_size (frame_in First payload) ≡ 2 + length payload
old_size payload = length-append (number 2 (length payload)) payload ∙ ap (λ (n : ℕ). n + length payload) (length-number 2 (length payload))

pub new_size : (payload : List ℕ) → frame_size (frame_in Second payload) ≡ 36 + length payload
new_size payload = omega (arith, length-append (number 2 (length payload)) (payload ++ digest_of payload), length-append payload (digest_of payload), length-number 2 (length payload), length-digest_of payload)

-- a right frame is that of its payload in its version
pub right_again : (f : Frame) → IsRight f → frame_in (version_of f) (payload_of f) ≡ f
right_again (Old payload) right = refl
right_again (New payload digest) right = ap (New payload) (sym right)

-- the frame at a place, whose payload and version were told
pub record Got (fs : List Frame) (i : ℕ) (payload : List ℕ) (version : Version) : Type 0 where
  pub frame : Frame
  pub here : slice_get fs i ≡ Some frame
  pub payload_is : payload_of frame ≡ payload
  pub version_is : version_of frame ≡ version

pub got : (fs : List Frame) (i : ℕ) (payload : List ℕ) (version : Version) → map_some payload_of (slice_get fs i) ≡ Some payload → map_some version_of (slice_get fs i) ≡ Some version → Got fs i payload version
got [] i payload version e v = absurd cc
got (f ∷ fs) zero payload version e v = record { frame = f; here = refl; payload_is = same_Some (payload_of f) payload e; version_is = same_Some (version_of f) version v }
got (f ∷ fs) (suc i) payload version e v = let g = got fs i payload version e v in record { frame = g.frame; here = g.here; payload_is = g.payload_is; version_is = g.version_is }

pub right_at : (fs : List Frame) (i : ℕ) (f : Frame) → AreRight fs → slice_get fs i ≡ Some f → IsFrame f × IsRight f
right_at [] i f right e = absurd cc
right_at (g ∷ fs) zero f right e = let same : g ≡ f = same_Some g f e in rw (← same) (right.are_frames.0, right.are_right.0)
right_at (g ∷ fs) (suc i) f right e = right_at fs i f (record { are_frames = right.are_frames.1; are_right = right.are_right.1 }) e

-- ---- side by side

pub entries_push : {R : Type 0} (versions : List Version) (records : List R) (version : Version) (entry : R) → length versions ≡ length records
    → entries_of (versions ++ version ∷ []) (records ++ entry ∷ []) ≡ entries_of versions records ++ record { version = version; value = entry } ∷ []
entries_push [] [] version entry same = refl
entries_push [] (r ∷ records) version entry same = absurd (omega (arith, same))
entries_push (v ∷ versions) [] version entry same = absurd (omega (arith, same))
entries_push {R} (v ∷ versions) (r ∷ records) version entry same =
    ap (λ (l : List (Entry R)). record { version = v; value = r } ∷ l) (entries_push versions records version entry (omega (arith, same)))

pub values_of : {R : Type 0} (versions : List Version) (records : List R) → length versions ≡ length records → values (entries_of versions records) ≡ records
values_of [] [] same = refl
values_of [] (r ∷ records) same = absurd (omega (arith, same))
values_of (v ∷ versions) [] same = absurd (omega (arith, same))
values_of {R} (v ∷ versions) (r ∷ records) same = ap (λ (l : List R). r ∷ l) (values_of versions records (omega (arith, same)))

-- as many of each are left where one of each goes
pub lengths_before : {A B : Type 0} (xs : List A) (ys : List B) (x : A) (y : B) → length (xs ++ x ∷ []) ≡ length (ys ++ y ∷ []) → length xs ≡ length ys
lengths_before xs ys x y same = omega (arith, same, length-append xs (x ∷ []), length-append ys (y ∷ []))

-- the last of each
pub last_entries : {R : Type 0} (versions : List Version) (records : List R) → length versions ≡ length records → last_alone (entries_of versions records) ≡ entries_of (last_alone versions) (last_alone records)
last_entries [] [] same = refl
last_entries [] (r ∷ records) same = absurd (omega (arith, same))
last_entries (v ∷ versions) [] same = absurd (omega (arith, same))
last_entries (v ∷ []) (r ∷ []) same = refl
last_entries (v ∷ []) (r ∷ s ∷ records) same = absurd (omega (arith, same))
last_entries (v ∷ w ∷ versions) (r ∷ []) same = absurd (omega (arith, same))
last_entries (v ∷ w ∷ versions) (r ∷ s ∷ records) same = last_entries (w ∷ versions) (s ∷ records) (omega (arith, same))

-- the last item, by its place
pub last_got : {A : Type 0} (xs : List A) (d : A) → 0 < length xs → last_alone xs ≡ get_or xs (length xs - 1) d ∷ []
last_got [] d some = absurd (omega arith)
last_got (a ∷ []) d some = refl
last_got (a ∷ b ∷ xs) d some =
    let place : length (a ∷ b ∷ xs) - 1 ≡ suc (length (b ∷ xs) - 1) = omega arith in
    last_got (b ∷ xs) d (omega arith) ∙ ap (λ (k : ℕ). get_or (a ∷ b ∷ xs) k d ∷ []) (sym place)

-- the last entry, by its place
pub last_entry : {R : Type 0} (versions : List Version) (records : List R) (entry : R) → length versions ≡ length records → 0 < length records → entry ≡ get_or records (length records - 1) entry
    → last_alone (entries_of versions records) ≡ record { version = get_or versions (length records - 1) First; value = entry } ∷ []
last_entry versions records entry same some got =
    let version : last_alone versions ≡ get_or versions (length records - 1) First ∷ [] = last_got versions First (omega (arith, same, some)) ∙ ap (λ (n : ℕ). get_or versions (n - 1) First ∷ []) same in
    let value : last_alone records ≡ entry ∷ [] = last_got records entry some ∙ ap (λ e. e ∷ []) (sym got) in
    last_entries versions records same ∙ rw (version, value) refl

-- its payload
pub last_payload : {R : Type 0} (spelling : R → List ℕ) (versions : List Version) (records : List R) (entry : R) → length versions ≡ length records → 0 < length records → entry ≡ get_or records (length records - 1) entry
    → AreRight (map (entry_frame spelling) (entries_of versions records)) → IsPayload (spelling entry)
last_payload spelling versions records entry same some got right =
    let last = rw (last_entry versions records entry same some got) at (right_last (entry_frame spelling) (entries_of versions records) right) in
    frame_in_payload (get_or versions (length records - 1) First) (spelling entry) last.are_frames.0

-- no journal ends with a checkpoint that has no record
pub ends_with_some : {R : Type 0} (P : R → Type 0) (records : List R) → EndsWith P records → 0 < length records
ends_with_some P [] ends = absurd ends
ends_with_some P (r ∷ records) ends = omega arith

pub some_values : {R : Type 0} (versions : List Version) (records : List R) → 0 < length (values (entries_of versions records)) → 0 < length records
some_values [] records some = absurd (omega arith)
some_values (v ∷ versions) [] some = absurd (omega arith)
some_values (v ∷ versions) (r ∷ records) some = omega arith

pub some_entries : {R : Type 0} (spelling : R → List ℕ) (versions : List Version) (records : List R) → 0 < spelled_size (entry_frame spelling) (entries_of versions records) → (0 < length versions) × (0 < length records)
some_entries spelling [] records some = absurd (omega arith)
some_entries spelling (v ∷ versions) [] some = absurd (omega arith)
some_entries spelling (v ∷ versions) (r ∷ records) some = (omega arith, omega arith)

-- the frame that was got is that of its payload in its version
pub got_frame : (fs : List Frame) (i : ℕ) (payload : List ℕ) (version : Version) (g : Got fs i payload version) → AreRight fs → frame_in version payload ≡ g.frame
got_frame fs i payload version g right =
    ap (λ (v : Version). frame_in v payload) (sym g.version_is) ∙ ap (frame_in (version_of g.frame)) (sym g.payload_is) ∙ right_again g.frame (right_at fs i g.frame right g.here).1

pub length-entries : {R : Type 0} (versions : List Version) (records : List R) → length versions ≡ length records → length (entries_of versions records) ≡ length records
length-entries [] [] same = refl
length-entries [] (r ∷ records) same = absurd (omega (arith, same))
length-entries (v ∷ versions) [] same = absurd (omega (arith, same))
length-entries (v ∷ versions) (r ∷ records) same = omega (arith, length-entries versions records (omega (arith, same)))
