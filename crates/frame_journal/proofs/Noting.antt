-- One more entry of a journal, on its disk and in its fields.
use Rattle.std.proofs.Common.{◌≡◌, ℕ, ◌+◌, ◌-◌, ◌≤◌, Bool, false, ltb, List, [], ◌∷◌, ◌++◌, length, Result, Ok, Err, OnOk, OnErr, IsTrue, refl, sym, ◌∙◌, arith}
use Rattle.std.proofs.lemmas.Bool.{le-ltb}
use Rattle.std.proofs.lemmas.Result.{on_ok_weaker, on_err_weaker}
use Rattle.journal_disk.specs.Disk.{Seen, appended, AppendsSome}
use Rattle.journal_disk.specs.Frames.{IsPayload, frame}
use Rattle.journal_disk.specs.declared.frames.Version.{Version}
use Rattle.journal_disk.specs.declared.frames.Version.TheVariants.{Second}
use Rattle.journal_disk.proofs.ForCallers.{written_is_frame}
use Rattle.frame_journal.specs.Records.{as_written, entry_frame, entries_of, spelled_size}
use Rattle.frame_journal.specs.Journal.{Kept, IsKeptOn, HasRoom, with_entry, with_room_used, written_size}
use Rattle.frame_journal.proofs.Entries.{entries_push}
use Rattle.frame_journal.proofs.Keeping.{not_torn, some_appended, note_whole, note_torn}
use Rattle.frame_journal.proofs.Sizes.{spelled_size_push}

-- what holds anyway holds of each answer
pub on_ok : {T E : Type 0} (r : Result T E) (P : Type 0) → P → OnOk r P
on_ok (Ok x) P p = p
on_ok (Err x) P p = tt

pub on_err : {T E : Type 0} (r : Result T E) (P : Type 0) → P → OnErr r P
on_err (Ok x) P p = tt
on_err (Err x) P p = p

module _ {R T E : Type 0} (spelling : R → List ℕ) (tells : Bool) (old new : Seen) (journal : Kept R) (entry : R) (r : Result T E)
    (kept : IsKeptOn spelling tells old journal) (untorn : journal.is_torn ≡ false) (room : HasRoom (written_size spelling entry) journal) (fits : IsPayload (spelling entry))
    (ok : OnOk r (IsTrue tells → new.image ≡ appended (frame (spelling entry)) old.image)) (err : OnErr r (IsTrue tells → AppendsSome (frame (spelling entry)) old.image new.image))
    (told_old : IsTrue tells → length old.image.bytes ≡ old.size) (told_new : IsTrue tells → length new.image.bytes ≡ new.size)
    (spare : old.spare ≤ new.spare + written_size spelling entry) (grows : old.size ≤ new.size) where
  -- nothing stands behind the frames
  pub full : old.size ≤ spelled_size (entry_frame spelling) journal.entries
  full = not_torn journal.is_torn (spelled_size (entry_frame spelling) journal.entries) old.size kept.is_torn untorn

  some : IsTrue tells → AppendsSome (frame (spelling entry)) old.image new.image
  some told = some_appended r (frame (spelling entry)) old.image new.image (on_ok_weaker r (λ h. h told) ok) (on_err_weaker r (λ h. h told) err)

  -- the whole frame is there
  pub note_keeps : new.size ≡ spelled_size (entry_frame spelling) journal.entries + written_size spelling entry → IsKeptOn spelling tells new (with_entry spelling entry journal)
  note_keeps size =
      let more = spelled_size_push (entry_frame spelling) journal.entries (as_written entry) in
      record {
        records = λ told. note_whole (entry_frame spelling) old.image new.image journal.entries (as_written entry) (kept.records told) (omega (arith, full, told_old told)) (written_is_frame (spelling entry) fits) refl (some told) (omega (arith, size, told_new told));
        whole = omega (arith, more, size);
        is_torn = untorn ∙ sym (le-ltb _ _ (omega (arith, more, size)));
        room = omega (arith, kept.room, room, spare);
      }

  -- a part of it is there
  pub note_tears : (is_torn : Bool) → is_torn ≡ ltb (spelled_size (entry_frame spelling) journal.entries) new.size → (new.size ≡ spelled_size (entry_frame spelling) journal.entries + written_size spelling entry → ⊥)
      → IsKeptOn spelling tells new (record (with_room_used (written_size spelling entry) journal) { is_torn = is_torn })
  note_tears is_torn torn fewer = record {
    records = λ told. note_torn (entry_frame spelling) old.image new.image journal.entries (as_written entry) (kept.records told) (omega (arith, full, told_old told)) (written_is_frame (spelling entry) fits) refl (some told) (λ e. fewer (sym (told_new told) ∙ e));
    whole = omega (arith, kept.whole, grows);
    is_torn = torn;
    room = omega (arith, kept.room, room, spare);
  }

-- the fields of a journal with one more entry
pub noted_view : {R : Type 0} (spelling : R → List ℕ) (versions versions2 : List Version) (records records2 : List R) (entry : R) (is_torn : Bool) (places room bytes : ℕ)
    → versions2 ≡ versions ++ Second ∷ [] → records2 ≡ records ++ entry ∷ [] → length versions ≡ length records → bytes ≡ written_size spelling entry
    → ◌≡◌ {A = Kept R} (record { entries = entries_of versions2 records2; is_torn = is_torn; places = places - 1; room = room - bytes })
    (with_entry spelling entry (record { entries = entries_of versions records; is_torn = is_torn; places = places; room = room }))
noted_view spelling versions versions2 records records2 entry is_torn places room bytes v r same size = rw (v, r, entries_push versions records Second entry same, size) refl
