-- A journal of which the last entry alone is left, on its disk and in its fields.
use Rattle.std.proofs.Common.{◌≡◌, ℕ, ◌+◌, ◌≤◌, Bool, ltb, List, [], ◌∷◌, ◌++◌, length, IsTrue, refl, sym, ◌∙◌, arith, inl, inr}
use Rattle.std.proofs.lemmas.Bool.{cases_lt, le-ltb, lt-ltb}
use Rattle.journal_disk.specs.Disk.{Seen, trimmed_to}
use Rattle.journal_disk.specs.declared.frames.Version.{Version}
use Rattle.frame_journal.specs.Records.{Entry, as_written, before_last, entries_of, entry_frame, last_alone, spelled_size, values}
use Rattle.frame_journal.specs.Journal.{EndsWith, IsKeptOn, Kept}
use Rattle.frame_journal.proofs.Entries.{last_entries}
use Rattle.frame_journal.proofs.Keeping.{trim_keeps}
use Rattle.frame_journal.proofs.Sizes.{size_split}

-- a test is that of what is left on both sides
pub lt_shift : (k a b : ℕ) → ltb (k + a) (k + b) ≡ ltb a b
lt_shift k a b =
    elim (cases_lt a b) [
      | inl less ↦ lt-ltb _ _ (omega (arith, less)) ∙ sym (lt-ltb _ _ less)
      | inr more ↦ le-ltb _ _ (omega (arith, more)) ∙ sym (le-ltb _ _ more)
    ]

pub trim_is_kept : {R : Type 0} (spelling : R → List ℕ) (tells : Bool) (old new : Seen) (journal : Kept R) → IsKeptOn spelling tells old journal
    → (IsTrue tells → new.image ≡ trimmed_to (spelled_size (entry_frame spelling) (before_last journal.entries)) old.image) → new.size + spelled_size (entry_frame spelling) (before_last journal.entries) ≡ old.size → old.spare ≤ new.spare
    → IsKeptOn spelling tells new (record journal { entries = last_alone journal.entries })
trim_is_kept spelling tells old new journal kept image size spare =
    let shape = entry_frame spelling in
    let front = spelled_size shape (before_last journal.entries) in
    let last = spelled_size shape (last_alone journal.entries) in
    let all : spelled_size shape journal.entries ≡ front + last = size_split shape journal.entries in
    let there : old.size ≡ front + new.size = omega (arith, size) in
    let torn : ltb (spelled_size shape journal.entries) old.size ≡ ltb last new.size = rw (all, there) (lt_shift front last new.size) in
    record {
      records = λ told. trim_keeps shape old.image new.image journal.entries (kept.records told) (image told);
      whole = omega (arith, all, size, kept.whole);
      is_torn = kept.is_torn ∙ torn;
      room = omega (arith, kept.room, spare);
    }

-- the fields of a journal of which the last entry is left
pub trimmed_entries : {R : Type 0} (versions versions2 : List Version) (records records2 : List R) → length versions ≡ length records → versions2 ≡ last_alone versions → records2 ≡ last_alone records
    → entries_of versions2 records2 ≡ last_alone (entries_of versions records)
trimmed_entries versions versions2 records records2 same v r = rw (v, r) (sym (last_entries versions records same))

pub trimmed_view : {R : Type 0} (entries entries2 : List (Entry R)) (is_torn : Bool) (places room : ℕ) → entries2 ≡ entries
    → ◌≡◌ {A = Kept R} (record { entries = entries2; is_torn = is_torn; places = places; room = room }) (record { entries = entries; is_torn = is_torn; places = places; room = room })
trimmed_view entries entries2 is_torn places room e = rw e refl

-- a journal ends with the record that was written last
pub ends_with_last : {R : Type 0} (P : R → Type 0) (entries : List (Entry R)) (entry : R) → P entry → EndsWith P (values (entries ++ as_written entry ∷ []))
ends_with_last P [] entry holds = holds
ends_with_last P (a ∷ []) entry holds = holds
ends_with_last P (a ∷ b ∷ entries) entry holds = ends_with_last P (b ∷ entries) entry holds
