-- The last record goes, and its version with it.
use Rattle.std.proofs.Common.{◌≡◌, ℕ, ◌<◌, List, [], ◌∷◌, ◌++◌, length, map, sym, ap, ◌∙◌}
use Rattle.journal_disk.specs.declared.frames.Version.{Version}
use Rattle.journal_disk.specs.Frames.{AreRight}
use Rattle.frame_journal.specs.Records.{Entry, entries_of, entry_frame, records_within, spelled_size}
use Rattle.frame_journal.proofs.Entries.{entries_push, lengths_before}
use Rattle.frame_journal.proofs.Within.{LastGoes, last_goes}

pub record Popped {R : Type 0} (spelling : R → List ℕ) (left whole : ℕ) (first : List (Entry R)) (versions : List Version) (records : List R) (version : Version) (entry : R) : Type 0 where
  pub side_by_side : length versions ≡ length records
  pub goes : LastGoes (entry_frame spelling) left whole first (entries_of versions records) (record { version = version; value = entry })

pub popped : {R : Type 0} (spelling : R → List ℕ) (left whole : ℕ) (first : List (Entry R)) (old_versions : List Version) (old_records : List R) (versions : List Version) (records : List R) (version : Version) (entry : R)
    → old_versions ≡ versions ++ version ∷ [] → old_records ≡ records ++ entry ∷ [] → length old_versions ≡ length old_records → left < whole
    → records_within (entry_frame spelling) left (entries_of old_versions old_records) ≡ records_within (entry_frame spelling) left first → whole ≡ spelled_size (entry_frame spelling) (entries_of old_versions old_records)
    → AreRight (map (entry_frame spelling) (entries_of old_versions old_records)) → Popped spelling left whole first versions records version entry
popped spelling left whole first old_versions old_records versions records version entry v r sides few same size right =
    let before = lengths_before versions records version entry (sym (ap length v) ∙ sides ∙ ap length r) in
    let parts : entries_of old_versions old_records ≡ entries_of versions records ++ record { version = version; value = entry } ∷ [] = rw (v, r) (entries_push versions records version entry before) in
    record {
      side_by_side = before;
      goes = last_goes (entry_frame spelling) left whole first (entries_of old_versions old_records) (entries_of versions records) (record { version = version; value = entry }) parts few same size right;
    }
