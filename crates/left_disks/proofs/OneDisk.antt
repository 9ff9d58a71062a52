-- One disk that holds what the rules say: its bytes are read as the records that stand there, and as nothing else.
use Rattle.std.proofs.Common.{◌≡◌, ℕ, ◌+◌, ◌-◌, Some, Option, Ok, Err, List, [], map, reverse, refl, sym, ◌∙◌, ap, ap₂, subst, arith}
use Rattle.std.specs.Prelude.{slice_get}
use Rattle.std.specs.List.{AllByRecursion}
use Rattle.std.proofs.lemmas.List.{reverse-reverse}
use Rattle.fed_rules.specs.Disk.{Disk, bytes_of, journal}
use Rattle.fed_rules.specs.Found.{Journal}
use Rattle.fed_rules.specs.Resumed as Rules
use Rattle.journal_disk.specs.Disk.{Image}
use Rattle.journal_disk.specs.Frames.{AreWhole, frames_size}
use Rattle.frame_journal.specs.Journal.{Kept, records}
use Rattle.frame_journal.specs.Records.{AreRecordsOf, Entry, as_written, entry_frame, spelled_size, values}
use Rattle.frame_journal.proofs.ForCallers.{none_is_part, one_list, records_again}
use Rattle.journal_rules.specs.Stands.{CountsFrames}
use Rattle.journal_rules.proofs.ForCallers.{all_reverse, sizes_agree, written_frames, written_values}
use Rattle.found_disks.specs.Finding.{journal_on, torn_behind}
use Rattle.found_disks.specs.Reading.{IsDamagedAt, IsReadFrom}
use Rattle.held_disks.specs.Holding.{HoldsRecords}

-- what was trimmed ends where a frame ends: behind it stand the bytes of the records that stand
abbrev pub IsTrimmedWell : {R : Type 0} → (R → ℕ) → Disk R → Type 0
IsTrimmedWell size rules = bytes_of size rules.records ≡ rules.trimmed + bytes_of size (journal size rules)

module _ {R : Type 0} (spelling : R → List ℕ) (reading : List ℕ → Option R) (is_record : R → Type 0) (size : R → ℕ) (counts : CountsFrames spelling size) (again : (entry : R) → is_record entry → reading (spelling entry) ≡ Some entry) where
  module _ (image : Image) (rules : Disk R) (holds : HoldsRecords spelling is_record size image rules) where
    -- those that stand, the oldest first
    abbrev pub those : List R
    those = reverse (journal size rules)

    pub all_those : AllByRecursion is_record (values (map as_written those))
    all_those = subst (AllByRecursion is_record) (sym (written_values those)) (all_reverse is_record (journal size rules) holds.format)

    pub whole_there : AreRecordsOf (entry_frame spelling) image.bytes (map as_written those)
    whole_there = subst (AreWhole image.bytes) (sym (written_frames spelling those)) holds.bytes.records

    -- it isn't damaged
    pub undamaged : (at : ℕ) → IsDamagedAt reading at image.bytes → ⊥
    undamaged at damaged =
        let all = records_again spelling reading is_record again 0 (map as_written those) all_those in
        let stops = damaged.malformed (map (entry_frame spelling) (map as_written those)) whole_there in
        let never : Ok (map as_written those) ≡ Err at = sym all ∙ stops in
        cc

    module _ (kept : Kept R) (read : IsReadFrom spelling is_record kept image.bytes) where
      entries_are : kept.entries ≡ map as_written those
      entries_are = one_list spelling reading is_record again image.bytes kept.entries (map as_written those) read.are_records all_those read.whole whole_there

      -- the records that are read stand there
      pub records_are : records kept ≡ reverse (journal size rules)
      records_are = ap (λ (entries : List (Entry R)). values entries) entries_are ∙ written_values those

      size_is : spelled_size (entry_frame spelling) kept.entries ≡ bytes_of size (journal size rules)
      size_is =
          ap (λ (entries : List (Entry R)). spelled_size (entry_frame spelling) entries) entries_are ∙ ap frames_size (written_frames spelling those)
          ∙ sizes_agree spelling size counts (journal size rules)

      -- and behind them the rest of the frame that a stop tore
      rest_is : IsTrimmedWell size rules → torn_behind spelling kept.entries (Some image) ≡ rules.length - bytes_of size rules.records
      rest_is well = let long = holds.bytes.bytes in omega (arith, size_is, well, long)

      pub journal_is : IsTrimmedWell size rules → (images : List Image) (number : ℕ) → slice_get images number ≡ Some image
          → journal_on spelling images number kept ≡ Rules.journal_on size rules
      journal_is well images number at =
          ap₂ (λ (rs : List R) (torn : ℕ). let j : Journal R = record { records = rs; torn = torn } in j)
          (ap reverse records_are ∙ reverse-reverse (journal size rules)) (ap (torn_behind spelling kept.entries) at ∙ rest_is well)

  -- a disk without bytes is read as no record, and isn't damaged
  pub none_there : (bytes : List ℕ) → bytes ≡ [] → AreRecordsOf (entry_frame spelling) bytes []
  none_there bytes e =
      subst (λ (bs : List ℕ). AreRecordsOf (entry_frame spelling) bs []) (sym e) (record { right = record { are_frames = tt; are_right = tt }; rest = []; parts = refl; is_torn = none_is_part })

  pub none_read : (bytes : List ℕ) → bytes ≡ [] → (kept : Kept R) → IsReadFrom spelling is_record kept bytes → records kept ≡ []
  none_read bytes e kept read =
      ap (λ (entries : List (Entry R)). values entries) (one_list spelling reading is_record again bytes kept.entries [] read.are_records tt read.whole (none_there bytes e))

  pub none_damaged : (bytes : List ℕ) → bytes ≡ [] → (at : ℕ) → IsDamagedAt reading at bytes → ⊥
  none_damaged bytes e at damaged = let never : Ok [] ≡ Err at = damaged.malformed [] (none_there bytes e) in cc
