-- What a store stands for after a trim, and a new one.
use Rattle.std.proofs.Common.{◌≡◌, ℕ, ◌+◌, ◌-◌, ◌≤◌, Bool, IsTrue, Option, None, List, [], ◌∷◌, ◌++◌, length, map, take, refl, sym, ap, subst, ◌∙◌, arith, Some}
use Rattle.std.specs.Prelude.{reverse}
use Rattle.std.specs.List.{AllByRecursion}
use Rattle.std.proofs.lemmas.List.{map_push, reverse-append, take_all}
use Rattle.fed_rules.specs.Disk.{TrimFront, Disk, before_last as before_newest, bytes_of, after_call}
use Rattle.fed_rules.specs.Happenings.{Trip}
use Rattle.journal_disk.specs.Disk.{Image, Seen, kept_bytes, trimmed_to}
use Rattle.journal_disk.specs.Frames.{frames_size}
use Rattle.frame_journal.specs.Journal.{Kept, EndsWith, IsKeptOn}
use Rattle.frame_journal.specs.Records.{Entry, as_written, before_last, entry_frame, last_alone, spelled_size, values}
use Rattle.frame_journal.proofs.ForCallers.{size_split}
use Rattle.journal_rules.specs.Stands.{CountsFrames, StandsFor}
use Rattle.journal_rules.specs.Torn.{IsTornBy}
use Rattle.journal_rules.proofs.ForCallers.{before_last_push, bytes_of_append, call_stands, call_torn, journal_is, sizes_agree, written_frames}
use Rattle.actor_store.specs.declared.store.Standing.{Standing}
use Rattle.actor_store.specs.declared.store.Standing.TheVariants.{Up, Down, Failing}
use Rattle.actor_store.specs.Store.{Stored, IsInOrder, Keeps, is_failing, taken_as, stopped_disk}
use Rattle.actor_store.proofs.CutLaws.{whole_is}
use Rattle.actor_store.proofs.StoreLaws.{built, failing_keeps, sizes, sound_stands, sound_torn, taken_sound}

values_last : {R : Type 0} (P : R → Type 0) (entries : List (Entry R)) → AllByRecursion P (values entries) → AllByRecursion P (values (last_alone entries))
values_last P [] all = all
values_last P (a ∷ []) all = all
values_last P (a ∷ b ∷ entries) all = values_last P (b ∷ entries) all.1

-- the newest record, where there is one
record Newest {R : Type 0} (newer : List R) : Type 0 where
  newest : R
  rest : List R
  parts : newer ≡ newest ∷ rest

some_newest : {R : Type 0} (P : R → Type 0) (newer : List R) → EndsWith P (values (map as_written (reverse newer))) → Newest newer
some_newest P [] ends = absurd ends
some_newest P (newest ∷ rest) ends = record { newest = newest; rest = rest; parts = refl }

before_written : {R : Type 0} (newest : R) (rest : List R) → before_last (map as_written (reverse (newest ∷ rest))) ≡ map as_written (reverse rest)
before_written {R} newest rest =
    let turned : reverse (newest ∷ rest) ≡ reverse rest ++ newest ∷ [] = reverse-append (newest ∷ []) rest in
    ap (λ (l : List R). before_last (map as_written l)) turned ∙ ap before_last (map_push (as_written {R = R}) (reverse rest) newest) ∙ before_last_push (map as_written (reverse rest)) (as_written newest)

module _ {R : Type 0} (spelling : R → List ℕ) (reading : List ℕ → Option R) (is_record : R → Type 0) (frame_bytes : R → ℕ) (counts : CountsFrames spelling frame_bytes) (again : (entry : R) → is_record entry → reading (spelling entry) ≡ Some entry) (tells : Bool) (told : IsTrue tells) where
  -- where the last record's frame begins
  pub front_is : (P : R → Type 0) (seen : Seen) (store : Stored R) (rules : Disk R) (trip : Option Trip) → Keeps spelling is_record frame_bytes tells seen store rules trip → EndsWith P (values store.journal.entries)
      → bytes_of frame_bytes (before_newest rules.records) ≡ rules.trimmed + spelled_size (entry_frame spelling) (before_last store.journal.entries)
  front_is P seen store rules trip k ends =
      let s = k.stands in
      let entries : store.journal.entries ≡ map as_written (reverse s.newer) = k.records ∙ ap (λ (l : List R). map as_written (reverse l)) (journal_is spelling frame_bytes counts (taken_as store.standing seen.image) rules s) in
      let n = some_newest P s.newer (subst (λ (l : List (Entry R)). EndsWith P (values l)) entries ends) in
      let records : rules.records ≡ n.newest ∷ (n.rest ++ s.older) = s.parts ∙ ap (λ (l : List R). l ++ s.older) n.parts in
      let before : before_last store.journal.entries ≡ map as_written (reverse n.rest) = ap before_last entries ∙ ap (λ (l : List R). before_last (map as_written (reverse l))) n.parts ∙ before_written n.newest n.rest in
      let size : spelled_size (entry_frame spelling) (before_last store.journal.entries) ≡ bytes_of frame_bytes n.rest =
      ap (spelled_size (entry_frame spelling)) before ∙ ap frames_size (written_frames spelling (reverse n.rest)) ∙ sizes_agree spelling frame_bytes counts n.rest in
      let bytes : bytes_of frame_bytes (before_newest rules.records) ≡ bytes_of frame_bytes n.rest + bytes_of frame_bytes s.older = ap (λ (l : List R). bytes_of frame_bytes (before_newest l)) records ∙ bytes_of_append frame_bytes n.rest s.older in
      let border = s.border in
      omega (arith, size, bytes, border)

  -- a trim that was done
  pub trim_keeps : (P : R → Type 0) (old new : Seen) (store : Stored R) (journal : Kept R) (rules : Disk R) (trip : Option Trip) → length old.image.bytes ≡ old.size
      → Keeps spelling is_record frame_bytes tells old store rules trip → store.standing ≡ Up → rules.synced ≡ rules.length → EndsWith P (values store.journal.entries)
      → IsKeptOn spelling tells new journal → journal ≡ record store.journal { entries = last_alone store.journal.entries }
      → (IsTrue tells → new.image ≡ trimmed_to (spelled_size (entry_frame spelling) (before_last store.journal.entries)) old.image)
      → Keeps spelling is_record frame_bytes tells new (record { journal = journal; trip = store.trip; standing = store.standing }) (after_call frame_bytes rules TrimFront) trip
  trim_keeps P old new store journal rules trip sized k up synced ends kept_on left images =
      let here = sound_stands spelling reading is_record frame_bytes counts again tells told old store rules trip k (ap is_failing up) in
      let n = sizes spelling reading is_record frame_bytes counts again old.image rules here in
      let front = front_is P old store rules trip k ends in
      let all = whole_is spelling reading is_record frame_bytes counts again tells told old store rules trip k in
      let split = size_split (entry_frame spelling) store.journal.entries in
      let at_most = k.kept_on.whole in
      let place : bytes_of frame_bytes (before_newest rules.records) - rules.trimmed ≡ spelled_size (entry_frame spelling) (before_last store.journal.entries) = omega (arith, front) in
      let upper : bytes_of frame_bytes (before_newest rules.records) ≤ rules.synced = omega (arith, front, all, split, at_most, n.0, sized, synced) in
      let after = after_call frame_bytes rules TrimFront in
      let lower : rules.trimmed ≤ bytes_of frame_bytes (before_newest rules.records) = omega (arith, front) in
      let now = call_stands spelling frame_bytes counts old.image rules TrimFront here (lower, upper) in
      let e : new.image ≡ trimmed_to (bytes_of frame_bytes (before_newest rules.records) - rules.trimmed) old.image = images told ∙ ap (λ (m : ℕ). trimmed_to m old.image) (sym place) in
      let stands : StandsFor spelling frame_bytes new.image after = rw e now in
      let sees : taken_as store.standing new.image ≡ new.image = taken_sound store.standing new.image (ap is_failing up) in
      let there : IsTornBy spelling is_record frame_bytes (taken_as store.standing new.image) after =
      subst (λ (i : Image). IsTornBy spelling is_record frame_bytes i after) (sym (sees ∙ e))
      (call_torn spelling frame_bytes counts is_record old.image rules TrimFront here (lower, upper) (sound_torn spelling reading is_record frame_bytes counts again tells told old store rules trip k (ap is_failing up))) in
      let listed : journal.entries ≡ last_alone store.journal.entries = ap (λ j. j.entries) left in
      let entries : AllByRecursion is_record (values journal.entries) = rw listed (values_last is_record store.journal.entries k.are_records) in
      built spelling reading is_record frame_bytes counts again tells told new journal store.standing store.trip after trip kept_on (rw sees stands) there entries k.written upper k.trip k.armed (in_order store.standing up k.in_order)
    where
      in_order : (standing : Standing) → standing ≡ Up → IsInOrder standing store.journal rules → IsInOrder standing journal (after_call frame_bytes rules TrimFront)
      in_order Up e o = ap (λ j. j.is_torn) left ∙ o
      in_order Down e o = absurd cc
      in_order Failing e o = absurd cc

  -- a trim that failed
  pub trim_fails : (old new : Seen) (store : Stored R) (journal : Kept R) (rules : Disk R) (trip : Option Trip)
      → Keeps spelling is_record frame_bytes tells old store rules trip → store.standing ≡ Up → rules.synced ≡ rules.length
      → IsKeptOn spelling tells new journal → journal ≡ store.journal → (IsTrue tells → new.image ≡ old.image)
      → (n : ℕ) × (cut : ℕ) × Keeps spelling is_record frame_bytes tells new (record { journal = journal; trip = None; standing = Failing }) (stopped_disk frame_bytes n cut rules (TrimFront ∷ [])) None
  trim_fails old new store journal rules trip k up synced kept_on same images =
      let here = sound_stands spelling reading is_record frame_bytes counts again tells told old store rules trip k (ap is_failing up) in
      let n = sizes spelling reading is_record frame_bytes counts again old.image rules here in
      let all : old.image.synced ≡ length old.image.bytes = omega (arith, n.0, n.1, synced) in
      let bytes : new.image.bytes ≡ take (kept_bytes 0 old.image) old.image.bytes = ap (λ (x : Image). x.bytes) (images told) ∙ sym (take_all (kept_bytes 0 old.image) old.image.bytes (omega (arith, all))) in
      let entries : AllByRecursion is_record (values journal.entries) = rw same k.are_records in
      let there = sound_torn spelling reading is_record frame_bytes counts again tells told old store rules trip k (ap is_failing up) in
      (0, 0, failing_keeps spelling reading is_record frame_bytes counts again tells told new journal old.image rules 0 here there k.front bytes k.written kept_on entries)

  -- how many bytes a trim needs to be synced
  pub all_synced_there : (seen : Seen) (store : Stored R) (rules : Disk R) (trip : Option Trip) → length seen.image.bytes ≡ seen.size → Keeps spelling is_record frame_bytes tells seen store rules trip → store.standing ≡ Up → rules.synced ≡ rules.length
      → spelled_size (entry_frame spelling) store.journal.entries ≤ seen.image.synced
  all_synced_there seen store rules trip sized k up synced =
      let here = sound_stands spelling reading is_record frame_bytes counts again tells told seen store rules trip k (ap is_failing up) in
      let n = sizes spelling reading is_record frame_bytes counts again seen.image rules here in
      let at_most = k.kept_on.whole in
      omega (arith, n.0, n.1, synced, sized, at_most)
