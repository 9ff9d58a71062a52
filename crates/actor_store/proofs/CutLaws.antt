-- What a store stands for after a cut back.
use Rattle.std.proofs.Common.{◌≡◌, ℕ, ◌+◌, ◌-◌, ◌≤◌, Bool, false, IsTrue, Option, None, List, [], ◌∷◌, length, take, refl, sym, ap, ap₂, subst, ◌∙◌, arith, inl, inr, Some}
use Rattle.std.proofs.lemmas.Bool.{ltb-false}
use Rattle.std.proofs.lemmas.List.{take_all}
use Rattle.fed_rules.specs.Disk.{CutBack, Disk, bytes_of, after_call}
use Rattle.fed_rules.specs.Happenings.{Trip}
use Rattle.journal_disk.specs.Disk.{Image, Seen, cut_to, kept_bytes, synced_bytes, CutsOrNot}
use Rattle.frame_journal.specs.Journal.{Kept, IsKeptOn}
use Rattle.frame_journal.specs.Records.{AreRecordsOf, entry_frame, spelled, spelled_size, values}
use Rattle.std.specs.List.{AllByRecursion}
use Rattle.frame_journal.proofs.ForCallers.{cut_image}
use Rattle.journal_rules.specs.Stands.{CountsFrames, StandsFor}
use Rattle.journal_rules.specs.Torn.{IsTornBy}
use Rattle.journal_rules.proofs.ForCallers.{call_stands, call_torn, whole_follows}
use Rattle.actor_store.specs.declared.store.Standing.TheVariants.{Up, Down, Failing}
use Rattle.actor_store.specs.Store.{Stored, Keeps, is_failing, is_up, taken_as, stopped_disk}
use Rattle.actor_store.proofs.StoreLaws.{built, failing_keeps, kept_taken, settled, sizes, sound_stands, sound_torn, taken, taken_bytes}

module _ {R : Type 0} (spelling : R → List ℕ) (reading : List ℕ → Option R) (is_record : R → Type 0) (frame_bytes : R → ℕ) (counts : CountsFrames spelling frame_bytes) (again : (entry : R) → is_record entry → reading (spelling entry) ≡ Some entry) (tells : Bool) (told : IsTrue tells) where
  -- the bytes of all records' frames, and of those that stand
  pub whole_is : (seen : Seen) (store : Stored R) (rules : Disk R) (trip : Option Trip) → Keeps spelling is_record frame_bytes tells seen store rules trip → bytes_of frame_bytes rules.records ≡ rules.trimmed + spelled_size (entry_frame spelling) store.journal.entries
  whole_is seen store rules trip k =
      whole_follows spelling frame_bytes counts tells (taken store.standing seen) store.journal rules told (kept_taken spelling tells store.standing seen store.journal k.kept_on) k.stands

  -- a cut back of the bytes that are taken as synced
  cut_is : (seen : Seen) (store : Stored R) (rules : Disk R) (trip : Option Trip) → Keeps spelling is_record frame_bytes tells seen store rules trip
      → cut_to (bytes_of frame_bytes rules.records - rules.trimmed) (taken_as store.standing seen.image) ≡ synced_bytes (spelled (entry_frame spelling) store.journal.entries)
  cut_is seen store rules trip k =
      let i = taken_as store.standing seen.image in
      let n = bytes_of frame_bytes rules.records - rules.trimmed in
      let counted : n ≡ spelled_size (entry_frame spelling) store.journal.entries = omega (arith, whole_is seen store rules trip k) in
      let same = taken_bytes store.standing seen.image in
      let holds : AreRecordsOf (entry_frame spelling) i.bytes store.journal.entries = rw same (k.kept_on.records told) in
      cut_image (entry_frame spelling) i (cut_to n i) store.journal.entries n holds counted refl

  -- a cut back that was done
  pub cut_keeps : (old new : Seen) (store : Stored R) (journal : Kept R) (rules : Disk R) (trip : Option Trip)
      → Keeps spelling is_record frame_bytes tells old store rules trip
      → IsKeptOn spelling tells new journal → journal.entries ≡ store.journal.entries → journal.is_torn ≡ false
      → (IsTrue tells → new.image ≡ synced_bytes (spelled (entry_frame spelling) store.journal.entries))
      → Keeps spelling is_record frame_bytes tells new (record { journal = journal; trip = store.trip; standing = Up }) (after_call frame_bytes rules CutBack) trip
  cut_keeps old new store journal rules trip k kept_on listed torn images =
      let i = taken_as store.standing old.image in
      let n = bytes_of frame_bytes rules.records - rules.trimmed in
      let e : new.image ≡ cut_to n i = images told ∙ sym (cut_is old store rules trip k) in
      let stands : StandsFor spelling frame_bytes new.image (after_call frame_bytes rules CutBack) = rw e (call_stands spelling frame_bytes counts i rules CutBack k.stands tt) in
      let there : IsTornBy spelling is_record frame_bytes new.image (after_call frame_bytes rules CutBack) =
      subst (λ (j : Image). IsTornBy spelling is_record frame_bytes j (after_call frame_bytes rules CutBack)) (sym e) (call_torn spelling frame_bytes counts is_record i rules CutBack k.stands tt k.torn) in
      built spelling reading is_record frame_bytes counts again tells told new journal Up store.trip (after_call frame_bytes rules CutBack) trip kept_on stands there (rw listed k.are_records) k.written (omega (arith, whole_is old store rules trip k)) k.trip k.armed torn

  -- where nothing is torn and all is synced, a cut back changes nothing
  pub cut_same : (seen : Seen) (store : Stored R) (rules : Disk R) (trip : Option Trip) → length seen.image.bytes ≡ seen.size → Keeps spelling is_record frame_bytes tells seen store rules trip
      → is_up store.standing ≡ false → store.journal.is_torn ≡ false → after_call frame_bytes rules CutBack ≡ rules
  cut_same seen store rules trip sized k stopped torn =
      let n = sizes spelling reading is_record frame_bytes counts again (taken_as store.standing seen.image) rules k.stands in
      let long = ap length (taken_bytes store.standing seen.image) in
      let at_most = k.kept_on.whole in
      let no_more : seen.size ≤ spelled_size (entry_frame spelling) store.journal.entries = ltb-false _ _ (sym k.kept_on.is_torn ∙ torn) in
      let length_is : bytes_of frame_bytes rules.records ≡ rules.length = omega (arith, whole_is seen store rules trip k, n.0, long, sized, at_most, no_more) in
      let synced_is : rules.synced ≡ rules.length = settled spelling reading is_record frame_bytes counts again store.standing store.journal rules stopped k.in_order in
      ap₂ (λ a b. record { records = rules.records; length = a; synced = b; trimmed = rules.trimmed; lost = rules.lost }) length_is (length_is ∙ sym synced_is)

  -- an actor that is down and not torn comes up
  pub opens : (seen : Seen) (store : Stored R) (rules : Disk R) (trip : Option Trip) → Keeps spelling is_record frame_bytes tells seen store rules trip → store.standing ≡ Down → store.journal.is_torn ≡ false
      → Keeps spelling is_record frame_bytes tells seen (record { journal = store.journal; trip = store.trip; standing = Up }) rules trip
  opens seen store rules trip k down torn =
      let here = sound_stands spelling reading is_record frame_bytes counts again tells told seen store rules trip k (ap is_failing down) in
      let there = sound_torn spelling reading is_record frame_bytes counts again tells told seen store rules trip k (ap is_failing down) in
      built spelling reading is_record frame_bytes counts again tells told seen store.journal Up store.trip rules trip k.kept_on here there k.are_records k.written k.front k.trip k.armed torn

  -- a cut back that failed
  pub cut_fails : (old new : Seen) (store : Stored R) (journal : Kept R) (rules : Disk R) (trip : Option Trip)
      → Keeps spelling is_record frame_bytes tells old store rules trip → is_up store.standing ≡ false
      → IsKeptOn spelling tells new journal → journal.entries ≡ store.journal.entries
      → (IsTrue tells → CutsOrNot (spelled_size (entry_frame spelling) store.journal.entries) old.image new.image)
      → (n : ℕ) × (cut : ℕ) × Keeps spelling is_record frame_bytes tells new (record { journal = journal; trip = None; standing = Failing }) (stopped_disk frame_bytes n cut rules (CutBack ∷ [])) None
  cut_fails old new store journal rules trip k stopped kept_on listed images =
      let i = taken_as store.standing old.image in
      let n = bytes_of frame_bytes rules.records - rules.trimmed in
      let whole = whole_is old store rules trip k in
      let counted : spelled_size (entry_frame spelling) store.journal.entries ≡ n = omega (arith, whole) in
      let same = taken_bytes store.standing old.image in
      let lengths = sizes spelling reading is_record frame_bytes counts again i rules k.stands in
      let settled_is = settled spelling reading is_record frame_bytes counts again store.standing store.journal rules stopped k.in_order in
      let synced : i.synced ≡ length i.bytes = omega (arith, lengths.0, lengths.1, settled_is) in
      let entries : AllByRecursion is_record (values journal.entries) = rw listed k.are_records in
      elim (images told) [
        | inl cut ↦
            let after = after_call frame_bytes rules CutBack in
            let now = call_stands spelling frame_bytes counts i rules CutBack k.stands tt in
            let bytes : new.image.bytes ≡ take (kept_bytes 0 (cut_to n i)) (cut_to n i).bytes =
            ap (λ (x : Image). x.bytes) cut ∙ ap₂ (λ (m : ℕ) (bs : List ℕ). take m bs) counted (sym same) ∙ sym (take_all (kept_bytes 0 (cut_to n i)) (cut_to n i).bytes (omega arith)) in
            let there = call_torn spelling frame_bytes counts is_record i rules CutBack k.stands tt k.torn in
            (1, 0, failing_keeps spelling reading is_record frame_bytes counts again tells told new journal (cut_to n i) after 0 now there (omega (arith, whole)) bytes k.written kept_on entries)
        | inr not ↦
            let bytes : new.image.bytes ≡ take (kept_bytes 0 i) i.bytes =
            ap (λ (x : Image). x.bytes) not ∙ sym same ∙ sym (take_all (kept_bytes 0 i) i.bytes (omega (arith, synced))) in
            (0, 0, failing_keeps spelling reading is_record frame_bytes counts again tells told new journal i rules 0 k.stands k.torn k.front bytes k.written kept_on entries)
      ]
