-- Records that are spelled alike are one record.
use Rattle.std.proofs.Common.{◌≡◌, ℕ, List, ◌++◌, map, take, Option, Some, Result, Ok, sym, ap, ◌∙◌}
use Rattle.std.specs.List.{AllByRecursion}
use Rattle.std.proofs.lemmas.Option.{same_Some}
use Rattle.journal_disk.specs.Frames.{Frame, IsPayload, written, frame}
use Rattle.journal_disk.proofs.ForCallers.{one_frame, one_reading, payload_is, whole_left, written_is_frame}
use Rattle.frame_journal.specs.Records.{Entry, values, entry_frame, AreRecordsOf, entries_at, records_within}
use Rattle.frame_journal.proofs.ReadOn.{records_again}
use Rattle.frame_journal.proofs.Within.{map-within}

ok_is : {A : Type 0} (x y : A) → ◌≡◌ {A = Result A ℕ} (Ok x) (Ok y) → x ≡ y
ok_is x y e = cc

module _ {R : Type 0} (spelling : R → List ℕ) (reading : List ℕ → Option R) (is_record : R → Type 0) (again : (entry : R) → is_record entry → reading (spelling entry) ≡ Some entry) where
  pub one_spelling : (a b : R) → is_record a → is_record b → spelling a ≡ spelling b → a ≡ b
  one_spelling a b ra rb e = same_Some a b (sym (again a ra) ∙ ap reading e ∙ again b rb)

  pub none_begins : (a b : R) (x y : List ℕ) → is_record a → is_record b → IsPayload (spelling a) → IsPayload (spelling b) → frame (spelling a) ++ x ≡ frame (spelling b) ++ y → (a ≡ b) × (x ≡ y)
  none_begins a b x y ra rb pa pb e =
      let apart = one_frame (written (spelling a)) (written (spelling b)) x y (written_is_frame (spelling a) pa) (written_is_frame (spelling b) pb) e in
      (one_spelling a b ra rb (payload_is (spelling a) (spelling b) apart.0), apart.1)

  pub one_list : (bytes : List ℕ) (some others : List (Entry R)) → AllByRecursion is_record (values some) → AllByRecursion is_record (values others) → AreRecordsOf (entry_frame spelling) bytes some → AreRecordsOf (entry_frame spelling) bytes others → some ≡ others
  one_list bytes some others all_some all_others a b =
      let same = one_reading bytes (map (entry_frame spelling) some) (map (entry_frame spelling) others) a b in
      ok_is some others (sym (records_again spelling reading is_record again 0 some all_some) ∙ ap (entries_at reading 0) same ∙ records_again spelling reading is_record again 0 others all_others)

pub whole_records : {A : Type 0} (shape : A → Frame) (n : ℕ) (bytes : List ℕ) (items : List A) → AreRecordsOf shape bytes items → AreRecordsOf shape (take n bytes) (records_within shape n items)
whole_records shape n bytes items holds = rw map-within (whole_left n bytes (map shape items) holds)
