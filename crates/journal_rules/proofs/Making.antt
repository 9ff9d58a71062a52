-- A call on a journal is what the rules say, where the disk didn't fail.
use Rattle.std.proofs.Common.{◌≡◌, ℕ, ◌+◌, ◌-◌, ◌^◌, ◌<◌, ◌≤◌, ◌⊎◌, min, Bool, true, false, cond, IsTrue, Result, Ok, Err, IfOk, OnOk, List, [], ◌∷◌, ◌++◌, length, map, refl, sym, ap, subst, ◌∙◌, arith, inl, inr}
use Rattle.std.specs.Prelude.{reverse}
use Rattle.std.specs.List.{AllByRecursion}
use Rattle.std.proofs.lemmas.Bool.{cases_lt}
use Rattle.std.proofs.lemmas.List.{append-nil, append_assoc, length-append, nil_from_length}
use Rattle.mdb_base.specs.Counts.{HasCause, HasRisen}
use Rattle.fed_rules.specs.Disk.{Call, Append, Sync, CutBack, TrimFront, Stops, Disk, bytes_of, after_call, after_calls, empty_disk, is_torn, journal as journal_of}
use Rattle.journal_disk.specs.declared.errors.JournalErr.{JournalErr}
use Rattle.journal_disk.specs.Disk.{HasCalled, Image, IsSound, Seen, all_synced, appended, cut_to, no_bytes, stopped, synced_bytes, trimmed_to}
use Rattle.journal_disk.specs.Frames.{AreWhole, IsPayload, frame}
use Rattle.journal_disk.proofs.ForCallers.{calls_add, no_call}
use Rattle.frame_journal.specs.Journal.{IsKeptOn, Kept}
use Rattle.frame_journal.specs.Records.{AreRecordsOf, Entry, Loads, as_written, before_last, entry_frame, spelled, spelled_size, values}
use Rattle.frame_journal.proofs.ForCallers.{cut_image, length-frames}
use Rattle.journal_rules.specs.Calls.{Follows, IsAfter, IsOf, NoneFailed, bytes_after, calls_of, can_fail, disk_after, made_calls, unless_torn}
use Rattle.journal_rules.specs.declared.calls.JournalCall.{JournalCall}
use Rattle.journal_rules.specs.Stands.{AllMayCome, CountsFrames, StandsFor, image_after_calls, record_frame}
use Rattle.journal_rules.specs.declared.calls.JournalCall.TheVariants.{Note, Force, Check, Cut, Stop}
use Rattle.journal_rules.proofs.Journals.{all_reverse, all_standing, all_whole, before_last_push, torn_follows, whole_follows, written_frames, written_values}
use Rattle.journal_rules.proofs.Keeps.{bytes_behind, calls_stand, from_empty, journal_stands, sizes_agree}
use Rattle.journal_rules.proofs.Respelling.{image_is}

-- ---- counts of faults

-- where none failed from one count to another, none did in between
pub none_within : (start before now last : ℕ) → start ≤ before → before ≤ now → now ≤ last → NoneFailed start last → NoneFailed before now
none_within start before now last from on to none = λ risen. none (widened risen)
  where
    at_end : now ≡ 2 ^ 64 - 1 → (start < last) ⊎ (last ≤ start) → HasRisen start last
    at_end full (inl less) = inl less
    at_end full (inr more) = (let same : last ≡ now = omega (arith, from, on, to, more) in inr (same ∙ full))

    widened : HasRisen before now → HasRisen start last
    widened (inl less) = inl (omega (arith, from, less, to))
    widened (inr full) = at_end full (cases_lt start last)

-- what failed in between, failed from one count to another
pub risen_within : (start before now : ℕ) → start ≤ before → before ≤ now → HasRisen before now → HasRisen start now
risen_within start before now from on (inl less) = inl (omega (arith, from, less))
risen_within start before now from on (inr full) = inr full

-- a call where none failed was done
pub done : {T E P : Type 0} (before now : ℕ) (r : Result T E) → HasCause before now r → NoneFailed before now → OnOk r P → P
done before now (Ok x) cause none p = p
done before now (Err e) cause none p = absurd (none cause.failed)

module _ {R : Type 0} (spelling : R → List ℕ) (is_record : R → Type 0) (size : R → ℕ) (counts : CountsFrames spelling size) where
  -- what is appended is read again
  abbrev pub Writes : Call R → Type 0
  Writes (Append entry) = is_record entry
  Writes call = Unit {0}

  all_after : (disk : Disk R) (call : Call R) → Writes call → AllByRecursion is_record disk.records → AllByRecursion is_record (after_call size disk call).records
  all_after disk (Append entry) is all = (is, all)
  all_after disk Sync is all = all
  all_after disk CutBack is all = all
  all_after disk TrimFront is all = all
  all_after disk (Stops cut) is all = all_whole is_record size (min disk.length (disk.synced + cut)) disk.records all

  all_after_calls : (disk : Disk R) (calls : List (Call R)) → AllByRecursion Writes calls → AllByRecursion is_record disk.records → AllByRecursion is_record (after_calls size disk calls).records
  all_after_calls disk [] are all = all
  all_after_calls disk (call ∷ calls) are all = all_after_calls (after_call size disk call) calls are.1 (all_after disk call are.0 all)

  -- calls that may come
  pub is_after : (old new : Seen) (disk : Disk R) (calls : List (Call R)) → IsOf spelling is_record size old.image disk → AllMayCome spelling size disk calls → AllByRecursion Writes calls
      → new.image ≡ image_after_calls spelling size disk old.image calls → HasCalled (can_fail calls) old new → IsAfter spelling is_record size old new disk calls
  is_after old new disk calls is may are e called = record {
    image = e;
    is_of = record {
      stands = subst (λ (i : Image). StandsFor spelling size i (after_calls size disk calls)) (sym e) (calls_stand spelling size counts old.image disk calls is.stands may);
      are_records = all_after_calls disk calls are is.are_records;
    };
    called = called;
  }

  -- what was trimmed lies before the end of the frames, and they end within the bytes
  ends : (image : Image) (disk : Disk R) → StandsFor spelling size image disk → (disk.trimmed ≤ bytes_of size disk.records) × (bytes_of size disk.records ≤ disk.length)
  ends image disk s =
      let records = reverse disk.records in
      let b = s.border in
      let bytes : length (s.front ++ image.bytes) ≡ disk.length = s.all.bytes in
      let behind : bytes_of size s.older ≤ bytes_of size disk.records = subst (λ rs. bytes_of size s.older ≤ bytes_of size rs) (sym s.parts) (bytes_behind spelling size counts s.newer s.older) in (
        omega (arith, b, behind),
        omega (arith, ap length s.all.records.parts, length-append (spelled (record_frame spelling) records) s.all.records.rest, length-frames (map (record_frame spelling) records), sizes_agree spelling size counts disk.records, bytes),
      )

  module _ (tells : Bool) (seen : Seen) (journal : Kept R) (told : IsTrue tells) (sized : length seen.image.bytes ≡ seen.size) (kept : IsKeptOn spelling tells seen journal) where
    -- nothing is written while the journal is torn
    pub none_written : (disk : Disk R) (calls : List (Call R)) → journal.is_torn ≡ true → IsOf spelling is_record size seen.image disk
        → IsAfter spelling is_record size seen seen disk (unless_torn size disk calls)
    none_written disk calls torn is =
        let here : is_torn size disk ≡ true = sym (torn_follows spelling size counts tells seen journal disk told sized kept is.stands) ∙ torn in
        let stays : IsAfter spelling is_record size seen seen disk [] = record { image = refl; is_of = is; called = no_call seen seen refl } in
        subst (λ (b : Bool). IsAfter spelling is_record size seen seen disk (cond b [] calls)) (sym here) stays

    written : (new : Seen) (disk : Disk R) (calls : List (Call R)) → journal.is_torn ≡ false → IsOf spelling is_record size seen.image disk → (is_torn size disk ≡ false → AllMayCome spelling size disk calls)
        → AllByRecursion Writes calls → new.image ≡ image_after_calls spelling size disk seen.image calls → HasCalled (can_fail calls) seen new → IsAfter spelling is_record size seen new disk (unless_torn size disk calls)
    written new disk calls untorn is may are e called =
        let here : is_torn size disk ≡ false = sym (torn_follows spelling size counts tells seen journal disk told sized kept is.stands) ∙ untorn in
        subst (λ (b : Bool). IsAfter spelling is_record size seen new disk (cond b [] calls)) (sym here) (is_after seen new disk calls is (may here) are e called)

    module _ (entry : R) (untorn : journal.is_torn ≡ false) (payload : IsPayload (spelling entry)) (holds : is_record entry) where
      pub note_follows : (new : Seen) → new.image ≡ appended (frame (spelling entry)) seen.image → HasCalled 1 seen new → Follows spelling is_record size (Note entry) seen new
      note_follows new e called = λ disk is. written new disk (Append entry ∷ []) untorn is (λ whole. ((whole, payload), tt)) (holds, tt) e called

      pub force_follows : (new : Seen) → new.image ≡ all_synced (appended (frame (spelling entry)) seen.image) → HasCalled 2 seen new → Follows spelling is_record size (Force entry) seen new
      force_follows new e called = λ disk is. written new disk (Append entry ∷ Sync ∷ []) untorn is (λ whole. ((whole, payload), (tt, tt))) (holds, (tt, tt)) e called

      pub check_follows : (forced : Image) (new : Seen) (entries : List (Entry R)) → forced ≡ all_synced (appended (frame (spelling entry)) seen.image) → entries ≡ journal.entries ++ as_written entry ∷ []
          → new.image ≡ trimmed_to (spelled_size (entry_frame spelling) (before_last entries)) forced → HasCalled 3 seen new → Follows spelling is_record size (Check entry) seen new
      check_follows forced new entries f listed e called = λ disk is.
          let within = ends seen.image disk is.stands in
          let before : before_last entries ≡ journal.entries = ap before_last listed ∙ before_last_push journal.entries (as_written entry) in
          let front : spelled_size (entry_frame spelling) (before_last entries) ≡ bytes_of size disk.records - disk.trimmed =
          ap (spelled_size (entry_frame spelling)) before ∙ omega (arith, whole_follows spelling size counts tells seen journal disk told kept is.stands) in
          let image : new.image ≡ trimmed_to (bytes_of size disk.records - disk.trimmed) (all_synced (appended (frame (spelling entry)) seen.image)) =
          e ∙ ap (λ (n : ℕ). trimmed_to n forced) front ∙ ap (trimmed_to (bytes_of size disk.records - disk.trimmed)) f in
          let (lower, upper) = within in
          written new disk (Append entry ∷ Sync ∷ TrimFront ∷ []) untorn is
          (λ whole. ((whole, payload), (tt, ((lower, omega (arith, upper)), tt)))) (holds, (tt, (tt, tt))) image called

    pub cut_follows : (new : Seen) → new.image ≡ synced_bytes (spelled (entry_frame spelling) journal.entries) → HasCalled 1 seen new → Follows spelling is_record size Cut seen new
    cut_follows new e called = λ disk is.
        let n = bytes_of size disk.records - disk.trimmed in
        let counted : n ≡ spelled_size (entry_frame spelling) journal.entries = omega (arith, whole_follows spelling size counts tells seen journal disk told kept is.stands) in
        let cut : cut_to n seen.image ≡ synced_bytes (spelled (entry_frame spelling) journal.entries) = cut_image (entry_frame spelling) seen.image (cut_to n seen.image) journal.entries n (kept.records told) counted refl in
        is_after seen new disk (CutBack ∷ []) is (tt, tt) (tt, tt) (e ∙ sym cut) called

  pub stop_follows : (old new : Seen) (cut : ℕ) → new.image ≡ stopped cut old.image → new.calls ≡ old.calls → Follows spelling is_record size (Stop cut) old new
  stop_follows old new cut e same = λ disk is.
      let s = is.stands in
      let t = s.trimmed in
      let synced : length s.front + old.image.synced ≡ disk.synced = s.all.synced in
      is_after old new disk (Stops cut ∷ []) is (omega (arith, t, synced), tt) (tt, tt) e (no_call old new same)

-- ---- all calls

-- those of all calls that are left are before the ones that were made, each once, and the bytes are those after these
pub record Makes {R : Type 0} (spelling : R → List ℕ) (is_record : R → Type 0) (size : R → ℕ) (start now : Seen) (all left : List (JournalCall R)) : Type 0 where
  pub made : List (JournalCall R)
  pub parts : all ≡ left ++ made
  pub bytes : now.image ≡ bytes_after spelling size made
  pub is_of : IsOf spelling is_record size now.image (disk_after size made)
  pub called : HasCalled (made_calls size made) start now

module _ {R : Type 0} (spelling : R → List ℕ) (is_record : R → Type 0) (size : R → ℕ) (counts : CountsFrames spelling size) where
  pub makes_none : (seen : Seen) (all : List (JournalCall R)) → length seen.image.bytes ≡ 0 → IsSound seen.image → Makes spelling is_record size seen seen all all
  makes_none seen all none sound =
      let image = seen.image in
      let empty : image ≡ no_bytes = image_is (nil_from_length image.bytes none) (omega (arith, none, sound)) in
      let stands : StandsFor spelling size no_bytes (empty_disk {Record = R}) = from_empty spelling size counts [] tt in
      record {
        made = [];
        parts = sym (append-nil all);
        bytes = empty;
        is_of = record { stands = subst (λ (i : Image). StandsFor spelling size i (empty_disk {Record = R})) (sym empty) stands; are_records = tt };
        called = no_call seen seen refl;
      }

  pub makes_one : (start old new : Seen) (all left before : List (JournalCall R)) (call : JournalCall R) → left ≡ before ++ call ∷ [] → Makes spelling is_record size start old all left
      → Follows spelling is_record size call old new → Makes spelling is_record size start new all before
  makes_one start old new all left before call popped m follows =
      let disk = disk_after size m.made in
      let after = follows disk m.is_of in
      record {
        made = call ∷ m.made;
        parts = m.parts ∙ ap (λ (l : List (JournalCall R)). l ++ m.made) popped ∙ append_assoc before (call ∷ []) m.made;
        bytes = after.image ∙ ap (λ (i : Image). image_after_calls spelling size disk i (calls_of size disk call)) m.bytes;
        is_of = after.is_of;
        called = calls_add (made_calls size m.made) (can_fail (calls_of size disk call)) start old new m.called after.called;
      }

  pub makes_all : (start now : Seen) (all left : List (JournalCall R)) → Makes spelling is_record size start now all left → length left ≡ 0
      → (now.image ≡ bytes_after spelling size all) × IsOf spelling is_record size now.image (disk_after size all) × HasCalled (made_calls size all) start now
  makes_all start now all left m none =
      let same : m.made ≡ all = sym (m.parts ∙ ap (λ (l : List (JournalCall R)). l ++ m.made) (nil_from_length left none)) in
      subst (λ (l : List (JournalCall R)). (now.image ≡ bytes_after spelling size l) × IsOf spelling is_record size now.image (disk_after size l) × HasCalled (made_calls size l) start now) same
      (m.bytes, m.is_of, m.called)

  -- the records that stand on the disk, as they are written
  abbrev pub standing_entries : Disk R → List (Entry R)
  standing_entries disk = map as_written (reverse (journal_of size disk))

  -- they are records, and their frames are whole on the disk
  pub entries_stand : (image : Image) (disk : Disk R) → IsOf spelling is_record size image disk
      → AllByRecursion is_record (values (standing_entries disk)) × AreRecordsOf (entry_frame spelling) image.bytes (standing_entries disk)
  entries_stand image disk is =
      let those = reverse (journal_of size disk) in
      let all : AllByRecursion is_record those = all_reverse is_record (journal_of size disk) (all_standing is_record size disk.trimmed disk.records is.are_records) in (
        subst (AllByRecursion is_record) (sym (written_values those)) all,
        subst (AreWhole image.bytes) (sym (written_frames spelling those)) (journal_stands spelling size counts image disk is.stands),
      )

-- what was read is what was to be read
pub loaded_is : {R X A B : Type 0} (view : X → List (Entry R)) (r : Result X JournalErr) (entries : List (Entry R)) → (A → B → Loads view r (Ok entries)) → IfOk r (λ x. A → B → view x ≡ entries)
loaded_is view (Ok x) entries loads = λ a b. (let e = loads a b in cc)
loaded_is view (Err why) entries loads = tt
