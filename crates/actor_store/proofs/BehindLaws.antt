-- What a store stands for after each call where some entries were found: with their frames respelled it is as where all are of version 2.
use Rattle.std.proofs.Common.{◌≡◌, ℕ, zero, suc, ◌+◌, ◌-◌, ◌≤◌, ◌<◌, Bool, true, false, cond, ltb, IsTrue, Option, None, List, [], ◌∷◌, ◌++◌, length, map, take, drop, refl, sym, ap, subst, ◌∙◌, arith, Some, inl, inr, append_assoc, length-drop, drop_at}
use Rattle.std.specs.Prelude.{reverse}
use Rattle.std.specs.List.{AllByRecursion}
use Rattle.std.proofs.lemmas.Bool.{cases_lt, le-ltb, lt-ltb}
use Rattle.std.proofs.lemmas.List.{length-append, length-map, map_push, map-append, take_all}
use Rattle.fed_rules.specs.Disk.{Call, Append, Sync, CutBack, TrimFront, Stops, Disk, after_call, before_last as before_newest, bytes_of, is_torn, journal as journal_of}
use Rattle.fed_rules.specs.Happenings.{Trip, used}
use Rattle.journal_disk.specs.Disk.{Image, Seen, appended, all_synced, kept_bytes, stopped, synced_bytes, trimmed_to, AppendsSome, CutsOrNot, SyncsSome, IsSound}
use Rattle.journal_disk.specs.Frames.{IsPayload, frame, frames_size}
use Rattle.frame_journal.specs.Journal.{EndsWith, IsKeptOn, Kept, NotesOrNot, with_entry}
use Rattle.frame_journal.specs.Records.{Entry, AreRecordsOf, as_written, before_last, entry_frame, last_alone, records_within, spelled, spelled_size, values}
use Rattle.journal_rules.specs.Stands.{CountsFrames, StandsFor, record_frame, respelled}
use Rattle.journal_rules.specs.Torn.{IsTornBy}
use Rattle.journal_rules.proofs.ForCallers.{front_held, front_within, journal_stands, kept_respelled, new_front, new_length, old_size, respelled_append, respelled_appends, respelled_cuts, respelled_frames, respelled_is, respelled_journal, respelled_seen, respelled_stop, respelled_sync, respelled_syncs, respelled_trim, size_append, size_respelled, size_stands, values_front, written_frames, written_values}
use Rattle.actor_store.specs.declared.store.Standing.{Standing}
use Rattle.actor_store.specs.declared.store.Standing.TheVariants.{Up, Down, Failing}
use Rattle.actor_store.specs.Store.{HoldsBytes, IsFirmFront, IsInOrder, Keeps, KeepsBehind, Old, Passes, Stored, StopsWith, entries_behind, is_failing, is_up, old_standing, stopped_disk, taken_as, untrimmed}
use Rattle.actor_store.proofs.StoreLaws as new_store
use Rattle.actor_store.proofs.StoreLaws.{built, failing_keeps, synced_on, taken_bytes, taken_sound}
use Rattle.actor_store.proofs.CutLaws as new_cut
use Rattle.actor_store.proofs.EndsLaws as new_ends
use Rattle.actor_store.proofs.EndsLaws.{passes_none, used_none}
use Rattle.actor_store.proofs.TrimLaws as new_trim

in_order_same : {R : Type 0} (standing : Standing) (old new : Kept R) (rules : Disk R) → new.is_torn ≡ old.is_torn → IsInOrder standing old rules → IsInOrder standing new rules
in_order_same Up old new rules same o = same ∙ o
in_order_same Down old new rules same o = o
in_order_same Failing old new rules same o = o

module _ {R : Type 0} (spelling : R → List ℕ) where
  pub firm_front : (end : ℕ) (l : List (Entry R)) (image : Image) (rules : Disk R) → IsFirmFront spelling end l image rules → rules.trimmed ≤ rules.synced
  firm_front end [] image rules f = f
  firm_front end (e ∷ l) image rules f = f.trimmed

  firm_synced : (end : ℕ) (l : List (Entry R)) (image : Image) (rules : Disk R) → IsFirmFront spelling end l image rules → spelled_size (entry_frame spelling) l ≤ image.synced
  firm_synced end [] image rules f = omega arith
  firm_synced end (e ∷ l) image rules f = f.synced

  firm_again : (end : ℕ) (l : List (Entry R)) (old new : Image) (before after : Disk R) → IsFirmFront spelling end l old before → after.trimmed ≡ before.trimmed → after.trimmed ≤ after.synced
      → spelled_size (entry_frame spelling) l ≤ new.synced → IsFirmFront spelling end l new after
  firm_again end [] old new before after f same front synced = front
  firm_again end (e ∷ l) old new before after f same front synced = let ends = f.ends in record { trimmed = front; synced = synced; ends = omega (arith, ends, same) }

  -- what a failing store is taken as is respelled alike
  taken_respelled : (standing : Standing) (l : List (Entry R)) (image : Image) → taken_as standing (respelled spelling l image) ≡ respelled spelling l (taken_as standing image)
  taken_respelled Up l image = refl
  taken_respelled Down l image = refl
  taken_respelled Failing l image = sym (respelled_sync spelling l image)

  abbrev pub respelled_store : Stored R → Stored R
  respelled_store store = record store { journal = respelled_journal spelling store.journal }

  sized_respelled : (l : List (Entry R)) (seen : Seen) → length seen.image.bytes ≡ seen.size → length (respelled spelling l seen.image).bytes ≡ (respelled_seen spelling l seen).size
  sized_respelled l seen sized =
      let n = old_size spelling l in
      let front = new_front spelling l in
      omega (arith, ap (λ (i : Image). length i.bytes) (respelled_is spelling l seen.image), length-append front (drop n seen.image.bytes), length-drop n seen.image.bytes, new_length spelling l, sized)

  sound_respelled : (l : List (Entry R)) (image : Image) → IsSound image → IsSound (respelled spelling l image)
  sound_respelled l image sound =
      let n = old_size spelling l in
      let front = new_front spelling l in
      let same = respelled_is spelling l image in
      omega (arith, ap (λ (i : Image). length i.bytes) same, ap (λ (i : Image). i.synced) same, length-append front (drop n image.bytes), length-drop n image.bytes, sound)

  -- the entry that is written last
  pushed : (entries : List (Entry R)) (entry : R) → map as_written (values (entries ++ as_written entry ∷ [])) ≡ map as_written (values entries) ++ as_written entry ∷ []
  pushed [] entry = refl
  pushed (e ∷ entries) entry = ap (λ (l : List (Entry R)). as_written e.value ∷ l) (pushed entries entry)

  entry_respelled : (entry : R) (journal : Kept R) → respelled_journal spelling (with_entry spelling entry journal) ≡ with_entry spelling entry (respelled_journal spelling journal)
  entry_respelled entry journal =
      let there = with_entry spelling entry journal in
      ap (λ (es : List (Entry R)). let j : Kept R = record { entries = es; is_torn = there.is_torn; places = there.places; room = there.room } in j) (pushed journal.entries entry)

  notes_respelled : (entry : R) (old new : Kept R) → NotesOrNot spelling entry old new → NotesOrNot spelling entry (respelled_journal spelling old) (respelled_journal spelling new)
  notes_respelled entry old new (inl noted) = inl (ap (respelled_journal spelling) noted ∙ entry_respelled entry old)
  notes_respelled entry old new (inr not) = inr (ap (respelled_journal spelling) not)

  written_push : (l : List (Entry R)) (news : List R) (entry : R) → (l ++ map as_written news) ++ as_written entry ∷ [] ≡ l ++ map as_written (news ++ entry ∷ [])
  written_push l news entry = append_assoc l (map as_written news) (as_written entry ∷ []) ∙ ap (λ (m : List (Entry R)). l ++ m) (sym (map_push (as_written {R = R}) news entry))

  noted_news : (l : List (Entry R)) (news : List R) (entry : R) (old new : Kept R) → old.entries ≡ l ++ map as_written news → NotesOrNot spelling entry old new → (more : List R) × (new.entries ≡ l ++ map as_written more)
  noted_news l news entry old new listed (inl noted) =
      (news ++ entry ∷ [], ap (λ (j : Kept R). j.entries) noted ∙ ap (λ (es : List (Entry R)). es ++ as_written entry ∷ []) listed ∙ written_push l news entry)
  noted_news l news entry old new listed (inr not) = (news, ap (λ (j : Kept R). j.entries) not ∙ listed)

-- an entry that was written stands behind the old ones
pub newer_entry : {R : Type 0} (l : List (Entry R)) (records : List R) (before after : List (Entry R)) (entry : R) → before ≡ entries_behind l records → after ≡ before ++ as_written entry ∷ [] → length l < length after
newer_entry l records before after entry listed pushed =
    omega (arith, ap length listed, ap length pushed, length-append l (map as_written (drop (length l) records)), length-append before (as_written entry ∷ []))

-- the last of two lists
before_last_of : {A : Type 0} (xs ys : List A) → 0 < length ys → before_last (xs ++ ys) ≡ xs ++ before_last ys
before_last_of [] ys some = refl
before_last_of (x ∷ xs) [] some = absurd (omega (arith, some))
before_last_of {A} (x ∷ []) (y ∷ ys) some = refl
before_last_of {A} (x ∷ z ∷ xs) (y ∷ ys) some = ap (λ (l : List A). x ∷ l) (before_last_of (z ∷ xs) (y ∷ ys) some)

last_alone_of : {A : Type 0} (xs ys : List A) → 0 < length ys → last_alone (xs ++ ys) ≡ last_alone ys
last_alone_of [] ys some = refl
last_alone_of (x ∷ xs) [] some = absurd (omega (arith, some))
last_alone_of (x ∷ []) (y ∷ ys) some = refl
last_alone_of (x ∷ z ∷ xs) (y ∷ ys) some = last_alone_of (z ∷ xs) (y ∷ ys) some

-- old entries that were trimmed stand no more
trimmed_old : {R : Type 0} (end : ℕ) (entries : List (Entry R)) (before after : ℕ) → before ≤ after → (0 < length (untrimmed end entries before) → end ≤ after) → untrimmed end entries after ≡ []
trimmed_old end [] before after more far = refl
trimmed_old end (e ∷ entries) before after more far =
    let reaches : end ≤ after = elim (cases_lt before end) [
      | inl less ↦ far (subst (λ (b : Bool). 0 < length (cond b (e ∷ entries) [])) (sym (lt_is before end less)) (omega arith))
      | inr past ↦ omega (arith, past, more)
    ] in
    ap (λ (b : Bool). cond b (e ∷ entries) []) (le-ltb after end reaches)
  where
    lt_is : (a b : ℕ) → a < b → ltb a b ≡ true
    lt_is a b less = lt-ltb _ _ less

module _ {R : Type 0} (spelling : R → List ℕ) (reading : List ℕ → Option R) (is_record : R → Type 0) (frame_bytes : R → ℕ) (counts : CountsFrames spelling frame_bytes) (again : (entry : R) → is_record entry → reading (spelling entry) ≡ Some entry) (tells : Bool) (told : IsTrue tells) where
  pub all_respelled : (entries : List (Entry R)) → AllByRecursion is_record (values entries) → AllByRecursion is_record (values (map as_written (values entries)))
  all_respelled entries all = subst (AllByRecursion is_record) (sym (written_values (values entries))) all

  abbrev news_of : Old R → Disk R → List R
  news_of old rules = drop (length (old_standing old rules)) (reverse (journal_of frame_bytes rules))

  -- with the old frames respelled all frames are of version 2
  star : (seen : Seen) (store : Stored R) (old : Old R) (rules : Disk R) (trip : Option Trip) → KeepsBehind spelling is_record frame_bytes tells seen store old rules trip
      → Keeps spelling is_record frame_bytes tells (respelled_seen spelling (old_standing old rules) seen) (respelled_store spelling store) rules trip
  star seen store old rules trip k =
      let l = old_standing old rules in
      built spelling reading is_record frame_bytes counts again tells told (respelled_seen spelling l seen) (respelled_journal spelling store.journal) store.standing store.trip rules trip
      (kept_respelled spelling tells seen store.journal l (news_of old rules) k.records k.kept_on)
      (subst (λ (i : Image). StandsFor spelling frame_bytes i rules) (sym (taken_respelled spelling store.standing l seen.image)) k.stands)
      (subst (λ (i : Image). IsTornBy spelling is_record frame_bytes i rules) (sym (taken_respelled spelling store.standing l seen.image)) k.torn)
      (all_respelled store.journal.entries k.are_records) k.written (firm_front spelling old.end l (taken_as store.standing seen.image) rules k.front) k.trip k.armed
      (in_order_same store.standing store.journal (respelled_journal spelling store.journal) rules refl k.in_order)

  -- and back
  pub unstar : (seen : Seen) (store : Stored R) (old : Old R) (rules : Disk R) (trip : Option Trip) (l : List (Entry R)) (news : List R) → old_standing old rules ≡ l → store.journal.entries ≡ l ++ map as_written news
      → IsKeptOn spelling tells seen store.journal → AllByRecursion is_record (values store.journal.entries) → IsFirmFront spelling old.end l (taken_as store.standing seen.image) rules
      → Keeps spelling is_record frame_bytes tells (respelled_seen spelling l seen) (respelled_store spelling store) rules trip → KeepsBehind spelling is_record frame_bytes tells seen store old rules trip
  unstar seen store old rules trip l news at listed kept all firm s =
      let rs = reverse (journal_of frame_bytes rules) in
      let entries = store.journal.entries in
      let vals : values entries ≡ rs = sym (written_values (values entries)) ∙ ap values s.records ∙ written_values rs in
      let split : rs ≡ values l ++ news = sym vals ∙ ap values listed ∙ values_front spelling l news in
      let behind : drop (length l) rs ≡ news = ap (drop (length l)) split ∙ drop_at (values l) news (length l) (length-map l (λ entry. entry.value)) in
      let records : entries ≡ entries_behind l rs = listed ∙ ap (λ (ns : List R). l ++ map as_written ns) (sym behind) in
      let stands : StandsFor spelling frame_bytes (respelled spelling l (taken_as store.standing seen.image)) rules =
      subst (λ (i : Image). StandsFor spelling frame_bytes i rules) (taken_respelled spelling store.standing l seen.image) s.stands in
      let torn : IsTornBy spelling is_record frame_bytes (respelled spelling l (taken_as store.standing seen.image)) rules =
      subst (λ (i : Image). IsTornBy spelling is_record frame_bytes i rules) (taken_respelled spelling store.standing l seen.image) s.torn in
      record {
        kept_on = kept;
        stands = subst (λ (m : List (Entry R)). StandsFor spelling frame_bytes (respelled spelling m (taken_as store.standing seen.image)) rules) (sym at) stands;
        torn = subst (λ (m : List (Entry R)). IsTornBy spelling is_record frame_bytes (respelled spelling m (taken_as store.standing seen.image)) rules) (sym at) torn;
        records = subst (λ (m : List (Entry R)). entries ≡ entries_behind m rs) (sym at) records;
        are = vals;
        are_records = all;
        written = s.written;
        front = subst (λ (m : List (Entry R)). IsFirmFront spelling old.end m (taken_as store.standing seen.image) rules) (sym at) firm;
        trip = s.trip;
        armed = s.armed;
        in_order = in_order_same store.standing (respelled_journal spelling store.journal) store.journal rules refl s.in_order;
      }

  -- the bytes are those of the rules, synced or not, but for how old frames are spelled
  pub holds_behind : (seen : Seen) (store : Stored R) (old : Old R) (rules : Disk R) (trip : Option Trip) → KeepsBehind spelling is_record frame_bytes tells seen store old rules trip
      → HoldsBytes spelling is_record frame_bytes (respelled spelling (old_standing old rules) seen.image) rules
  holds_behind seen store old rules trip k =
      let i = respelled spelling (old_standing old rules) seen.image in
      let s = star seen store old rules trip k in
      let same = taken_bytes store.standing i in
      let all = new_store.sizes spelling reading is_record frame_bytes counts again (taken_as store.standing i) rules s.stands in
      record {
        records = subst (λ (bytes : List ℕ). AreRecordsOf (record_frame spelling) bytes (reverse (journal_of frame_bytes rules))) same (journal_stands spelling frame_bytes counts (taken_as store.standing i) rules s.stands);
        bytes = omega (arith, all.0, ap length same);
        torn = new_store.torn_bytes spelling reading is_record frame_bytes counts again store.standing i rules s.torn;
      }

  -- after a call that trims nothing
  goes : (image : Image) (new : Seen) (store : Stored R) (old : Old R) (before rules : Disk R) (trip : Option Trip) (news : List R) → IsFirmFront spelling old.end (old_standing old before) image before
      → rules.trimmed ≡ before.trimmed → store.journal.entries ≡ old_standing old before ++ map as_written news → IsKeptOn spelling tells new store.journal → AllByRecursion is_record (values store.journal.entries)
      → spelled_size (entry_frame spelling) (old_standing old before) ≤ (taken_as store.standing new.image).synced
      → Keeps spelling is_record frame_bytes tells (respelled_seen spelling (old_standing old before) new) (respelled_store spelling store) rules trip → KeepsBehind spelling is_record frame_bytes tells new store old rules trip
  goes image new store old before rules trip news firm same listed kept all synced s =
      unstar new store old rules trip (old_standing old before) news (ap (untrimmed old.end old.entries) same) listed kept all
      (firm_again spelling old.end (old_standing old before) image (taken_as store.standing new.image) before rules firm same s.front synced) s

  -- the frames of the old entries are there
  held : (seen : Seen) (journal : Kept R) (l : List (Entry R)) (news : List R) → journal.entries ≡ l ++ map as_written news → IsKeptOn spelling tells seen journal → spelled_size (entry_frame spelling) l ≤ length seen.image.bytes
  held seen journal l news listed kept = (front_held spelling tells seen journal l news told listed kept).0

  -- and synced, where the store isn't failing
  held_synced : (seen : Seen) (store : Stored R) (old : Old R) (rules : Disk R) (trip : Option Trip) → KeepsBehind spelling is_record frame_bytes tells seen store old rules trip → is_failing store.standing ≡ false
      → spelled_size (entry_frame spelling) (old_standing old rules) ≤ seen.image.synced
  held_synced seen store old rules trip k sound =
      let f = firm_synced spelling old.end (old_standing old rules) (taken_as store.standing seen.image) rules k.front in
      let e = taken_sound store.standing seen.image sound in
      omega (arith, f, ap (λ (i : Image). i.synced) e)

  -- and all that a store holds which is down
  pub down_synced : (seen : Seen) (store : Stored R) (old : Old R) (rules : Disk R) (trip : Option Trip) → KeepsBehind spelling is_record frame_bytes tells seen store old rules trip → store.standing ≡ Down
      → seen.image.synced ≡ length seen.image.bytes
  down_synced seen store old rules trip k down =
      let l = old_standing old rules in
      let n = spelled_size (entry_frame spelling) l in
      let i = respelled spelling l seen.image in
      let s = star seen store old rules trip k in
      let here = new_store.sound_stands spelling reading is_record frame_bytes counts again tells told (respelled_seen spelling l seen) (respelled_store spelling store) rules trip s (ap is_failing down) in
      let sizes = new_store.sizes spelling reading is_record frame_bytes counts again i rules here in
      let settled = new_store.settled spelling reading is_record frame_bytes counts again store.standing store.journal rules (ap is_up down) k.in_order in
      let same = respelled_is spelling l seen.image in
      omega (
        arith,
        sizes.0,
        sizes.1,
        settled,
        ap (λ (j : Image). j.synced) same,
        ap (λ (j : Image). length j.bytes) same,
        length-append (new_front spelling l) (drop n seen.image.bytes),
        length-drop n seen.image.bytes,
        held seen store.journal l (news_of old rules) k.records k.kept_on,
        held_synced seen store old rules trip k (ap is_failing down),
      )

  stopped_trims : (n cut : ℕ) (rules : Disk R) (call : Call R) → ((d : Disk R) → (after_call frame_bytes d call).trimmed ≡ d.trimmed) → (stopped_disk frame_bytes n cut rules (call ∷ [])).trimmed ≡ rules.trimmed
  stopped_trims zero cut rules call same = refl
  stopped_trims (suc zero) cut rules call same = same rules
  stopped_trims (suc (suc n)) cut rules call same = same rules

  pub torn_agrees : (seen : Seen) (store : Stored R) (old : Old R) (rules : Disk R) (trip : Option Trip) → length seen.image.bytes ≡ seen.size → KeepsBehind spelling is_record frame_bytes tells seen store old rules trip → store.journal.is_torn ≡ is_torn frame_bytes rules
  torn_agrees seen store old rules trip sized k =
      let l = old_standing old rules in
      new_store.torn_agrees spelling reading is_record frame_bytes counts again tells told (respelled_seen spelling l seen) (respelled_store spelling store) rules trip (sized_respelled spelling l seen sized) (star seen store old rules trip k)

  pub stop_keeps : (before after : Seen) (store : Stored R) (journal : Kept R) (old : Old R) (rules : Disk R) (trip : Option Trip) (cut kept : ℕ)
      → KeepsBehind spelling is_record frame_bytes tells before store old rules trip → is_failing store.standing ≡ false
      → IsKeptOn spelling tells after journal → kept ≡ length (values journal.entries) → AllByRecursion is_record (values journal.entries)
      → journal.entries ≡ records_within (entry_frame spelling) after.size store.journal.entries
      → (IsTrue tells → after.image ≡ stopped cut before.image) → (IsTrue tells → after.size ≡ kept_bytes cut before.image)
      → StopsWith frame_bytes (KeepsBehind spelling is_record frame_bytes tells after (record { journal = journal; trip = None; standing = Down }) old) rules cut kept
  stop_keeps before after store journal old rules trip cut kept k sound kept_on count are_records within images sizes =
      let l = old_standing old rules in
      let news = news_of old rules in
      let n = spelled_size (entry_frame spelling) l in
      let there : n ≤ length before.image.bytes = held before store.journal l news k.records k.kept_on in
      let synced : n ≤ before.image.synced = held_synced before store old rules trip k sound in
      let fits : n ≤ after.size = omega (arith, sizes told, there, synced) in
      let left = records_within (record_frame spelling) (after.size - n) news in
      let listed : journal.entries ≡ l ++ map as_written left = within ∙ ap (records_within (entry_frame spelling) after.size) k.records ∙ front_within spelling after.size l news fits in
      let e : respelled spelling l after.image ≡ stopped cut (respelled spelling l before.image) = ap (respelled spelling l) (images told) ∙ respelled_stop spelling l cut before.image synced there in
      let done = new_store.stop_keeps spelling reading is_record frame_bytes counts again tells told (respelled_seen spelling l before) (respelled_seen spelling l after) (respelled_store spelling store) (respelled_journal spelling journal) rules trip cut kept
      (star before store old rules trip k) sound (kept_respelled spelling tells after journal l left listed kept_on) (count ∙ ap length (sym (written_values (values journal.entries)))) (all_respelled journal.entries are_records) (λ t. e) in
      let all : n ≤ after.image.synced = omega (arith, ap (λ (i : Image). i.synced) (images told), ap (λ (i : Image). length i.bytes) (images told), held after journal l left listed kept_on) in
      (goes (taken_as store.standing before.image) after (record { journal = journal; trip = None; standing = Down }) old rules (after_call frame_bytes rules (Stops cut)) None left k.front refl listed kept_on are_records all done.0, done.1)

  pub append_keeps : (before after : Seen) (store : Stored R) (journal : Kept R) (old : Old R) (rules : Disk R) (trip : Option Trip) (entry : R) → length before.image.bytes ≡ before.size
      → KeepsBehind spelling is_record frame_bytes tells before store old rules trip → store.standing ≡ Up
      → IsKeptOn spelling tells after journal → journal ≡ with_entry spelling entry store.journal
      → (IsTrue tells → after.image ≡ appended (frame (spelling entry)) before.image)
      → is_record entry → IsPayload (spelling entry)
      → KeepsBehind spelling is_record frame_bytes tells after (record { journal = journal; trip = store.trip; standing = store.standing }) old (after_call frame_bytes rules (Append entry)) trip
  append_keeps before after store journal old rules trip entry sized k up kept_on noted images is_rec fits =
      let l = old_standing old rules in
      let news = news_of old rules in
      let n = spelled_size (entry_frame spelling) l in
      let there : n ≤ length before.image.bytes = held before store.journal l news k.records k.kept_on in
      let more = noted_news spelling l news entry store.journal journal k.records (inl noted) in
      let e : respelled spelling l after.image ≡ appended (frame (spelling entry)) (respelled spelling l before.image) = ap (respelled spelling l) (images told) ∙ respelled_append spelling l (frame (spelling entry)) before.image there in
      let done = new_store.append_keeps spelling reading is_record frame_bytes counts again tells told (respelled_seen spelling l before) (respelled_seen spelling l after) (respelled_store spelling store) (respelled_journal spelling journal) rules trip entry
      (sized_respelled spelling l before sized) (star before store old rules trip k) up (kept_respelled spelling tells after journal l more.0 more.1 kept_on) (ap (respelled_journal spelling) noted ∙ entry_respelled spelling entry store.journal) (λ t. e) is_rec fits in
      let synced : n ≤ (taken_as store.standing after.image).synced =
      omega (arith, held_synced before store old rules trip k (ap is_failing up), ap (λ (i : Image). i.synced) (taken_sound store.standing after.image (ap is_failing up)), ap (λ (i : Image). i.synced) (images told)) in
      let all : AllByRecursion is_record (values journal.entries) = new_store.noted_are_records spelling reading is_record frame_bytes counts again store.journal journal entry (inl noted) k.are_records is_rec in
      goes (taken_as store.standing before.image) after (record { journal = journal; trip = store.trip; standing = store.standing }) old rules (after_call frame_bytes rules (Append entry)) trip more.0 k.front refl more.1 kept_on all synced done

  pub append_fails : (before after : Seen) (store : Stored R) (journal : Kept R) (old : Old R) (rules : Disk R) (trip : Option Trip) (entry : R) → length before.image.bytes ≡ before.size
      → KeepsBehind spelling is_record frame_bytes tells before store old rules trip → store.standing ≡ Up → IsSound before.image
      → IsKeptOn spelling tells after journal → NotesOrNot spelling entry store.journal journal
      → (IsTrue tells → AppendsSome (frame (spelling entry)) before.image after.image)
      → is_record entry → IsPayload (spelling entry)
      → (n : ℕ) × (cut : ℕ) × KeepsBehind spelling is_record frame_bytes tells after (record { journal = journal; trip = None; standing = Failing }) old (stopped_disk frame_bytes n cut rules (Append entry ∷ [])) None
  append_fails before after store journal old rules trip entry sized k up sound kept_on noted images is_rec fits =
      let l = old_standing old rules in
      let news = news_of old rules in
      let there = held before store.journal l news k.records k.kept_on in
      let more = noted_news spelling l news entry store.journal journal k.records noted in
      let all : AllByRecursion is_record (values journal.entries) = new_store.noted_are_records spelling reading is_record frame_bytes counts again store.journal journal entry noted k.are_records is_rec in
      let (n, cut, done) = new_store.append_fails spelling reading is_record frame_bytes counts again tells told (respelled_seen spelling l before) (respelled_seen spelling l after) (respelled_store spelling store) (respelled_journal spelling journal) rules trip entry
      (sized_respelled spelling l before sized) (star before store old rules trip k) up (sound_respelled spelling l before.image sound) (kept_respelled spelling tells after journal l more.0 more.1 kept_on) (notes_respelled spelling entry store.journal journal noted)
      (λ t. respelled_appends spelling l (frame (spelling entry)) before.image after.image there (images t)) is_rec fits in (
        n,
        cut,
        goes (taken_as store.standing before.image) after (record { journal = journal; trip = None; standing = Failing }) old rules (stopped_disk frame_bytes n cut rules (Append entry ∷ [])) None more.0 k.front
            (stopped_trims n cut rules (Append entry) (λ d. refl)) more.1 kept_on all (held after journal l more.0 more.1 kept_on) done,
      )

  pub sync_keeps : (before after : Seen) (store : Stored R) (old : Old R) (rules : Disk R) (trip : Option Trip)
      → KeepsBehind spelling is_record frame_bytes tells before store old rules trip → store.standing ≡ Up → IsSound before.image
      → (IsTrue tells → after.image ≡ all_synced before.image) → after.size ≡ before.size → before.spare ≤ after.spare
      → KeepsBehind spelling is_record frame_bytes tells after store old (after_call frame_bytes rules Sync) trip
  sync_keeps before after store old rules trip k up sound images sizes_same room =
      let l = old_standing old rules in
      let news = news_of old rules in
      let e : respelled spelling l after.image ≡ all_synced (respelled spelling l before.image) = ap (respelled spelling l) (images told) ∙ respelled_sync spelling l before.image in
      let kept_on = synced_on spelling reading is_record frame_bytes counts again tells told before after store.journal k.kept_on (ap (λ (i : Image). i.bytes) (images told)) sizes_same room in
      let done = new_store.sync_keeps spelling reading is_record frame_bytes counts again tells told (respelled_seen spelling l before) (respelled_seen spelling l after) (respelled_store spelling store) rules trip
      (star before store old rules trip k) up (sound_respelled spelling l before.image sound) (λ t. e) (ap (λ (s : ℕ). spelled_size (record_frame spelling) (values l) + (s - spelled_size (entry_frame spelling) l)) sizes_same) room in
      let synced : spelled_size (entry_frame spelling) l ≤ (taken_as store.standing after.image).synced =
      omega (arith, held after store.journal l news k.records kept_on, ap (λ (i : Image). i.synced) (taken_sound store.standing after.image (ap is_failing up)), ap (λ (i : Image). i.synced) (images told), ap (λ (i : Image). length i.bytes) (images told)) in
      goes (taken_as store.standing before.image) after store old rules (after_call frame_bytes rules Sync) trip news k.front refl k.records kept_on k.are_records synced done

  pub sync_fails : (before after : Seen) (store : Stored R) (old : Old R) (rules : Disk R) (trip : Option Trip)
      → KeepsBehind spelling is_record frame_bytes tells before store old rules trip → store.standing ≡ Up
      → (IsTrue tells → SyncsSome before.image after.image) → after.size ≡ before.size → before.spare ≤ after.spare
      → (n : ℕ) × (cut : ℕ) × KeepsBehind spelling is_record frame_bytes tells after (record { journal = store.journal; trip = None; standing = Failing }) old (stopped_disk frame_bytes n cut rules (Sync ∷ [])) None
  sync_fails before after store old rules trip k up images sizes_same room =
      let l = old_standing old rules in
      let news = news_of old rules in
      let kept_on = synced_on spelling reading is_record frame_bytes counts again tells told before after store.journal k.kept_on (images told).bytes sizes_same room in
      let (n, cut, done) = new_store.sync_fails spelling reading is_record frame_bytes counts again tells told (respelled_seen spelling l before) (respelled_seen spelling l after) (respelled_store spelling store) rules trip
      (star before store old rules trip k) up (λ t. respelled_syncs spelling l before.image after.image (images t)) (ap (λ (s : ℕ). spelled_size (record_frame spelling) (values l) + (s - spelled_size (entry_frame spelling) l)) sizes_same) room in (
        n,
        cut,
        goes (taken_as store.standing before.image) after (record { journal = store.journal; trip = None; standing = Failing }) old rules (stopped_disk frame_bytes n cut rules (Sync ∷ [])) None news k.front
            (stopped_trims n cut rules Sync (λ d. refl)) k.records kept_on k.are_records (held after store.journal l news k.records kept_on) done,
      )

  pub reserve_keeps : (before after : Seen) (store : Stored R) (journal : Kept R) (old : Old R) (rules : Disk R) (trip : Option Trip)
      → KeepsBehind spelling is_record frame_bytes tells before store old rules trip → IsKeptOn spelling tells after journal
      → journal.entries ≡ store.journal.entries → journal.is_torn ≡ store.journal.is_torn → (IsTrue tells → after.image ≡ before.image)
      → KeepsBehind spelling is_record frame_bytes tells after (record { journal = journal; trip = store.trip; standing = store.standing }) old rules trip
  reserve_keeps before after store journal old rules trip k kept_on listed torn images = record {
    kept_on = kept_on;
    stands = subst (λ (i : Image). StandsFor spelling frame_bytes (respelled spelling (old_standing old rules) (taken_as store.standing i)) rules) (sym (images told)) k.stands;
    torn = subst (λ (i : Image). IsTornBy spelling is_record frame_bytes (respelled spelling (old_standing old rules) (taken_as store.standing i)) rules) (sym (images told)) k.torn;
    records = listed ∙ k.records;
    are = ap values listed ∙ k.are;
    are_records = rw listed k.are_records;
    written = k.written;
    front = subst (λ (i : Image). IsFirmFront spelling old.end (old_standing old rules) (taken_as store.standing i) rules) (sym (images told)) k.front;
    trip = k.trip;
    armed = k.armed;
    in_order = in_order_same store.standing store.journal journal rules torn k.in_order;
  }

  pub cut_keeps : (before after : Seen) (store : Stored R) (journal : Kept R) (old : Old R) (rules : Disk R) (trip : Option Trip)
      → KeepsBehind spelling is_record frame_bytes tells before store old rules trip
      → IsKeptOn spelling tells after journal → journal.entries ≡ store.journal.entries → journal.is_torn ≡ false
      → (IsTrue tells → after.image ≡ synced_bytes (spelled (entry_frame spelling) store.journal.entries))
      → KeepsBehind spelling is_record frame_bytes tells after (record { journal = journal; trip = store.trip; standing = Up }) old (after_call frame_bytes rules CutBack) trip
  cut_keeps before after store journal old rules trip k kept_on listed torn images =
      let l = old_standing old rules in
      let news = news_of old rules in
      let done = new_cut.cut_keeps spelling reading is_record frame_bytes counts again tells told (respelled_seen spelling l before) (respelled_seen spelling l after) (respelled_store spelling store) (respelled_journal spelling journal) rules trip
      (star before store old rules trip k) (kept_respelled spelling tells after journal l news (listed ∙ k.records) kept_on) (ap (λ (es : List (Entry R)). map as_written (values es)) listed) torn
      (λ t. ap (respelled spelling l) (images t) ∙ respelled_frames spelling l news store.journal.entries k.records) in
      let synced : spelled_size (entry_frame spelling) l ≤ after.image.synced =
      omega (arith, held after journal l news (listed ∙ k.records) kept_on, ap (λ (i : Image). i.synced) (images told), ap (λ (i : Image). length i.bytes) (images told)) in
      goes (taken_as store.standing before.image) after (record { journal = journal; trip = store.trip; standing = Up }) old rules (after_call frame_bytes rules CutBack) trip news k.front refl (listed ∙ k.records) kept_on (rw listed k.are_records) synced done

  pub cut_fails : (before after : Seen) (store : Stored R) (journal : Kept R) (old : Old R) (rules : Disk R) (trip : Option Trip)
      → KeepsBehind spelling is_record frame_bytes tells before store old rules trip → is_up store.standing ≡ false
      → IsKeptOn spelling tells after journal → journal.entries ≡ store.journal.entries
      → (IsTrue tells → CutsOrNot (spelled_size (entry_frame spelling) store.journal.entries) before.image after.image)
      → (n : ℕ) × (cut : ℕ) × KeepsBehind spelling is_record frame_bytes tells after (record { journal = journal; trip = None; standing = Failing }) old (stopped_disk frame_bytes n cut rules (CutBack ∷ [])) None
  cut_fails before after store journal old rules trip k stopped kept_on listed images =
      let l = old_standing old rules in
      let news = news_of old rules in
      let (n, cut, done) = new_cut.cut_fails spelling reading is_record frame_bytes counts again tells told (respelled_seen spelling l before) (respelled_seen spelling l after) (respelled_store spelling store) (respelled_journal spelling journal) rules trip
      (star before store old rules trip k) stopped (kept_respelled spelling tells after journal l news (listed ∙ k.records) kept_on) (ap (λ (es : List (Entry R)). map as_written (values es)) listed)
      (λ t. respelled_cuts spelling l news store.journal.entries before.image after.image k.records (images t)) in (
        n,
        cut,
        goes (taken_as store.standing before.image) after (record { journal = journal; trip = None; standing = Failing }) old rules (stopped_disk frame_bytes n cut rules (CutBack ∷ [])) None news k.front
            (stopped_trims n cut rules CutBack (λ d. refl)) (listed ∙ k.records) kept_on (rw listed k.are_records) (held after journal l news (listed ∙ k.records) kept_on) done,
      )

  pub opens : (seen : Seen) (store : Stored R) (old : Old R) (rules : Disk R) (trip : Option Trip) → KeepsBehind spelling is_record frame_bytes tells seen store old rules trip → store.standing ≡ Down → store.journal.is_torn ≡ false
      → KeepsBehind spelling is_record frame_bytes tells seen (record { journal = store.journal; trip = store.trip; standing = Up }) old rules trip
  opens seen store old rules trip k down torn =
      let l = old_standing old rules in
      let done = new_cut.opens spelling reading is_record frame_bytes counts again tells told (respelled_seen spelling l seen) (respelled_store spelling store) rules trip (star seen store old rules trip k) down torn in
      goes (taken_as store.standing seen.image) seen (record { journal = store.journal; trip = store.trip; standing = Up }) old rules rules trip (news_of old rules) k.front refl k.records k.kept_on k.are_records
      (held_synced seen store old rules trip k (ap is_failing down)) done

  pub opens_synced : (before after : Seen) (store : Stored R) (journal : Kept R) (old : Old R) (rules : Disk R) (trip : Option Trip) → length before.image.bytes ≡ before.size
      → KeepsBehind spelling is_record frame_bytes tells before store old rules trip → is_up store.standing ≡ false → store.journal.is_torn ≡ false
      → IsKeptOn spelling tells after journal → journal.entries ≡ store.journal.entries → journal.is_torn ≡ false
      → (IsTrue tells → after.image ≡ synced_bytes (spelled (entry_frame spelling) store.journal.entries))
      → KeepsBehind spelling is_record frame_bytes tells after (record { journal = journal; trip = store.trip; standing = Up }) old rules trip
  opens_synced before after store journal old rules trip sized k stopped whole kept_on listed torn images =
      let l = old_standing old rules in
      let same = new_cut.cut_same spelling reading is_record frame_bytes counts again tells told (respelled_seen spelling l before) (respelled_store spelling store) rules trip (sized_respelled spelling l before sized) (star before store old rules trip k) stopped whole in
      subst (λ (d : Disk R). KeepsBehind spelling is_record frame_bytes tells after (record { journal = journal; trip = store.trip; standing = Up }) old d trip) same
      (cut_keeps before after store journal old rules trip k kept_on listed torn images)

  pub open_fails : (before after : Seen) (store : Stored R) (journal : Kept R) (old : Old R) (rules : Disk R) (trip : Option Trip) → length before.image.bytes ≡ before.size
      → KeepsBehind spelling is_record frame_bytes tells before store old rules trip → is_up store.standing ≡ false → store.journal.is_torn ≡ false
      → IsKeptOn spelling tells after journal → journal.entries ≡ store.journal.entries
      → (IsTrue tells → CutsOrNot (spelled_size (entry_frame spelling) store.journal.entries) before.image after.image)
      → (n : ℕ) × (cut : ℕ) × KeepsBehind spelling is_record frame_bytes tells after (record { journal = journal; trip = None; standing = Failing }) old (stopped_disk frame_bytes n cut rules []) None
  open_fails before after store journal old rules trip sized k stopped whole kept_on listed images =
      let l = old_standing old rules in
      let news = news_of old rules in
      let (n, cut, done) = new_ends.open_fails spelling reading is_record frame_bytes counts again tells told (respelled_seen spelling l before) (respelled_seen spelling l after) (respelled_store spelling store) (respelled_journal spelling journal) rules trip
      (sized_respelled spelling l before sized) (star before store old rules trip k) stopped whole (kept_respelled spelling tells after journal l news (listed ∙ k.records) kept_on) (ap (λ (es : List (Entry R)). map as_written (values es)) listed)
      (λ t. respelled_cuts spelling l news store.journal.entries before.image after.image k.records (images t)) in (
        n,
        cut,
        goes (taken_as store.standing before.image) after (record { journal = journal; trip = None; standing = Failing }) old rules (stopped_disk frame_bytes n cut rules []) None news k.front
            (nothing_trims n cut rules) (listed ∙ k.records) kept_on (rw listed k.are_records) (held after journal l news (listed ∙ k.records) kept_on) done,
      )
    where
      nothing_trims : (n cut : ℕ) (rules : Disk R) → (stopped_disk frame_bytes n cut rules []).trimmed ≡ rules.trimmed
      nothing_trims zero cut rules = refl
      nothing_trims (suc n) cut rules = refl

  pub ends_at_once : (seen : Seen) (store : Stored R) (old : Old R) (rules : Disk R) (trip : Option Trip) → KeepsBehind spelling is_record frame_bytes tells seen store old rules trip
      → Passes trip 0 × KeepsBehind spelling is_record frame_bytes tells seen store old rules (used 0 trip)
  ends_at_once seen store old rules trip k =
      let none = used_none trip in
      let P : Option Trip → Type 0 = λ t. Passes t 0 in
      (subst P k.trip (passes_none store.trip k.armed), rw none k)

  pub all_synced_there : (seen : Seen) (store : Stored R) (old : Old R) (rules : Disk R) (trip : Option Trip) → length seen.image.bytes ≡ seen.size → KeepsBehind spelling is_record frame_bytes tells seen store old rules trip → store.standing ≡ Up → rules.synced ≡ rules.length
      → spelled_size (entry_frame spelling) store.journal.entries ≤ seen.image.synced
  all_synced_there seen store old rules trip sized k up synced =
      let l = old_standing old rules in
      let news = news_of old rules in
      let there = new_trim.all_synced_there spelling reading is_record frame_bytes counts again tells told (respelled_seen spelling l seen) (respelled_store spelling store) rules trip (sized_respelled spelling l seen sized) (star seen store old rules trip k) up synced in
      omega (arith, there, size_stands spelling l news store.journal.entries k.records, size_respelled spelling l news store.journal.entries k.records, ap (λ (i : Image). i.synced) (respelled_is spelling l seen.image), new_length spelling l, held_synced seen store old rules trip k (ap is_failing up))

  pub trim_fails : (before after : Seen) (store : Stored R) (journal : Kept R) (old : Old R) (rules : Disk R) (trip : Option Trip)
      → KeepsBehind spelling is_record frame_bytes tells before store old rules trip → store.standing ≡ Up → rules.synced ≡ rules.length
      → IsKeptOn spelling tells after journal → journal ≡ store.journal → (IsTrue tells → after.image ≡ before.image)
      → (n : ℕ) × (cut : ℕ) × KeepsBehind spelling is_record frame_bytes tells after (record { journal = journal; trip = None; standing = Failing }) old (stopped_disk frame_bytes n cut rules (TrimFront ∷ [])) None
  trim_fails before after store journal old rules trip k up synced kept_on same images =
      let l = old_standing old rules in
      let news = news_of old rules in
      let s = star before store old rules trip k in
      let i = respelled spelling l before.image in
      let here = new_store.sound_stands spelling reading is_record frame_bytes counts again tells told (respelled_seen spelling l before) (respelled_store spelling store) rules trip s (ap is_failing up) in
      let n = new_store.sizes spelling reading is_record frame_bytes counts again i rules here in
      let whole : i.synced ≡ length i.bytes = omega (arith, n.0, n.1, synced) in
      let bytes : (respelled spelling l after.image).bytes ≡ take (kept_bytes 0 i) i.bytes = ap (λ (x : Image). (respelled spelling l x).bytes) (images told) ∙ sym (take_all (kept_bytes 0 i) i.bytes (omega (arith, whole))) in
      let listed : journal.entries ≡ l ++ map as_written news = ap (λ (j : Kept R). j.entries) same ∙ k.records in
      let all : AllByRecursion is_record (values journal.entries) = rw same k.are_records in
      let there = new_store.sound_torn spelling reading is_record frame_bytes counts again tells told (respelled_seen spelling l before) (respelled_store spelling store) rules trip s (ap is_failing up) in
      let done = failing_keeps spelling reading is_record frame_bytes counts again tells told (respelled_seen spelling l after) (respelled_journal spelling journal) i rules 0 here there s.front bytes k.written
      (kept_respelled spelling tells after journal l news listed kept_on) (all_respelled journal.entries all) in
      (0, 0, goes (taken_as store.standing before.image) after (record { journal = journal; trip = None; standing = Failing }) old rules (after_call frame_bytes rules (Stops 0)) None news k.front refl listed kept_on all (held after journal l news listed kept_on) done)

  -- what holds where nothing old stands
  none_behind : (seen : Seen) (store : Stored R) (old : Old R) (rules : Disk R) (trip : Option Trip) → old_standing old rules ≡ [] → Keeps spelling is_record frame_bytes tells seen store rules trip
      → KeepsBehind spelling is_record frame_bytes tells seen store old rules trip
  none_behind seen store old rules trip none k = record {
    kept_on = k.kept_on;
    stands = subst (λ (m : List (Entry R)). StandsFor spelling frame_bytes (respelled spelling m (taken_as store.standing seen.image)) rules) (sym none) k.stands;
    torn = subst (λ (m : List (Entry R)). IsTornBy spelling is_record frame_bytes (respelled spelling m (taken_as store.standing seen.image)) rules) (sym none) k.torn;
    records = subst (λ (m : List (Entry R)). store.journal.entries ≡ entries_behind m (reverse (journal_of frame_bytes rules))) (sym none) k.records;
    are = k.are;
    are_records = k.are_records;
    written = k.written;
    front = subst (λ (m : List (Entry R)). IsFirmFront spelling old.end m (taken_as store.standing seen.image) rules) (sym none) k.front;
    trip = k.trip;
    armed = k.armed;
    in_order = k.in_order;
  }

  -- where old entries end
  firm_ends : (old : Old R) (l : List (Entry R)) (image : Image) (rules : Disk R) → IsFirmFront spelling old.end l image rules → 0 < length l → old.end ≡ rules.trimmed + spelled_size (record_frame spelling) (values l)
  firm_ends old [] image rules f some = absurd (omega (arith, some))
  firm_ends old (e ∷ l) image rules f some = sym f.ends

  pub trim_keeps : (P : R → Type 0) (before after : Seen) (store : Stored R) (journal : Kept R) (old : Old R) (rules : Disk R) (trip : Option Trip) → length before.image.bytes ≡ before.size
      → KeepsBehind spelling is_record frame_bytes tells before store old rules trip → store.standing ≡ Up → rules.synced ≡ rules.length → length (old_standing old rules) < length store.journal.entries → EndsWith P (values store.journal.entries)
      → IsKeptOn spelling tells after journal → journal ≡ record store.journal { entries = last_alone store.journal.entries }
      → (IsTrue tells → after.image ≡ trimmed_to (spelled_size (entry_frame spelling) (before_last store.journal.entries)) before.image)
      → KeepsBehind spelling is_record frame_bytes tells after (record { journal = journal; trip = store.trip; standing = store.standing }) old (after_call frame_bytes rules TrimFront) trip
  trim_keeps P before after store journal old rules trip sized k up synced newer ends kept_on left images =
      let l = old_standing old rules in
      let news = news_of old rules in
      let ys : List (Entry R) = map as_written news in
      let entries = store.journal.entries in
      let first : List (Entry R) = map as_written (values l) in
      let again_entries : List (Entry R) = map as_written (values entries) in
      let some : 0 < length ys = omega (arith, newer, ap length k.records, length-append l ys) in
      let turned : again_entries ≡ first ++ ys = ap (map as_written) (ap values k.records ∙ values_front spelling l news) ∙ map-append as_written (values l) news in
      let lasts : last_alone entries ≡ last_alone again_entries = ap last_alone k.records ∙ last_alone_of l ys some ∙ sym (ap last_alone turned ∙ last_alone_of first ys some) in
      let m = spelled_size (entry_frame spelling) (before_last ys) in
      let shape = entry_frame spelling in
      let stands : spelled_size shape (before_last entries) ≡ spelled_size shape l + m = ap (λ (es : List (Entry R)). spelled_size shape (before_last es)) k.records ∙ ap (spelled_size shape) (before_last_of l ys some) ∙ size_append spelling shape l (before_last ys) in
      let anew : spelled_size shape (before_last again_entries) ≡ spelled_size (record_frame spelling) (values l) + m =
      ap (λ (es : List (Entry R)). spelled_size shape (before_last es)) turned ∙ ap (spelled_size shape) (before_last_of first ys some) ∙ size_append spelling shape first (before_last ys)
      ∙ ap (λ (w : ℕ). w + m) (ap frames_size (written_frames spelling (values l))) in
      let e : after.image ≡ trimmed_to (spelled_size shape (before_last again_entries)) (respelled spelling l before.image) =
      images told ∙ ap (λ (n : ℕ). trimmed_to n before.image) stands ∙ sym (respelled_trim spelling l m before.image) ∙ ap (λ (n : ℕ). trimmed_to n (respelled spelling l before.image)) (sym anew) in
      let s = star before store old rules trip k in
      let ends_again : EndsWith P (values again_entries) = subst (EndsWith P) (sym (written_values (values entries))) ends in
      let there : journal ≡ record (respelled_journal spelling store.journal) { entries = last_alone again_entries } =
      left ∙ ap (λ (es : List (Entry R)). let j : Kept R = record store.journal { entries = es } in j) lasts in
      let done = new_trim.trim_keeps spelling reading is_record frame_bytes counts again tells told P (respelled_seen spelling l before) after (respelled_store spelling store) journal rules trip (sized_respelled spelling l before sized) s up synced ends_again kept_on there (λ t. e) in
      let place = new_trim.front_is spelling reading is_record frame_bytes counts again tells told P (respelled_seen spelling l before) (respelled_store spelling store) rules trip s ends_again in
      let none : old_standing old (after_call frame_bytes rules TrimFront) ≡ [] = trimmed_old old.end old.entries rules.trimmed (bytes_of frame_bytes (before_newest rules.records)) (omega (arith, place))
      (λ old_some. let ended = firm_ends old l (taken_as store.standing before.image) rules k.front old_some in omega (arith, place, anew, ended)) in
      none_behind after (record { journal = journal; trip = store.trip; standing = store.standing }) old (after_call frame_bytes rules TrimFront) trip none done
