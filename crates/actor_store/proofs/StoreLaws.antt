-- What a store stands for after each call.
use Rattle.std.proofs.Common.{◌≡◌, ℕ, ◌+◌, ◌-◌, ◌≤◌, min, Bool, false, ltb, IsTrue, Option, None, List, [], ◌∷◌, ◌++◌, length, map, take, drop, refl, sym, ap, subst, ◌∙◌, arith, inl, inr, Some}
use Rattle.std.specs.Prelude.{reverse}
use Rattle.std.specs.List.{AllByRecursion}
use Rattle.std.proofs.Math.Seq.{take-append-add}
use Rattle.std.proofs.lemmas.List.{length-append, length-map, length-reverse, take_all}
use Rattle.mdb_base.specs.Words.{map_some}
use Rattle.fed_rules.specs.Disk.{Append, Sync, Stops, Disk, after_call, bytes_of, is_torn, journal as journal_of}
use Rattle.fed_rules.specs.Happenings.{Trip}
use Rattle.journal_disk.specs.Disk.{Image, Seen, appended, all_synced, stopped, kept_bytes, synced_bytes, AppendsSome, SyncsSome, IsSound}
use Rattle.journal_disk.specs.Frames.{IsPayload, frame}
use Rattle.frame_journal.specs.Journal.{Kept, IsKeptOn, NotesOrNot, with_entry}
use Rattle.frame_journal.specs.Records.{Entry, as_written, entry_frame, spelled_size, values}
use Rattle.journal_rules.specs.Stands.{CountsFrames, StandsFor}
use Rattle.journal_rules.specs.Torn.{IsRestOf, IsTornBy}
use Rattle.journal_rules.proofs.ForCallers.{all_whole, call_stands, call_torn, entries_follow, torn_follows, written_values}
use Rattle.actor_store.specs.declared.store.SetTrip.{SetTrip}
use Rattle.actor_store.specs.declared.store.Standing.{Standing}
use Rattle.actor_store.specs.declared.store.Standing.TheVariants.{Up, Down, Failing}
use Rattle.actor_store.specs.Store.{Stored, IsArmed, IsInOrder, Keeps, StopsWith, is_failing, is_up, taken_as, trip_of_rules, stopped_disk}

-- what isn't failing is taken as it is
pub taken_sound : (standing : Standing) (image : Image) → is_failing standing ≡ false → taken_as standing image ≡ image
taken_sound Up image e = refl
taken_sound Down image e = refl
taken_sound Failing image e = cc

pub taken_bytes : (standing : Standing) (image : Image) → (taken_as standing image).bytes ≡ image.bytes
taken_bytes Up image = refl
taken_bytes Down image = refl
taken_bytes Failing image = refl

-- what is seen of the disk, taken as the standing says
abbrev pub taken : Standing → Seen → Seen
taken standing seen = record seen { image = taken_as standing seen.image }

pub kept_taken : {R : Type 0} (spelling : R → List ℕ) (tells : Bool) (standing : Standing) (seen : Seen) (journal : Kept R) → IsKeptOn spelling tells seen journal → IsKeptOn spelling tells (taken standing seen) journal
kept_taken spelling tells standing seen journal k =
    let same = taken_bytes standing seen.image in
    record { records = (λ t. rw same (k.records t)); whole = k.whole; is_torn = k.is_torn; room = k.room }

values_push : {R : Type 0} (P : R → Type 0) (entries : List (Entry R)) (entry : R) → AllByRecursion P (values entries) → P entry → AllByRecursion P (values (entries ++ as_written entry ∷ []))
values_push P [] entry all holds = (holds, tt)
values_push P (first ∷ entries) entry all holds = (all.0, values_push P entries entry all.1 holds)

module _ {R : Type 0} (spelling : R → List ℕ) (reading : List ℕ → Option R) (is_record : R → Type 0) (frame_bytes : R → ℕ) (counts : CountsFrames spelling frame_bytes) (again : (entry : R) → is_record entry → reading (spelling entry) ≡ Some entry) where
  -- a failed note leaves records
  pub noted_are_records : (old new : Kept R) (entry : R) → NotesOrNot spelling entry old new → AllByRecursion is_record (values old.entries) → is_record entry → AllByRecursion is_record (values new.entries)
  noted_are_records old new entry (inl noted) all is = let e : new.entries ≡ old.entries ++ as_written entry ∷ [] = ap (λ j. j.entries) noted in rw e (values_push is_record old.entries entry all is)
  noted_are_records old new entry (inr not) all is = let e : new.entries ≡ old.entries = ap (λ j. j.entries) not in rw e all

  -- while an actor is down, all that it holds is synced
  pub settled : (standing : Standing) (journal : Kept R) (rules : Disk R) → is_up standing ≡ false → IsInOrder standing journal rules → rules.synced ≡ rules.length
  settled Up journal rules e o = cc
  settled Down journal rules e o = o
  settled Failing journal rules e o = o

  -- how many bytes stand, and how many of them are synced
  pub sizes : (image : Image) (rules : Disk R) → StandsFor spelling frame_bytes image rules → (rules.length ≡ rules.trimmed + length image.bytes) × (rules.synced ≡ rules.trimmed + image.synced)
  sizes image rules s =
      let all : length (s.front ++ image.bytes) ≡ rules.length = s.all.bytes in
      let synced : length s.front + image.synced ≡ rules.synced = s.all.synced in
      let t = s.trimmed in
      (omega (arith, all, length-append s.front image.bytes, t), omega (arith, synced, t))

  -- what stands behind the last whole frame, synced or not
  pub torn_bytes : (standing : Standing) (image : Image) (rules : Disk R) → IsTornBy spelling is_record frame_bytes (taken_as standing image) rules → IsTornBy spelling is_record frame_bytes image rules
  torn_bytes standing image rules torn =
      subst (λ (bytes : List ℕ). IsRestOf spelling is_record rules.lost (drop (bytes_of frame_bytes rules.records - rules.trimmed) bytes)) (taken_bytes standing image) torn

  -- a stop follows the rules, and leaves what was trimmed before it
  pub call_follows : (image : Image) (rules : Disk R) (cut : ℕ) → StandsFor spelling frame_bytes image rules → rules.trimmed ≤ rules.synced → StandsFor spelling frame_bytes (stopped cut image) (after_call frame_bytes rules (Stops cut))
  call_follows image rules cut s front = call_stands spelling frame_bytes counts image rules (Stops cut) s front

  pub stop_front : (image : Image) (rules : Disk R) (cut : ℕ) → StandsFor spelling frame_bytes image rules → rules.trimmed ≤ rules.synced → rules.trimmed ≤ min rules.length (rules.synced + cut)
  stop_front image rules cut s front = let n = sizes image rules s in omega (arith, n.0, front)

  -- a failed call leaves bytes that some stop leaves
  pub fail_stands : (i new : Image) (rules : Disk R) (cut : ℕ) → StandsFor spelling frame_bytes i rules → rules.trimmed ≤ rules.synced → new.bytes ≡ take (kept_bytes cut i) i.bytes → StandsFor spelling frame_bytes (all_synced new) (after_call frame_bytes rules (Stops cut))
  fail_stands i new rules cut s front e =
      let same : all_synced new ≡ stopped cut i = ap synced_bytes e in
      rw same (call_follows i rules cut s front)

  -- and tore the frame that the stop cuts
  pub fail_torn : (i new : Image) (rules : Disk R) (cut : ℕ) → StandsFor spelling frame_bytes i rules → rules.trimmed ≤ rules.synced → IsTornBy spelling is_record frame_bytes i rules → new.bytes ≡ take (kept_bytes cut i) i.bytes
      → IsTornBy spelling is_record frame_bytes (all_synced new) (after_call frame_bytes rules (Stops cut))
  fail_torn i new rules cut s front torn e =
      let same : all_synced new ≡ stopped cut i = ap synced_bytes e in
      subst (λ (j : Image). IsTornBy spelling is_record frame_bytes j (after_call frame_bytes rules (Stops cut))) (sym same) (call_torn spelling frame_bytes counts is_record i rules (Stops cut) s front torn)

  module _ (tells : Bool) (told : IsTrue tells) where
    -- the facts of which the others follow
    pub built : (seen : Seen) (journal : Kept R) (standing : Standing) (trip : Option SetTrip) (rules : Disk R) (in_force : Option Trip) → IsKeptOn spelling tells seen journal → StandsFor spelling frame_bytes (taken_as standing seen.image) rules
        → IsTornBy spelling is_record frame_bytes (taken_as standing seen.image) rules → AllByRecursion is_record (values journal.entries) → AllByRecursion is_record rules.records → rules.trimmed ≤ rules.synced → map_some trip_of_rules trip ≡ in_force → IsArmed trip → IsInOrder standing journal rules
        → Keeps spelling is_record frame_bytes tells seen (record { journal = journal; trip = trip; standing = standing }) rules in_force
    built seen journal standing trip rules in_force kept stands torn entries written front is armed in_order =
        let records : journal.entries ≡ map as_written (reverse (journal_of frame_bytes rules)) =
        entries_follow spelling reading is_record frame_bytes counts again tells (taken standing seen) journal rules told (kept_taken spelling tells standing seen journal kept) stands entries written in
        record {
          kept_on = kept;
          stands = stands;
          torn = torn;
          records = records;
          are = ap values records ∙ written_values (reverse (journal_of frame_bytes rules));
          are_records = entries;
          written = written;
          front = front;
          trip = is;
          armed = armed;
          in_order = in_order;
        }

    -- the journal knows whether the disk of the rules is torn
    pub torn_agrees : (seen : Seen) (store : Stored R) (rules : Disk R) (trip : Option Trip) → length seen.image.bytes ≡ seen.size → Keeps spelling is_record frame_bytes tells seen store rules trip → store.journal.is_torn ≡ is_torn frame_bytes rules
    torn_agrees seen store rules trip sized k =
        torn_follows spelling frame_bytes counts tells (taken store.standing seen) store.journal rules told (ap length (taken_bytes store.standing seen.image) ∙ sized)
        (kept_taken spelling tells store.standing seen store.journal k.kept_on) k.stands

    pub sound_stands : (seen : Seen) (store : Stored R) (rules : Disk R) (trip : Option Trip) → Keeps spelling is_record frame_bytes tells seen store rules trip → is_failing store.standing ≡ false → StandsFor spelling frame_bytes seen.image rules
    sound_stands seen store rules trip k sound = let e = taken_sound store.standing seen.image sound in rw e at k.stands

    pub sound_torn : (seen : Seen) (store : Stored R) (rules : Disk R) (trip : Option Trip) → Keeps spelling is_record frame_bytes tells seen store rules trip → is_failing store.standing ≡ false → IsTornBy spelling is_record frame_bytes seen.image rules
    sound_torn seen store rules trip k sound = subst (λ (i : Image). IsTornBy spelling is_record frame_bytes i rules) (taken_sound store.standing seen.image sound) k.torn

    pub stop_keeps : (old new : Seen) (store : Stored R) (journal : Kept R) (rules : Disk R) (trip : Option Trip) (cut kept : ℕ)
        → Keeps spelling is_record frame_bytes tells old store rules trip → is_failing store.standing ≡ false
        → IsKeptOn spelling tells new journal → kept ≡ length (values journal.entries) → AllByRecursion is_record (values journal.entries)
        → (IsTrue tells → new.image ≡ stopped cut old.image)
        → StopsWith frame_bytes (Keeps spelling is_record frame_bytes tells new (record { journal = journal; trip = None; standing = Down })) rules cut kept
    stop_keeps old new store journal rules trip cut kept k sound kept_on count are_records images =
        let here = sound_stands old store rules trip k sound in
        let e : new.image ≡ stopped cut old.image = images told in
        let after = after_call frame_bytes rules (Stops cut) in
        let now : StandsFor spelling frame_bytes new.image after = rw e (call_follows old.image rules cut here k.front) in
        let torn : IsTornBy spelling is_record frame_bytes new.image after =
        subst (λ (i : Image). IsTornBy spelling is_record frame_bytes i after) (sym e) (call_torn spelling frame_bytes counts is_record old.image rules (Stops cut) here k.front (sound_torn old store rules trip k sound)) in
        let done = built new journal Down None after None kept_on now torn are_records (all_whole is_record frame_bytes (min rules.length (rules.synced + cut)) rules.records k.written) (stop_front old.image rules cut here k.front) refl tt refl in
        let listed = done.records in
        (done, omega (arith, count, ap length listed, length-map journal.entries (λ entry. entry.value), length-map (reverse (journal_of frame_bytes after)) (as_written {R = R}), length-reverse (journal_of frame_bytes after)))

    -- a journal on a disk whose bytes stayed
    pub synced_on : (old new : Seen) (journal : Kept R) → IsKeptOn spelling tells old journal → new.image.bytes ≡ old.image.bytes → new.size ≡ old.size → old.spare ≤ new.spare → IsKeptOn spelling tells new journal
    synced_on old new journal kept_on same sizes room = record {
      records = (λ t. rw same (kept_on.records t));
      whole = omega (arith, kept_on.whole, sizes);
      is_torn = kept_on.is_torn ∙ ap (λ n. ltb (spelled_size (entry_frame spelling) journal.entries) n) (sym sizes);
      room = omega (arith, kept_on.room, room);
    }

    -- an append that was done
    pub append_keeps : (old new : Seen) (store : Stored R) (journal : Kept R) (rules : Disk R) (trip : Option Trip) (entry : R) → length old.image.bytes ≡ old.size
        → Keeps spelling is_record frame_bytes tells old store rules trip → store.standing ≡ Up
        → IsKeptOn spelling tells new journal → journal ≡ with_entry spelling entry store.journal
        → (IsTrue tells → new.image ≡ appended (frame (spelling entry)) old.image)
        → is_record entry → IsPayload (spelling entry)
        → Keeps spelling is_record frame_bytes tells new (record { journal = journal; trip = store.trip; standing = store.standing }) (after_call frame_bytes rules (Append entry)) trip
    append_keeps old new store journal rules trip entry sized k up kept_on noted images is_rec fits =
        let torn : store.journal.is_torn ≡ false = let P : Standing → Type 0 = λ st. IsInOrder st store.journal rules in subst P up k.in_order in
        let here = sound_stands old store rules trip k (ap is_failing up) in
        let whole : is_torn frame_bytes rules ≡ false = sym (torn_agrees old store rules trip sized k) ∙ torn in
        let after = after_call frame_bytes rules (Append entry) in
        let now = call_stands spelling frame_bytes counts old.image rules (Append entry) here (whole, fits) in
        let e : new.image ≡ appended (frame (spelling entry)) old.image = images told in
        let stands : StandsFor spelling frame_bytes new.image after = rw e now in
        let sees : taken_as store.standing new.image ≡ new.image = taken_sound store.standing new.image (ap is_failing up) in
        let there : IsTornBy spelling is_record frame_bytes (taken_as store.standing new.image) after =
        subst (λ (i : Image). IsTornBy spelling is_record frame_bytes i after) (sym (sees ∙ e)) (call_torn spelling frame_bytes counts is_record old.image rules (Append entry) here (whole, fits) (sound_torn old store rules trip k (ap is_failing up))) in
        let listed : journal.entries ≡ store.journal.entries ++ as_written entry ∷ [] = ap (λ j. j.entries) noted in
        built new journal store.standing store.trip after trip kept_on (rw sees stands) there (rw listed (values_push is_record store.journal.entries entry k.are_records is_rec)) (is_rec, k.written) k.front k.trip k.armed
        (let P : Standing → Type 0 = λ st. IsInOrder st journal after in subst P (sym up) (ap (λ j. j.is_torn) noted ∙ torn))

    -- a failed call that left bytes of this image
    pub failing_keeps : (new : Seen) (journal : Kept R) (i : Image) (rules : Disk R) (cut : ℕ)
        → StandsFor spelling frame_bytes i rules → IsTornBy spelling is_record frame_bytes i rules → rules.trimmed ≤ rules.synced → new.image.bytes ≡ take (kept_bytes cut i) i.bytes → AllByRecursion is_record rules.records
        → IsKeptOn spelling tells new journal → AllByRecursion is_record (values journal.entries)
        → Keeps spelling is_record frame_bytes tells new (record { journal = journal; trip = None; standing = Failing }) (after_call frame_bytes rules (Stops cut)) None
    failing_keeps new journal i rules cut s torn front bytes written kept_on entries =
        built new journal Failing None (after_call frame_bytes rules (Stops cut)) None kept_on (fail_stands i new.image rules cut s front bytes) (fail_torn i new.image rules cut s front torn bytes) entries (all_whole is_record frame_bytes (min rules.length (rules.synced + cut)) rules.records written) (stop_front i rules cut s front) refl tt refl

    -- an append that failed
    pub append_fails : (old new : Seen) (store : Stored R) (journal : Kept R) (rules : Disk R) (trip : Option Trip) (entry : R) → length old.image.bytes ≡ old.size
        → Keeps spelling is_record frame_bytes tells old store rules trip → store.standing ≡ Up → IsSound old.image
        → IsKeptOn spelling tells new journal → NotesOrNot spelling entry store.journal journal
        → (IsTrue tells → AppendsSome (frame (spelling entry)) old.image new.image)
        → is_record entry → IsPayload (spelling entry)
        → (n : ℕ) × (cut : ℕ) × Keeps spelling is_record frame_bytes tells new (record { journal = journal; trip = None; standing = Failing }) (stopped_disk frame_bytes n cut rules (Append entry ∷ [])) None
    append_fails old new store journal rules trip entry sized k up sound kept_on noted images is_rec fits =
        let torn : store.journal.is_torn ≡ false = let P : Standing → Type 0 = λ st. IsInOrder st store.journal rules in subst P up k.in_order in
        let here = sound_stands old store rules trip k (ap is_failing up) in
        let whole : is_torn frame_bytes rules ≡ false = sym (torn_agrees old store rules trip sized k) ∙ torn in
        let i = appended (frame (spelling entry)) old.image in
        let after = after_call frame_bytes rules (Append entry) in
        let now = call_stands spelling frame_bytes counts old.image rules (Append entry) here (whole, fits) in
        let some = images told in
        let f = frame (spelling entry) in
        let old_bytes = old.image.bytes in
        let cut = length old_bytes + some.0 - old.image.synced in
        let kept : kept_bytes cut i ≡ length old_bytes + some.0 = omega (arith, length-append old_bytes f, some.1, sound) in
        let bytes : new.image.bytes ≡ take (kept_bytes cut i) i.bytes =
        ap (λ (x : Image). x.bytes) some.2 ∙ sym (take-append-add old_bytes f some.0) ∙ ap (λ (m : ℕ). take m (old_bytes ++ f)) (sym kept) in
        let there = call_torn spelling frame_bytes counts is_record old.image rules (Append entry) here (whole, fits) (sound_torn old store rules trip k (ap is_failing up)) in
        (1, cut, failing_keeps new journal i after cut now there k.front bytes (is_rec, k.written) kept_on (noted_are_records store.journal journal entry noted k.are_records is_rec))

    -- a sync that was done
    pub sync_keeps : (old new : Seen) (store : Stored R) (rules : Disk R) (trip : Option Trip)
        → Keeps spelling is_record frame_bytes tells old store rules trip → store.standing ≡ Up → IsSound old.image
        → (IsTrue tells → new.image ≡ all_synced old.image) → new.size ≡ old.size → old.spare ≤ new.spare
        → Keeps spelling is_record frame_bytes tells new store (after_call frame_bytes rules Sync) trip
    sync_keeps old new store rules trip k up sound images sizes_same room =
        let here = sound_stands old store rules trip k (ap is_failing up) in
        let after = after_call frame_bytes rules Sync in
        let e : new.image ≡ all_synced old.image = images told in
        let stands : StandsFor spelling frame_bytes new.image after = rw e (call_stands spelling frame_bytes counts old.image rules Sync here tt) in
        let sees : taken_as store.standing new.image ≡ new.image = taken_sound store.standing new.image (ap is_failing up) in
        let torn : IsTornBy spelling is_record frame_bytes (taken_as store.standing new.image) after =
        subst (λ (i : Image). IsTornBy spelling is_record frame_bytes i after) (sym (sees ∙ e)) (call_torn spelling frame_bytes counts is_record old.image rules Sync here tt (sound_torn old store rules trip k (ap is_failing up))) in
        let n = sizes old.image rules here in
        built new store.journal store.standing store.trip after trip (synced_on old new store.journal k.kept_on (ap (λ (x : Image). x.bytes) e) sizes_same room) (rw sees stands) torn k.are_records k.written (omega (arith, n.0)) k.trip k.armed
        (let P : Standing → Type 0 = λ st. IsInOrder st store.journal after in subst P (sym up) (let Q : Standing → Type 0 = λ st. IsInOrder st store.journal rules in subst Q up k.in_order))

    -- a sync that failed
    pub sync_fails : (old new : Seen) (store : Stored R) (rules : Disk R) (trip : Option Trip)
        → Keeps spelling is_record frame_bytes tells old store rules trip → store.standing ≡ Up
        → (IsTrue tells → SyncsSome old.image new.image) → new.size ≡ old.size → old.spare ≤ new.spare
        → (n : ℕ) × (cut : ℕ) × Keeps spelling is_record frame_bytes tells new (record { journal = store.journal; trip = None; standing = Failing }) (stopped_disk frame_bytes n cut rules (Sync ∷ [])) None
    sync_fails old new store rules trip k up images sizes_same room =
        let here = sound_stands old store rules trip k (ap is_failing up) in
        let after = after_call frame_bytes rules Sync in
        let now = call_stands spelling frame_bytes counts old.image rules Sync here tt in
        let same = (images told).bytes in
        let i = all_synced old.image in
        let n = sizes old.image rules here in
        let bytes : new.image.bytes ≡ take (kept_bytes 0 i) i.bytes = same ∙ sym (take_all (kept_bytes 0 i) old.image.bytes (omega arith)) in
        let torn = call_torn spelling frame_bytes counts is_record old.image rules Sync here tt (sound_torn old store rules trip k (ap is_failing up)) in
        (1, 0, failing_keeps new store.journal i after 0 now torn (omega (arith, n.0)) bytes k.written (synced_on old new store.journal k.kept_on same sizes_same room) k.are_records)

    -- room for more records
    pub reserve_keeps : (old new : Seen) (store : Stored R) (journal : Kept R) (rules : Disk R) (trip : Option Trip)
        → Keeps spelling is_record frame_bytes tells old store rules trip → IsKeptOn spelling tells new journal
        → journal.entries ≡ store.journal.entries → journal.is_torn ≡ store.journal.is_torn → (IsTrue tells → new.image ≡ old.image)
        → Keeps spelling is_record frame_bytes tells new (record { journal = journal; trip = store.trip; standing = store.standing }) rules trip
    reserve_keeps old new store journal rules trip k kept_on listed torn images =
        let e : new.image ≡ old.image = images told in
        let stands : StandsFor spelling frame_bytes (taken_as store.standing new.image) rules = rw e k.stands in
        let there = subst (λ (i : Image). IsTornBy spelling is_record frame_bytes (taken_as store.standing i) rules) (sym e) k.torn in
        built new journal store.standing store.trip rules trip kept_on stands there (rw listed k.are_records) k.written k.front k.trip k.armed (in_order store.standing k.in_order)
      where
        in_order : (standing : Standing) → IsInOrder standing store.journal rules → IsInOrder standing journal rules
        in_order Up o = torn ∙ o
        in_order Down o = o
        in_order Failing o = o
