-- A disk on which a journal was found: what its bytes stand for, and what a store of it keeps.
use Rattle.std.proofs.Common.{◌≡◌, ℕ, ◌+◌, ◌-◌, ◌<◌, Bool, true, cond, ltb, drop, length-drop, IsTrue, Option, Some, None, List, [], ◌∷◌, ◌++◌, length, map, refl, sym, ap, subst, ◌∙◌, arith}
use Rattle.std.specs.Prelude.{reverse}
use Rattle.std.specs.List.{AllByRecursion}
use Rattle.std.proofs.lemmas.List.{append_assoc, append-nil, length-append, map-append, reverse-append, reverse-reverse}
use Rattle.fed_rules.specs.Disk.{Disk, bytes_of, journal as journal_of}
use Rattle.fed_rules.specs.Found.{Journal}
use Rattle.fed_rules.specs.Happenings.{Trip}
use Rattle.journal_disk.specs.Disk.{Image, Seen}
use Rattle.journal_disk.specs.Frames.{AreRight, AreWhole, Frame, IsFrame, IsPayload, IsRight, frame, frames}
use Rattle.journal_disk.proofs.ForCallers.{written_is_frame}
use Rattle.frame_journal.specs.Journal.{IsKeptOn, Kept}
use Rattle.frame_journal.specs.Records.{Entry, AreRecordsOf, as_written, entry_frame, spelled, spelled_size, values}
use Rattle.frame_journal.proofs.ForCallers.{frames_append, length-frames, new_size, one_list}
use Rattle.journal_rules.specs.Stands.{CountsFrames, StandsFor, record_frame, respelled}
use Rattle.journal_rules.specs.Torn.{IsPartOf, IsRestOf, IsTornBy, rest_of}
use Rattle.std.proofs.lemmas.Bool.{lt-ltb}
use Rattle.journal_rules.proofs.ForCallers.{all_reverse, all_standing, bytes_of_append, journal_is, journal_stands, kept_respelled, part_none, respelled_journal, respelled_seen, sizes_agree, untorn_rest, values_front, written_frames, written_values}
use Rattle.actor_store.specs.declared.store.Standing.TheVariants.{Down}
use Rattle.actor_store.specs.Found.{IsFoundIn}
use Rattle.actor_store.specs.Store.{IsFirmFront, IsFoundBehind, IsFoundFront, KeepsBehind, Old, Stored, none_old, old_standing, untrimmed}
use Rattle.actor_store.proofs.BehindLaws.{all_respelled, down_synced, firm_front, unstar}
use Rattle.actor_store.proofs.StoreLaws.{built}
use Rattle.mdb_base.proofs.ForCallers.{all_append}

-- right frames behind right ones
whole_both : (before found : List Frame) (bytes : List ℕ) → AreRight before → AreWhole bytes found → AreWhole (frames before ++ bytes) (before ++ found)
whole_both before found bytes r w = record {
  right = record {
    are_frames = all_append IsFrame before found r.are_frames w.right.are_frames;
    are_right = all_append IsRight before found r.are_right w.right.are_right;
  };
  rest = w.rest;
  parts = ap (λ bs. frames before ++ bs) w.parts ∙ sym (append_assoc (frames before) (frames found) w.rest) ∙ ap (λ bs. bs ++ w.rest) (sym (frames_append before found));
  is_torn = w.is_torn;
}

module _ {R : Type 0} (spelling : R → List ℕ) where
  -- records whose payloads are short enough have right frames
  right_frames : (records : List R) → AllByRecursion (λ (r : R). IsPayload (spelling r)) records → AreRight (map (record_frame spelling) records)
  right_frames [] fits = record { are_frames = tt; are_right = tt }
  right_frames (r ∷ records) fits =
      let rest = right_frames records fits.1 in
      record { are_frames = (written_is_frame (spelling r) fits.0, rest.are_frames); are_right = (refl, rest.are_right) }

module _ {R : Type 0} (spelling : R → List ℕ) (size : R → ℕ) (counts : CountsFrames spelling size) where
  -- where the newer records stand on the disk and the older ones are trimmed, the bytes stand for the disk of all of them
  pub found_stands : (image : Image) (rules : Disk R) (newer older : List R) → AreRecordsOf (record_frame spelling) image.bytes (reverse newer)
      → AllByRecursion (λ (r : R). IsPayload (spelling r)) older → rules.records ≡ newer ++ older → rules.trimmed ≡ bytes_of size older
      → rules.length ≡ rules.trimmed + length image.bytes → rules.synced ≡ rules.trimmed + image.synced → StandsFor spelling size image rules
  found_stands image rules newer older whole fits parts border long synced =
      let shape : R → Frame = record_frame spelling in
      let before : List Frame = map shape (reverse older) in
      let front : List ℕ = frames before in
      let long_front : length front ≡ rules.trimmed = length-frames before ∙ sizes_agree spelling size counts older ∙ sym border in
      let right = right_frames spelling (reverse older) (all_reverse (λ (r : R). IsPayload (spelling r)) older fits) in
      let all = whole_both before (map shape (reverse newer)) image.bytes right whole in
      let turned : before ++ map shape (reverse newer) ≡ map shape (reverse rules.records) =
      sym (map-append shape (reverse older) (reverse newer)) ∙ ap (map shape) (sym (reverse-append newer older) ∙ ap reverse (sym parts)) in
      record {
        front = front;
        trimmed = long_front;
        all = record {
          records = subst (AreWhole (front ++ image.bytes)) turned all;
          bytes = omega (arith, length-append front image.bytes, long_front, long);
          synced = omega (arith, long_front, synced);
        };
        newer = newer;
        older = older;
        parts = parts;
        border = border;
      }

module _ {R : Type 0} (spelling : R → List ℕ) (reading : List ℕ → Option R) (is_record : R → Type 0) (frame_bytes : R → ℕ) (counts : CountsFrames spelling frame_bytes) (again : (entry : R) → is_record entry → reading (spelling entry) ≡ Some entry) where
  -- what is read of the bytes: these old entries and what was written behind them
  record Reads (image : Image) (l : List (Entry R)) : Type 0 where
    news : List R
    whole : AreRecordsOf (entry_frame spelling) image.bytes (l ++ map as_written news)
    all : AllByRecursion is_record (values (l ++ map as_written news))

  those_written : (rules : Disk R) → AllByRecursion is_record rules.records → AllByRecursion is_record (reverse (journal_of frame_bytes rules))
  those_written rules written = all_reverse is_record (journal_of frame_bytes rules) (all_standing is_record frame_bytes rules.trimmed rules.records written)

  reads_of : (end : ℕ) (l : List (Entry R)) (image : Image) (rules : Disk R) → StandsFor spelling frame_bytes (respelled spelling l image) rules → AllByRecursion is_record rules.records → IsFoundFront spelling frame_bytes end l image rules → Reads image l
  reads_of end [] image rules stands written front =
      let those = reverse (journal_of frame_bytes rules) in
      record {
        news = those;
        whole = subst (AreWhole image.bytes) (sym (written_frames spelling those)) (journal_stands spelling frame_bytes counts image rules stands);
        all = subst (AllByRecursion is_record) (sym (written_values those)) (those_written rules written);
      }
  reads_of end (e ∷ l) image rules stands written front = record {
    news = front.newer;
    whole = front.whole;
    all = subst (AllByRecursion is_record) (sym (values_front spelling (e ∷ l) front.newer ∙ front.are)) (those_written rules written);
  }

  firm_found : (end : ℕ) (l : List (Entry R)) (image : Image) (rules : Disk R) → IsFoundFront spelling frame_bytes end l image rules → IsFirmFront spelling end l image rules
  firm_found end [] image rules front = front
  firm_found end (e ∷ l) image rules front = front.old

  -- the records that are read are those that stand there
  pub found_records : (image : Image) (old : Old R) (rules : Disk R) → IsFoundBehind spelling is_record frame_bytes image old rules
      → (entries : List (Entry R)) × AreRecordsOf (entry_frame spelling) image.bytes entries × AllByRecursion is_record (values entries)
  found_records image old rules f =
      let r = reads_of old.end (old_standing old rules) image rules f.stands f.written f.front in
      (old_standing old rules ++ map as_written r.news, r.whole, r.all)

  -- a store of that journal keeps the disk
  pub found_keeps : (tells : Bool) (seen : Seen) (journal : Kept R) (image : Image) (old : Old R) (rules : Disk R) → IsTrue tells → IsFoundBehind spelling is_record frame_bytes image old rules
      → seen.image ≡ image → IsKeptOn spelling tells seen journal → AllByRecursion is_record (values journal.entries)
      → KeepsBehind spelling is_record frame_bytes tells seen (record { journal = journal; trip = None; standing = Down }) old rules None
  found_keeps tells seen journal image old rules told f same kept entries =
      let l = old_standing old rules in
      let r = reads_of old.end l image rules f.stands f.written f.front in
      let whole : AreRecordsOf (entry_frame spelling) seen.image.bytes (l ++ map as_written r.news) = subst (λ (i : Image). AreRecordsOf (entry_frame spelling) i.bytes (l ++ map as_written r.news)) (sym same) r.whole in
      let listed : journal.entries ≡ l ++ map as_written r.news = one_list spelling reading is_record again seen.image.bytes journal.entries (l ++ map as_written r.news) entries r.all (kept.records told) whole in
      let firm : IsFirmFront spelling old.end l seen.image rules = subst (λ (i : Image). IsFirmFront spelling old.end l i rules) (sym same) (firm_found old.end l image rules f.front) in
      let stands : StandsFor spelling frame_bytes (respelled spelling l seen.image) rules = subst (λ (i : Image). StandsFor spelling frame_bytes (respelled spelling l i) rules) (sym same) f.stands in
      let torn : IsTornBy spelling is_record frame_bytes (respelled spelling l seen.image) rules = subst (λ (i : Image). IsTornBy spelling is_record frame_bytes (respelled spelling l i) rules) (sym same) f.torn in
      unstar spelling reading is_record frame_bytes counts again tells told seen (record { journal = journal; trip = None; standing = Down }) old rules None l r.news refl listed kept entries firm
      (built spelling reading is_record frame_bytes counts again tells told (respelled_seen spelling l seen) (respelled_journal spelling journal) Down None rules None
      (kept_respelled spelling tells seen journal l r.news listed kept) stands torn (all_respelled spelling reading is_record frame_bytes counts again tells told journal.entries entries) f.written (firm_front spelling old.end l seen.image rules firm) refl tt f.synced)

module _ {R : Type 0} (spelling : R → List ℕ) (is_record : R → Type 0) (frame_bytes : R → ℕ) (counts : CountsFrames spelling frame_bytes) where
  -- right frames of any version are right as version 2
  pub whole_respelled : (image : Image) (entries : List (Entry R)) → AreRecordsOf (entry_frame spelling) image.bytes entries → AreRecordsOf (record_frame spelling) (respelled spelling entries image).bytes (values entries)
  whole_respelled image entries whole =
      let shape = entry_frame spelling in
      let long = spelled_size shape entries in
      let seen : Seen = record { image = image; size = length image.bytes; spare = 0; faults = 0; calls = 0 } in
      let journal : Kept R = record { entries = entries; is_torn = ltb long (length image.bytes); places = 0; room = 0 } in
      let kept : IsKeptOn spelling true seen journal = record {
        records = λ t. whole;
        whole = omega (arith, ap length whole.parts, length-append (spelled shape entries) whole.rest, length-frames (map shape entries));
        is_torn = refl;
        room = omega arith;
      } in
      let again = (kept_respelled spelling true seen journal entries [] (sym (append-nil entries)) kept).records refl in
      subst (AreWhole (respelled spelling entries image).bytes) (written_frames spelling (values entries)) again

  -- the rules take the rest for that of a record that can't be written, where there is a rest
  pub record IsUnread (rules : Disk R) (torn : ℕ) : Type 0 where
    pub taken_for : R
    pub lost : rules.lost ≡ Some taken_for
    pub unwritten : is_record taken_for → torn ≡ 0

  found_torn : (image : Image) (rules : Disk R) (torn : ℕ) → StandsFor spelling frame_bytes image rules → rules.length ≡ bytes_of frame_bytes rules.records + torn → IsUnread rules torn → IsTornBy spelling is_record frame_bytes image rules
  found_torn image rules torn stands long u =
      let whole = frame (spelling u.taken_for) in
      let some : 0 < length whole = omega (arith, new_size (spelling u.taken_for)) in
      let none : is_record u.taken_for → rest_of frame_bytes rules image ≡ [] =
      λ holds. let fits = u.unwritten holds in untorn_rest spelling frame_bytes counts image rules stands (omega (arith, long, fits)) in
      let there : is_record u.taken_for → IsPartOf whole (rest_of frame_bytes rules image) = λ holds. subst (IsPartOf whole) (sym (none holds)) (part_none whole some) in
      let P : Option R → Type 0 = λ o. IsRestOf spelling is_record o (rest_of frame_bytes rules image) in
      subst P (sym u.lost) there

  -- where entries of either version stand on the disk, all that stands, and older records are trimmed, the image is found behind these entries
  pub found_behind : (image : Image) (rules : Disk R) (entries : List (Entry R)) (newer older : List R) (torn : ℕ) → 0 < length entries
      → AreRecordsOf (entry_frame spelling) image.bytes entries → values entries ≡ reverse newer → length image.bytes ≡ spelled_size (entry_frame spelling) entries + torn → image.synced ≡ length image.bytes
      → AllByRecursion is_record rules.records → AllByRecursion (λ (r : R). IsPayload (spelling r)) older → rules.records ≡ newer ++ older → rules.trimmed ≡ bytes_of frame_bytes older
      → rules.length ≡ bytes_of frame_bytes rules.records + torn → rules.synced ≡ rules.length → IsUnread rules torn
      → IsFoundBehind spelling is_record frame_bytes image (record { entries = entries; end = bytes_of frame_bytes rules.records }) rules
  unfolding found_stands
  found_behind image rules [] newer older torn some whole are long synced written fits parts border length_is all unread = absurd (omega (arith, some))
  found_behind image rules (e ∷ l) newer older torn some whole are long synced written fits parts border length_is all unread =
      let entries : List (Entry R) = e ∷ l in
      let end = bytes_of frame_bytes rules.records in
      let w = spelled_size (record_frame spelling) (values entries) in
      let n = spelled_size (entry_frame spelling) entries in
      let sums : end ≡ bytes_of frame_bytes newer + bytes_of frame_bytes older = ap (bytes_of frame_bytes) parts ∙ bytes_of_append frame_bytes newer older in
      let news : w ≡ bytes_of frame_bytes newer = ap (spelled_size (record_frame spelling)) are ∙ sizes_agree spelling frame_bytes counts newer in
      let positive : 0 < w = omega (arith, new_size (spelling e.value)) in
      let before : rules.trimmed < end = omega (arith, sums, news, positive, border) in
      let at : untrimmed end entries rules.trimmed ≡ entries = ap (λ (b : Bool). cond b entries []) (lt-ltb _ _ before) in
      let respelled_whole = subst (AreRecordsOf (record_frame spelling) (respelled spelling entries image).bytes) are (whole_respelled image entries whole) in
      let bytes : length (respelled spelling entries image).bytes ≡ w + torn = omega (arith, long, length-append (spelled (record_frame spelling) (values entries)) (drop n image.bytes), length-drop n image.bytes, length-frames (map (record_frame spelling) (values entries))) in
      let firm : (respelled spelling entries image).synced ≡ w + torn = omega (arith, long, synced, length-frames (map (record_frame spelling) (values entries))) in
      let stands = found_stands spelling frame_bytes counts (respelled spelling entries image) rules newer older respelled_whole fits parts border (omega (arith, length_is, sums, news, border, bytes)) (omega (arith, length_is, all, sums, news, border, firm)) in
      let those : values entries ++ [] ≡ reverse (journal_of frame_bytes rules) = append-nil (values entries) ∙ are ∙ ap reverse (sym {b = newer} (journal_is spelling frame_bytes counts (respelled spelling entries image) rules stands)) in
      let listed : AreRecordsOf (entry_frame spelling) image.bytes (entries ++ map as_written []) = subst (AreRecordsOf (entry_frame spelling) image.bytes) (sym (append-nil entries)) whole in
      let front : IsFoundFront spelling frame_bytes end entries image rules = record {
        old = record { trimmed = omega (arith, length_is, all, sums, border); synced = omega (arith, long, synced); ends = omega (arith, sums, news, border) };
        newer = [];
        whole = listed;
        are = those;
      } in
      record {
        stands = subst (λ (m : List (Entry R)). StandsFor spelling frame_bytes (respelled spelling m image) rules) (sym at) stands;
        torn = subst (λ (m : List (Entry R)). IsTornBy spelling is_record frame_bytes (respelled spelling m image) rules) (sym at) (found_torn (respelled spelling entries image) rules torn stands length_is unread);
        written = written;
        front = subst (λ (m : List (Entry R)). IsFoundFront spelling frame_bytes end m image rules) (sym at) front;
        synced = all;
      }

  none_reversed : (rs : List R) → [] ≡ reverse rs → rs ≡ []
  none_reversed rs e = sym (reverse-reverse rs) ∙ ap reverse (sym e)

  -- a journal that is found is behind some entries the disk of its records, with older ones trimmed before them
  pub found_in : (image : Image) (journal : Journal R) (rules : Disk R) (older : List R) → IsFoundIn spelling is_record image journal → AllByRecursion is_record older
      → AllByRecursion (λ (r : R). IsPayload (spelling r)) older → rules.records ≡ journal.records ++ older → rules.trimmed ≡ bytes_of frame_bytes older
      → rules.length ≡ bytes_of frame_bytes rules.records + journal.torn → rules.synced ≡ rules.length
      → (taken_for : R) → rules.lost ≡ Some taken_for → (is_record taken_for → journal.torn ≡ 0) → (old : Old R) × IsFoundBehind spelling is_record frame_bytes image old rules
  found_in image journal rules older f are_records fits parts border long synced taken_for lost unwritten = by_entries f.entries f.whole f.are f.long
    where
      unread : IsUnread rules journal.torn
      unread = record { taken_for = taken_for; lost = lost; unwritten = unwritten }

      written : AllByRecursion is_record rules.records
      written = subst (AllByRecursion is_record) (sym parts) (all_append is_record journal.records older f.in_range are_records)

      by_entries : (entries : List (Entry R)) → AreRecordsOf (entry_frame spelling) image.bytes entries → values entries ≡ reverse journal.records → length image.bytes ≡ spelled_size (entry_frame spelling) entries + journal.torn
          → (old : Old R) × IsFoundBehind spelling is_record frame_bytes image old rules
      by_entries [] whole are length_is =
          let none : journal.records ≡ [] = none_reversed journal.records are in
          let those : AreRecordsOf (record_frame spelling) image.bytes (reverse journal.records) = subst (AreRecordsOf (record_frame spelling) image.bytes) (ap reverse (sym none)) whole in
          let size : bytes_of frame_bytes rules.records ≡ bytes_of frame_bytes older = ap (bytes_of frame_bytes) (parts ∙ ap (λ (rs : List R). rs ++ older) none) in
          let stands = found_stands spelling frame_bytes counts image rules journal.records older those fits parts border (omega (arith, long, size, border, length_is)) (omega (arith, long, synced, size, border, length_is, f.synced)) in (
            none_old,
            record {
              stands = stands;
              torn = found_torn image rules journal.torn stands long unread;
              written = written;
              front = omega (arith, long, synced, size, border);
              synced = synced;
            },
          )
      by_entries (e ∷ entries) whole are length_is =
          (_, found_behind image rules (e ∷ entries) journal.records older journal.torn (omega arith) whole are length_is f.synced written fits parts border long synced unread)

module _ {R : Type 0} (spelling : R → List ℕ) (reading : List ℕ → Option R) (is_record : R → Type 0) (frame_bytes : R → ℕ) (counts : CountsFrames spelling frame_bytes) (again : (entry : R) → is_record entry → reading (spelling entry) ≡ Some entry) (tells : Bool) (told : IsTrue tells) where
  -- what is read of a disk, all of which is synced, is found there
  pub read_in : (seen : Seen) (journal : Kept R) → IsKeptOn spelling tells seen journal → seen.image.synced ≡ length seen.image.bytes → AllByRecursion is_record (values journal.entries)
      → IsFoundIn spelling is_record seen.image (record { records = reverse (values journal.entries); torn = length seen.image.bytes - spelled_size (entry_frame spelling) journal.entries })
  read_in seen journal kept synced all =
      let shape = entry_frame spelling in
      let those = kept.records told in
      record {
        entries = journal.entries;
        whole = those;
        are = sym (reverse-reverse (values journal.entries));
        long = omega (arith, ap length those.parts, length-append (spelled shape journal.entries) those.rest, length-frames (map shape journal.entries));
        synced = synced;
        in_range = all_reverse is_record (values journal.entries) all;
      }

  -- and what a store that is down has on its disk is found there
  pub left_in : (seen : Seen) (store : Stored R) (old : Old R) (rules : Disk R) (trip : Option Trip) → KeepsBehind spelling is_record frame_bytes tells seen store old rules trip → store.standing ≡ Down
      → IsFoundIn spelling is_record seen.image (record { records = journal_of frame_bytes rules; torn = length seen.image.bytes - spelled_size (entry_frame spelling) store.journal.entries })
  left_in seen store old rules trip k down =
      let shape = entry_frame spelling in
      let entries = store.journal.entries in
      let those = k.kept_on.records told in
      record {
        entries = entries;
        whole = those;
        are = k.are;
        long = omega (arith, ap length those.parts, length-append (spelled shape entries) those.rest, length-frames (map shape entries));
        synced = down_synced spelling reading is_record frame_bytes counts again tells told seen store old rules trip k down;
        in_range = all_standing is_record frame_bytes rules.trimmed rules.records k.written;
      }
