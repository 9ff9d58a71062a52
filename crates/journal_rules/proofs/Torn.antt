-- Each call leaves behind the last whole frame the first bytes of the frame that a stop cut.
use Rattle.std.proofs.Common.{◌≡◌, ℕ, zero, suc, ◌+◌, ◌-◌, ◌<◌, ◌≤◌, min, Bool, cond, Option, Some, None, List, [], ◌∷◌, ◌++◌, length, take, drop, map, refl, sym, ap, ap₂, subst, ◌∙◌, arith, inl, inr, append_assoc, drop-drop, drop_at}
use Rattle.std.specs.Prelude.{reverse}
use Rattle.std.proofs.lemmas.Bool.{cases_lt, le-leb, lt-leb, ltb-false}
use Rattle.std.proofs.lemmas.List.{drop_all, length-append, length-drop, length-take, reverse-append, take-append-drop, take-append-le, take-take, take_all}
use Rattle.std.proofs.Math.Seq.{take-append-add}
use Rattle.fed_rules.specs.Disk.{Call, Append, Sync, CutBack, TrimFront, Stops, Disk, before_last, bytes_of, oldest_lost, whole, after_call, after_calls, empty_disk}
use Rattle.journal_disk.specs.Disk.{Image, no_bytes, appended, kept_bytes}
use Rattle.journal_disk.specs.Frames.{Frame, frame}
use Rattle.frame_journal.specs.Records.{spelled}
use Rattle.frame_journal.proofs.ForCallers.{length-frames, new_size, spelled_push}
use Rattle.journal_rules.specs.Stands.{AllMayCome, CountsFrames, MayCome, StandsFor, image_after, image_after_calls, record_frame}
use Rattle.journal_rules.specs.Torn.{IsPartOf, IsRestOf, IsTornBy, rest_of}
use Rattle.journal_rules.proofs.Keeps.{bytes_behind, call_stands, from_empty, sizes_agree, take_behind}

-- ---- parts

-- the first bytes of a part are a part
part_taken : (whole part : List ℕ) (n : ℕ) → IsPartOf whole part → IsPartOf whole (take n part)
part_taken whole part n p = record {
  lacking = drop n part ++ p.lacking;
  lacks_some = (let some = p.lacks_some in omega (arith, some, length-append (drop n part) p.lacking));
  parts = sym (append_assoc (take n part) (drop n part) p.lacking) ∙ ap (λ (bs : List ℕ). bs ++ p.lacking) (take-append-drop n part) ∙ p.parts;
}

-- too few bytes of a whole are a part
part_front : (whole : List ℕ) (n : ℕ) → n < length whole → IsPartOf whole (take n whole)
part_front whole n few = record { lacking = drop n whole; lacks_some = omega (arith, few, length-drop n whole); parts = take-append-drop n whole }

-- no byte is
pub part_none : (whole : List ℕ) → 0 < length whole → IsPartOf whole []
part_none whole some = record { lacking = whole; lacks_some = some; parts = refl }

-- ---- fronts of two lists

-- of the second one only those count that are reached
taken_behind : (xs ys : List ℕ) (n : ℕ) → take n (xs ++ ys) ≡ take n (xs ++ take (n - length xs) ys)
taken_behind [] ys n = sym (take-take n (n - 0) ys (omega arith))
taken_behind (x ∷ xs) ys zero = refl
taken_behind (x ∷ xs) ys (suc n) =
    let same : suc n - length (x ∷ xs) ≡ n - length xs = omega arith in
    ap (λ (l : List ℕ). x ∷ l) (taken_behind xs ys n ∙ ap (λ (k : ℕ). take n (xs ++ take k ys)) (sym same))

-- what is dropped takes all of the first one
drop_behind : (xs ys : List ℕ) (n : ℕ) → length xs ≤ n → drop n (xs ++ ys) ≡ drop (n - length xs) ys
drop_behind xs ys n le =
    let there : n ≡ length xs + (n - length xs) = omega (arith, le) in
    ap (λ (k : ℕ). drop k (xs ++ ys)) there ∙ sym (drop-drop (n - length xs) (length xs) (xs ++ ys)) ∙ ap (drop (n - length xs)) (drop_at xs ys (length xs) refl)

module _ {R : Type 0} (spelling : R → List ℕ) (P : R → Type 0) where
  -- a rest that a stop shortens is still one
  rest_taken : (lost : Option R) (rest : List ℕ) (n : ℕ) → IsRestOf spelling P lost rest → IsRestOf spelling P lost (take n rest)
  rest_taken None rest n none = ap (take n) none ∙ take_all n [] (omega arith)
  rest_taken (Some lost) rest n part = λ holds. part_taken (frame (spelling lost)) rest n (part holds)

  -- no byte is a rest of each
  pub rest_none : (lost : Option R) → IsRestOf spelling P lost []
  rest_none None = refl
  rest_none (Some lost) = λ holds. part_none (frame (spelling lost)) (omega (arith, new_size (spelling lost)))

  -- where nothing stands there
  pub rest_is_none : (lost : Option R) (rest : List ℕ) → rest ≡ [] → IsRestOf spelling P lost rest
  rest_is_none lost rest none = subst (IsRestOf spelling P lost) (sym none) (rest_none lost)

module _ {R : Type 0} (spelling : R → List ℕ) (size : R → ℕ) (counts : CountsFrames spelling size) where
  -- the bytes of these records' frames
  written_length : (records : List R) → length (spelled (record_frame spelling) (reverse records)) ≡ bytes_of size records
  written_length records = length-frames (map (record_frame spelling) (reverse records)) ∙ sizes_agree spelling size counts records

  -- what was trimmed lies before the end of the frames
  front_low : (image : Image) (disk : Disk R) → StandsFor spelling size image disk → disk.trimmed ≤ bytes_of size disk.records
  front_low image disk s =
      let b = s.border in
      let behind : bytes_of size s.older ≤ bytes_of size disk.records = subst (λ (rs : List R). bytes_of size s.older ≤ bytes_of size rs) (sym s.parts) (bytes_behind spelling size counts s.newer s.older) in
      omega (arith, b, behind)

  -- the rest as it stands behind all frames
  rest_is : (image : Image) (disk : Disk R) (s : StandsFor spelling size image disk) → s.all.records.rest ≡ rest_of size disk image
  rest_is image disk s =
      let n = bytes_of size disk.records in
      let t = s.trimmed in
      let low = front_low image disk s in
      let those = spelled (record_frame spelling) (reverse disk.records) in
      let reached : length s.front ≤ n = omega (arith, t, low) in
      sym (drop_at those s.all.records.rest n (written_length disk.records)) ∙ ap (drop n) (sym s.all.records.parts) ∙ drop_behind s.front image.bytes n reached
      ∙ ap (λ (k : ℕ). drop (n - k) image.bytes) s.trimmed

  -- where no byte stands behind the frames, there is no rest
  pub untorn_rest : (image : Image) (disk : Disk R) → StandsFor spelling size image disk → disk.length ≤ bytes_of size disk.records → rest_of size disk image ≡ []
  untorn_rest image disk s whole =
      let t = s.trimmed in
      let all : length (s.front ++ image.bytes) ≡ disk.length = s.all.bytes in
      drop_all (bytes_of size disk.records - disk.trimmed) image.bytes (omega (arith, t, all, length-append s.front image.bytes, whole))

  -- the bytes before this place end with the first ones of the frame of the oldest record that isn't whole there
  stop_rests : (P : R → Type 0) (place : ℕ) (records : List R) (lost : Option R) (rest : List ℕ) → IsRestOf spelling P lost rest
      → IsRestOf spelling P (oldest_lost size place lost records) (drop (bytes_of size (whole size place records)) (take place (spelled (record_frame spelling) (reverse records) ++ rest)))
  stop_rests P place [] lost rest h = rest_taken spelling P lost rest place h
  stop_rests P place (newest ∷ records) lost rest h =
      let shape : R → Frame = record_frame spelling in
      let n = bytes_of size (newest ∷ records) in
      let all = spelled shape (reverse (newest ∷ records)) in
      let long : length all ≡ n = written_length (newest ∷ records) in
      let G : Bool → Type 0 = λ b. IsRestOf spelling P (cond b lost (oldest_lost size place (Some newest) records)) (drop (bytes_of size (cond b (newest ∷ records) (whole size place records))) (take place (all ++ rest))) in
      elim (cases_lt place n) [
        | inl short ↦
            let older = spelled shape (reverse records) in
            let last = frame (spelling newest) in
            let k = place - length older in
            let few : k < length last = omega (arith, short, written_length records, counts newest, new_size (spelling newest)) in
            let turned : reverse (newest ∷ records) ≡ reverse records ++ newest ∷ [] = reverse-append (newest ∷ []) records in
            let apart : all ++ rest ≡ older ++ (last ++ rest) =
            ap (λ (rs : List R). spelled shape rs ++ rest) turned ∙ ap (λ (bs : List ℕ). bs ++ rest) (spelled_push shape (reverse records) newest) ∙ append_assoc older last rest in
            let taken : take place (all ++ rest) ≡ take place (older ++ take k last) =
            ap (take place) apart ∙ taken_behind older (last ++ rest) place ∙ ap (λ (bs : List ℕ). take place (older ++ bs)) (take-append-le k last rest (omega (arith, few))) in
            let those = stop_rests P place records (Some newest) (take k last) (λ holds. part_front last k few) in
            subst G (sym (lt-leb n place short))
            (subst (λ (bs : List ℕ). IsRestOf spelling P (oldest_lost size place (Some newest) records) (drop (bytes_of size (whole size place records)) bs)) (sym taken) those)
        | inr fits ↦
            let place_is : place ≡ length all + (place - n) = omega (arith, fits, long) in
            let left : drop n (take place (all ++ rest)) ≡ take (place - n) rest =
            ap (λ (k : ℕ). drop n (take k (all ++ rest))) place_is ∙ ap (drop n) (take-append-add all rest (place - n)) ∙ drop_at all (take (place - n) rest) n long in
            subst G (sym (le-leb n place fits)) (subst (IsRestOf spelling P lost) (sym left) (rest_taken spelling P lost rest (place - n) h))
      ]

  -- each call leaves such a rest
  pub call_torn : (P : R → Type 0) (image : Image) (disk : Disk R) (call : Call R) → StandsFor spelling size image disk → MayCome spelling size disk call → IsTornBy spelling P size image disk
      → IsTornBy spelling P size (image_after spelling size disk image call) (after_call size disk call)
  call_torn P image disk (Append entry) s may h =
      let now = call_stands spelling size counts image disk (Append entry) s may in
      let whole : disk.length ≤ bytes_of size disk.records = ltb-false _ _ may.0 in
      rest_is_none spelling P disk.lost _ (untorn_rest (appended (frame (spelling entry)) image) (after_call size disk (Append entry)) now (omega (arith, whole)))
  call_torn P image disk Sync s may h = h
  call_torn P image disk CutBack s may h =
      let n = bytes_of size disk.records - disk.trimmed in
      rest_is_none spelling P disk.lost _ (drop_all n (take n image.bytes) (omega (arith, length-take n image.bytes)))
  call_torn P image disk TrimFront s may h =
      let front = bytes_of size (before_last disk.records) in
      let more = front - disk.trimmed in
      let left = bytes_of size disk.records - front in
      let lower = may.0 in
      let now = front_low (image_after spelling size disk image TrimFront) (after_call size disk TrimFront) (call_stands spelling size counts image disk TrimFront s may) in
      let same : more + left ≡ bytes_of size disk.records - disk.trimmed = omega (arith, lower, now) in
      subst (IsRestOf spelling P disk.lost) (sym (drop-drop left more image.bytes ∙ ap (λ (k : ℕ). drop k image.bytes) same)) h
  call_torn P image disk (Stops cut) s may h =
      let place = min disk.length (disk.synced + cut) in
      let kept = bytes_of size (whole size place disk.records) in
      let t = s.trimmed in
      let long = length-append s.front image.bytes in
      let syncs : length s.front + image.synced ≡ disk.synced = s.all.synced in
      let all : length (s.front ++ image.bytes) ≡ disk.length = s.all.bytes in
      let reached : length s.front ≤ place = omega (arith, t, syncs, all, long) in
      let low : disk.trimmed ≤ kept = front_low (image_after spelling size disk image (Stops cut)) (after_call size disk (Stops cut)) (call_stands spelling size counts image disk (Stops cut) s may) in
      let count : place - length s.front ≡ kept_bytes cut image = omega (arith, syncs, all, long) in
      let left : drop kept (take place (spelled (record_frame spelling) (reverse disk.records) ++ s.all.records.rest)) ≡ drop (kept - disk.trimmed) (take (kept_bytes cut image) image.bytes) =
      ap (λ (bs : List ℕ). drop kept (take place bs)) (sym s.all.records.parts) ∙ ap (drop kept) (take_behind spelling size counts s.front image.bytes place reached)
      ∙ drop_behind s.front (take (place - length s.front) image.bytes) kept (omega (arith, t, low)) ∙ ap₂ (λ (m k : ℕ). drop (kept - m) (take k image.bytes)) s.trimmed count in
      let before : IsRestOf spelling P disk.lost s.all.records.rest = subst (IsRestOf spelling P disk.lost) (sym (rest_is image disk s)) h in
      subst (IsRestOf spelling P (oldest_lost size place disk.lost disk.records)) left (stop_rests P place disk.records disk.lost s.all.records.rest before)

  -- and so do any calls
  pub calls_torn : (P : R → Type 0) (image : Image) (disk : Disk R) (calls : List (Call R)) → StandsFor spelling size image disk → AllMayCome spelling size disk calls → IsTornBy spelling P size image disk
      → IsTornBy spelling P size (image_after_calls spelling size disk image calls) (after_calls size disk calls)
  calls_torn P image disk [] s may h = h
  calls_torn P image disk (call ∷ calls) s may h =
      calls_torn P (image_after spelling size disk image call) (after_call size disk call) calls (call_stands spelling size counts image disk call s may.0) may.1 (call_torn P image disk call s may.0 h)

  pub empty_torn : (P : R → Type 0) → IsTornBy spelling P size no_bytes (empty_disk {Record = R})
  empty_torn P = refl

  pub torn_from_empty : (P : R → Type 0) (calls : List (Call R)) → AllMayCome spelling size empty_disk calls
      → IsTornBy spelling P size (image_after_calls spelling size empty_disk no_bytes calls) (after_calls size empty_disk calls)
  torn_from_empty P calls may = calls_torn P no_bytes empty_disk calls (from_empty spelling size counts [] tt) may (empty_torn P)
