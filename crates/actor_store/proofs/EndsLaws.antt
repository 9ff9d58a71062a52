-- How disk calls end: one after the other, with a trip that comes within them, or at once.
use Rattle.std.proofs.Common.{◌≡◌, ℕ, zero, suc, ◌+◌, ◌-◌, ◌≤◌, Bool, false, IsTrue, Option, Some, None, Result, Ok, Err, OnOk, OnErr, List, [], ◌∷◌, ◌++◌, length, take, refl, sym, ap, ap₂, subst, ◌∙◌, arith, append_assoc, inl, inr}
use Rattle.std.proofs.Math.Seq.{take-append-add}
use Rattle.std.proofs.lemmas.List.{length-append, take_all, take-append-le}
use Rattle.std.proofs.lemmas.Bool.{cases_lt}
use Rattle.mdb_base.specs.Words.{map_some}
use Rattle.fed_rules.specs.Disk.{Call, CutBack, Stops, Disk, after_call, after_calls, journal as journal_of}
use Rattle.fed_rules.specs.Happenings.{Trip, used}
use Rattle.journal_disk.specs.Disk.{Seen, synced_bytes, CutsOrNot}
use Rattle.frame_journal.specs.Journal.{Kept, IsKeptOn, with_room_for}
use Rattle.frame_journal.specs.Records.{entry_frame, spelled, spelled_size}
use Rattle.journal_rules.specs.Stands.{CountsFrames}
use Rattle.actor_store.specs.declared.store.SetTrip.{SetTrip}
use Rattle.actor_store.specs.declared.store.Standing.TheVariants.{Up, Failing}
use Rattle.actor_store.specs.declared.store.Break.{Break}
use Rattle.actor_store.specs.declared.store.Break.TheVariants.{Stopped, Failed}
use Rattle.actor_store.specs.Store.{Stored, Counts, Ends, Keeps, Passes, is_up, stopped_disk, trip_of_rules, IsArmed}
use Rattle.actor_store.proofs.CutLaws.{cut_fails, cut_keeps, cut_same}

pub used_none : (trip : Option Trip) → used 0 trip ≡ trip
used_none None = refl
used_none (Some set) = let e : set.calls - 0 ≡ set.calls = omega arith in ap (λ k. Some (record { calls = k; cut = set.cut })) e

pub passes_none : (set : Option SetTrip) → IsArmed set → Passes (map_some trip_of_rules set) 0
passes_none None armed = tt
passes_none (Some set) armed = armed

pub some_trip : (a b : Trip) → ◌≡◌ {A = Option Trip} (Some a) (Some b) → a ≡ b
some_trip a b e = cc

module _ {R : Type 0} (frame_bytes : R → ℕ) where
  -- the last call of a trip was made, or not
  pub counts_end : {A : Type 0} (K : Disk R → Option Trip → Type 0) (rules : Disk R) (trip : Option Trip) (call : Call R) (r : Result A Break)
      → Counts frame_bytes K (after_call frame_bytes rules call) trip r → Ends frame_bytes K rules trip (call ∷ []) r
  counts_end K rules trip call (Ok done) c = c
  counts_end K rules trip call (Err (Stopped kept)) c =
      let (set, is, one, k) = c in
      let P : ℕ → Type 0 = λ n. K (stopped_disk frame_bytes n set.cut rules (call ∷ [])) None × (kept ≡ length (journal_of frame_bytes (stopped_disk frame_bytes n set.cut rules (call ∷ [])))) in
      let s = subst P (sym one) k in
      (set, is, omega arith, s.0, s.1)
  counts_end K rules trip call (Err Failed) c = absurd c

  -- what two lists of calls leave
  pub after_calls-append : (rules : Disk R) (first more : List (Call R)) → after_calls frame_bytes rules (first ++ more) ≡ after_calls frame_bytes (after_calls frame_bytes rules first) more
  after_calls-append rules [] more = refl
  after_calls-append rules (call ∷ first) more = after_calls-append (after_call frame_bytes rules call) first more

  -- a stop within the second list
  pub stopped_disk-append : (n cut : ℕ) (rules : Disk R) (first more : List (Call R))
      → stopped_disk frame_bytes (length first + n) cut rules (first ++ more) ≡ stopped_disk frame_bytes n cut (after_calls frame_bytes rules first) more
  stopped_disk-append n cut rules first more =
      ap (λ (calls : List (Call R)). after_calls frame_bytes rules (calls ++ Stops cut ∷ [])) (take-append-add first more n)
      ∙ ap (after_calls frame_bytes rules) (append_assoc first (take n more) (Stops cut ∷ []))
      ∙ after_calls-append rules first (take n more ++ Stops cut ∷ [])

  -- a stop within the first list
  pub stopped_disk-first : (n cut : ℕ) (rules : Disk R) (first more : List (Call R)) → n ≤ length first
      → stopped_disk frame_bytes n cut rules (first ++ more) ≡ stopped_disk frame_bytes n cut rules first
  stopped_disk-first n cut rules first more few =
      ap (λ (calls : List (Call R)). after_calls frame_bytes rules (calls ++ Stops cut ∷ [])) (take-append-le n first more few)

  -- a longer count of calls takes all of them
  pub stopped_disk-all : (n cut : ℕ) (rules : Disk R) (calls : List (Call R)) → length calls ≤ n → stopped_disk frame_bytes n cut rules calls ≡ stopped_disk frame_bytes (length calls) cut rules calls
  stopped_disk-all n cut rules calls many =
      ap (λ (xs : List (Call R)). after_calls frame_bytes rules (xs ++ Stops cut ∷ [])) (take_all n calls many ∙ sym (take_all (length calls) calls (omega arith)))

  passes_more : (trip : Option Trip) (m n : ℕ) → Passes trip m → Passes (used m trip) n → Passes trip (m + n)
  passes_more None m n a b = tt
  passes_more (Some set) m n a b = omega arith

  used_more : (trip : Option Trip) (m n : ℕ) → used n (used m trip) ≡ used (m + n) trip
  used_more None m n = refl
  used_more (Some set) m n = let e : set.calls - m - n ≡ set.calls - (m + n) = omega arith in ap (λ k. Some (record { calls = k; cut = set.cut })) e

  -- calls that were all done, and then others
  pub ends_more : {A : Type 0} (K : Disk R → Option Trip → Type 0) (rules : Disk R) (trip : Option Trip) (first more : List (Call R)) (r : Result A Break)
      → Passes trip (length first) → Ends frame_bytes K (after_calls frame_bytes rules first) (used (length first) trip) more r → Ends frame_bytes K rules trip (first ++ more) r
  ends_more K rules trip first more (Ok done) passes e =
      let long : length (first ++ more) ≡ length first + length more = length-append first more in
      let disk = after_calls-append rules first more in
      let trips = used_more trip (length first) (length more) in
      let P : ℕ → Disk R → Type 0 = λ n d. Passes trip n × K d (used n trip) in
      let k : K (after_calls frame_bytes (after_calls frame_bytes rules first) more) (used (length first + length more) trip) = rw trips at e.1 in
      subst (λ (n : ℕ). P n (after_calls frame_bytes rules (first ++ more))) (sym long)
      (subst (λ (d : Disk R). P (length first + length more) d) (sym disk) (passes_more trip (length first) (length more) passes e.0, k))
  ends_more K rules None first more (Err (Stopped kept)) passes e = let (set, is, few, k, count) = e in cc
  ends_more K rules (Some trip) first more (Err (Stopped kept)) passes e =
      let (set, is, few, k, count) = e in
      let same : record { calls = trip.calls - length first; cut = trip.cut } ≡ set = some_trip _ _ is in
      let calls : trip.calls - length first ≡ set.calls = ap (λ t. t.calls) same in
      let cuts : trip.cut ≡ set.cut = ap (λ t. t.cut) same in
      let n : length first + set.calls ≡ trip.calls = omega arith in
      let disk : stopped_disk frame_bytes trip.calls trip.cut rules (first ++ more) ≡ stopped_disk frame_bytes set.calls set.cut (after_calls frame_bytes rules first) more =
      ap₂ (λ a b. stopped_disk frame_bytes a b rules (first ++ more)) (sym n) cuts ∙ stopped_disk-append set.calls set.cut rules first more in
      let P : Disk R → Type 0 = λ d. K d None × (kept ≡ length (journal_of frame_bytes d)) in
      let s = subst P (sym disk) (k, count) in
      (trip, refl, omega (arith, length-append first more), s.0, s.1)
  ends_more K rules trip first more (Err Failed) passes e =
      let (n, cut, k) = e in
      let P : Disk R → Type 0 = λ d. K d None in
      (length first + n, cut, subst P (sym (stopped_disk-append n cut rules first more)) k)

  -- calls that ended early, and then others that weren't made
  pub ends_early : (K : Disk R → Option Trip → Type 0) (rules : Disk R) (trip : Option Trip) (first more : List (Call R)) (why : Break)
      → Ends {A = ℕ} frame_bytes K rules trip first (Err why) → Ends {A = ℕ} frame_bytes K rules trip (first ++ more) (Err why)
  ends_early K rules trip first more (Stopped kept) e =
      let (set, is, few, k, count) = e in
      let P : Disk R → Type 0 = λ d. K d None × (kept ≡ length (journal_of frame_bytes d)) in
      let s = subst P (sym (stopped_disk-first set.calls set.cut rules first more few)) (k, count) in
      (set, is, omega (arith, length-append first more), s.0, s.1)
  ends_early K rules trip first more Failed e =
      let (n, cut, k) = e in
      let P : Disk R → Type 0 = λ d. K d None in
      elim (cases_lt (length first) n) [
        | inl many ↦ (length first, cut, subst P (stopped_disk-all n cut rules first (omega arith) ∙ sym (stopped_disk-first (length first) cut rules first more (omega arith))) k)
        | inr few ↦ (n, cut, subst P (sym (stopped_disk-first n cut rules first more few)) k)
      ]

  -- what making room leaves of a journal but for its room
  pub room_same : {A E : Type 0} (old new : Kept R) (places bytes : ℕ) (r : Result A E) → OnOk r (new ≡ with_room_for places bytes old) → OnErr r (new ≡ old) → (new.entries ≡ old.entries) × (new.is_torn ≡ old.is_torn)
  room_same old new places bytes (Ok x) ok err = (ap (λ j. j.entries) ok, ap (λ j. j.is_torn) ok)
  room_same old new places bytes (Err x) ok err = (ap (λ j. j.entries) err, ap (λ j. j.is_torn) err)

module _ {R : Type 0} (spelling : R → List ℕ) (reading : List ℕ → Option R) (is_record : R → Type 0) (frame_bytes : R → ℕ) (counts : CountsFrames spelling frame_bytes) (again : (entry : R) → is_record entry → reading (spelling entry) ≡ Some entry) (tells : Bool) (told : IsTrue tells) where
  -- no call at all
  pub ends_at_once : (seen : Seen) (store : Stored R) (rules : Disk R) (trip : Option Trip) → Keeps spelling is_record frame_bytes tells seen store rules trip
      → Passes trip 0 × Keeps spelling is_record frame_bytes tells seen store rules (used 0 trip)
  ends_at_once seen store rules trip k =
      let none = used_none trip in
      let P : Option Trip → Type 0 = λ t. Passes t 0 in
      (subst P k.trip (passes_none store.trip k.armed), rw none k)

  -- where nothing is torn, a cut back that was done has synced all
  pub opens_synced : (old new : Seen) (store : Stored R) (journal : Kept R) (rules : Disk R) (trip : Option Trip) → length old.image.bytes ≡ old.size
      → Keeps spelling is_record frame_bytes tells old store rules trip → is_up store.standing ≡ false → store.journal.is_torn ≡ false
      → IsKeptOn spelling tells new journal → journal.entries ≡ store.journal.entries → journal.is_torn ≡ false
      → (IsTrue tells → new.image ≡ synced_bytes (spelled (entry_frame spelling) store.journal.entries))
      → Keeps spelling is_record frame_bytes tells new (record { journal = journal; trip = store.trip; standing = Up }) rules trip
  opens_synced old new store journal rules trip sized k stopped whole kept_on listed torn images =
      let same = cut_same spelling reading is_record frame_bytes counts again tells told old store rules trip sized k stopped whole in
      let P : Disk R → Type 0 = λ d. Keeps spelling is_record frame_bytes tells new (record { journal = journal; trip = store.trip; standing = Up }) d trip in
      subst P same (cut_keeps spelling reading is_record frame_bytes counts again tells told old new store journal rules trip k kept_on listed torn images)

  pub open_fails : (old new : Seen) (store : Stored R) (journal : Kept R) (rules : Disk R) (trip : Option Trip) → length old.image.bytes ≡ old.size
      → Keeps spelling is_record frame_bytes tells old store rules trip → is_up store.standing ≡ false → store.journal.is_torn ≡ false
      → IsKeptOn spelling tells new journal → journal.entries ≡ store.journal.entries
      → (IsTrue tells → CutsOrNot (spelled_size (entry_frame spelling) store.journal.entries) old.image new.image)
      → (n : ℕ) × (cut : ℕ) × Keeps spelling is_record frame_bytes tells new (record { journal = journal; trip = None; standing = Failing }) (stopped_disk frame_bytes n cut rules []) None
  open_fails old new store journal rules trip sized k stopped whole kept_on listed images =
      let same = cut_same spelling reading is_record frame_bytes counts again tells told old store rules trip sized k stopped whole in
      let (n, cut, fails) = cut_fails spelling reading is_record frame_bytes counts again tells told old new store journal rules trip k stopped kept_on listed images in
      let P : Disk R → Type 0 = λ d. Keeps spelling is_record frame_bytes tells new (record { journal = journal; trip = None; standing = Failing }) d None in
      (0, cut, subst P (cut_first n cut rules same) fails) where
        cut_first : (n cut : ℕ) (rules : Disk R) → after_call frame_bytes rules CutBack ≡ rules → stopped_disk frame_bytes n cut rules (CutBack ∷ []) ≡ after_call frame_bytes rules (Stops cut)
        cut_first zero cut rules same = refl
        cut_first (suc n) cut rules same = stopped_disk-all frame_bytes (suc n) cut rules (CutBack ∷ []) (omega arith) ∙ ap (λ d. after_call frame_bytes d (Stops cut)) same
