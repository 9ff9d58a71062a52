-- How many calls the disk gets, as disk calls end.
use Rattle.std.proofs.Common.{◌≡◌, ◌≤◌, ℕ, ◌+◌, ◌-◌, Bool, false, true, cond, Option, Some, None, Result, Ok, Err, List, [], ◌∷◌, ◌++◌, length, take, refl, sym, ap, ap₂, subst, ◌∙◌, arith}
use Rattle.std.proofs.lemmas.Bool.{cond-true, cond-false}
use Rattle.std.proofs.lemmas.List.{length-append}
use Rattle.mdb_base.specs.Words.{map_some}
use Rattle.fed_rules.specs.Disk.{Call, Disk, Stops}
use Rattle.fed_rules.specs.Happenings.{Trip, used}
use Rattle.journal_disk.specs.Disk.{Seen, HasCalled}
use Rattle.journal_disk.proofs.ForCallers.{at_most, at_most_more, calls_behind}
use Rattle.journal_rules.specs.Calls.{can_fail}
use Rattle.journal_rules.proofs.ForCallers.{stopped_calls}
use Rattle.actor_store.specs.declared.store.SetTrip.{SetTrip}
use Rattle.actor_store.specs.declared.store.Standing.{Standing}
use Rattle.actor_store.specs.declared.store.Standing.TheVariants.{Up, Down, Failing}
use Rattle.actor_store.specs.declared.store.Break.{Break}
use Rattle.actor_store.specs.declared.store.Break.TheVariants.{Stopped, Failed}
use Rattle.actor_store.specs.Store.{Stored, Called, Ends, IsArmed, Passes, is_failing, is_up, trip_of_rules, uncounted}
use Rattle.actor_store.proofs.EndsLaws.{passes_none, some_trip}

-- ---- the call that the rules don't have

pub torn_calls : {R : Type 0} (store : Stored R) → store.journal.is_torn ≡ true → uncounted store ≡ 0
torn_calls store torn = cond-true store.journal.is_torn 0 (cond (is_failing store.standing) 1 0) torn

whole_calls : {R : Type 0} (store : Stored R) → store.journal.is_torn ≡ false → uncounted store ≡ cond (is_failing store.standing) 1 0
whole_calls store whole = cond-false store.journal.is_torn 0 (cond (is_failing store.standing) 1 0) whole

pub down_calls : {R : Type 0} (store : Stored R) → store.journal.is_torn ≡ false → store.standing ≡ Down → uncounted store ≡ 0
down_calls store whole down = whole_calls store whole ∙ ap (λ (s : Standing). cond (is_failing s) 1 0) down

pub same_calls : {R : Type 0} (a b : Stored R) → a.journal.is_torn ≡ b.journal.is_torn → a.standing ≡ b.standing → uncounted a ≡ uncounted b
same_calls a b torn standing = ap₂ (λ (t : Bool) (s : Standing). cond t 0 (cond (is_failing s) 1 0)) torn standing

-- an actor that isn't up, and didn't stop, is failing
failed : (standing : Standing) → is_up standing ≡ false → (standing ≡ Down → ⊥) → is_failing standing ≡ true
failed Up stopped other = cc
failed Down stopped other = absurd (other refl)
failed Failing stopped other = refl

pub failed_calls : {R : Type 0} (store : Stored R) → store.journal.is_torn ≡ false → is_up store.standing ≡ false → (store.standing ≡ Down → ⊥) → uncounted store ≡ 1
failed_calls store whole stopped other = whole_calls store whole ∙ cond-true (is_failing store.standing) 1 0 (failed store.standing stopped other)

-- ---- those of the rules

-- a trip in force has calls left
pub armed_in_force : (set : Option SetTrip) (trip : Option Trip) → map_some trip_of_rules set ≡ trip → IsArmed set → Passes trip 0
armed_in_force set trip is armed = (let P : Option Trip → Type 0 = λ t. Passes t 0 in subst P is (passes_none set armed))

module _ {R : Type 0} (frame_bytes : R → ℕ) (K : Disk R → Option Trip → Type 0) (rules : Disk R) (trip : Option Trip) (set_on : Passes trip 0) (old new : Seen) where
  -- none was to be made
  pub called_none : {A : Type 0} (beside : ℕ) (r : Result A Break) → Ends frame_bytes K rules trip [] r → HasCalled beside old new → Called {R = R} beside trip [] old new r
  called_none beside (Ok done) ends called = omega (arith, called)
  called_none beside (Err (Stopped kept)) ends called =
      let (set, is, few, k, count) = ends in
      let P : Option Trip → Type 0 = λ t. Passes t 0 in
      let some = subst P is set_on in
      absurd (omega (arith, some, few))
  called_none beside (Err Failed) ends called = at_most beside (beside + 0) old new (omega arith) called

  -- one was made
  pub called_one : {A : Type 0} (call : Call R) (r : Result A Break) → Ends frame_bytes K rules trip (call ∷ []) r → HasCalled 1 old new → Called 0 trip (call ∷ []) old new r
  called_one call (Ok done) ends called = called
  called_one call (Err (Stopped kept)) ends called =
      let (set, is, few, k, count) = ends in
      let P : Option Trip → Type 0 = λ t. Passes t 0 in
      let some = subst P is set_on in
      (set, is, omega (arith, some, few, called))
  called_one call (Err Failed) ends called = at_most 1 1 old new (omega arith) called

-- some were made, and then others
pub called_more : {A R : Type 0} (beside : ℕ) (trip : Option Trip) (first more : List (Call R)) (a b c : Seen) (r : Result A Break)
    → Passes trip (length first) → HasCalled (beside + length first) a b → Called 0 (used (length first) trip) more b c r → Called beside trip (first ++ more) a c r
called_more beside trip first more a b c (Ok done) passes one two = omega (arith, one, two, length-append first more)
called_more beside None first more a b c (Err (Stopped kept)) passes one two = let (set, is, called) = two in cc
called_more beside (Some trip) first more a b c (Err (Stopped kept)) passes one two =
    let (set, is, called) = two in
    let left : trip.calls - length first ≡ set.calls = ap (λ t. t.calls) (some_trip _ _ is) in
    (trip, refl, omega (arith, passes, one, called, left))
called_more beside trip first more a b c (Err Failed) passes one two = omega (arith, one, two, length-append first more)

-- some ended early, and the others weren't made
pub called_early : {R : Type 0} (beside : ℕ) (trip : Option Trip) (first more : List (Call R)) (old new : Seen) (why : Break)
    → Called {A = ℕ} beside trip first old new (Err why) → Called {A = ℕ} beside trip (first ++ more) old new (Err why)
called_early beside trip first more old new (Stopped kept) called = called
called_early beside trip first more old new Failed called = at_most_more (beside + length first) (beside + length (first ++ more)) old new (omega (arith, length-append first more)) called

-- a trip came within them, and no call came before them
pub stop_behind : (beside : ℕ) (trip : Option Trip) (a b c : Seen) → b.calls ≡ a.calls → ((set : Trip) × (trip ≡ Some set) × HasCalled (beside + set.calls) b c)
    → (set : Trip) × (trip ≡ Some set) × HasCalled (beside + set.calls) a c
stop_behind beside trip a b c same (set, is, called) = (set, is, calls_behind (beside + set.calls) a b c same called)

-- ---- as the rules list them: a stop isn't among them

pub called_done : {A R : Type 0} (beside : ℕ) (trip : Option Trip) (calls : List (Call R)) (old new : Seen) (x : A) → can_fail calls ≡ length calls → Called beside trip calls old new (Ok x)
    → HasCalled (beside + can_fail calls) old new
called_done beside trip calls old new x all called = omega (arith, all, called)

pub called_stopped : {R : Type 0} (beside : ℕ) (trip : Option Trip) (set : Trip) (calls : List (Call R)) (old new : Seen) (kept : ℕ) → can_fail calls ≡ length calls → trip ≡ Some set → set.calls ≤ length calls
    → Called {A = ℕ} beside trip calls old new (Err (Stopped kept)) → HasCalled (beside + can_fail (take set.calls calls ++ Stops set.cut ∷ [])) old new
called_stopped beside trip set calls old new kept all is few (other, same, called) =
    let one : other.calls ≡ set.calls = ap (λ t. t.calls) (some_trip other set (sym same ∙ is)) in
    omega (arith, one, stopped_calls set.calls set.cut calls all few, called)
