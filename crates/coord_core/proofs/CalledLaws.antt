-- How many calls the disk of a coordinator gets.
use Rattle.std.proofs.Common.{◌≡◌, ℕ, ◌+◌, Bool, false, Result, Ok, Err, IsErr, List, [], length, refl, sym, ap, subst, arith}
use Rattle.std.proofs.lemmas.Bool.{cond-false, cond-true}
use Rattle.fed_rules.specs.declared.events.CoordEvent.{CoordEvent}
use Rattle.fed_rules.specs.declared.events.CoordEvent.TheVariants as Ev
use Rattle.fed_rules.specs.declared.events.CoordStep.{CoordStep}
use Rattle.fed_rules.specs.declared.records.CoordRecord.{CoordRecord}
use Rattle.fed_rules.specs.Coord.{answered, of_back}
use Rattle.fed_rules.specs.CoordPast.{CoordHappening, CoordPast}
use Rattle.fed_rules.specs.Disk.{Call}
use Rattle.fed_rules.specs.Policies.{Policy}
use Rattle.journal_disk.specs.Disk.{Seen, HasCalled, HasCalledAtMost, TakesCalls}
use Rattle.journal_disk.proofs.ForCallers.{at_most_add, at_most_behind, at_most_more, calls_add, calls_behind, no_call}
use Rattle.journal_rules.specs.Calls.{can_fail}
use Rattle.actor_store.specs.Store as actor
use Rattle.actor_store.specs.Store.{is_up, reloads, uncounted}
use Rattle.actor_store.specs.declared.errors.StepErr.{StepErr}
use Rattle.actor_store.specs.declared.errors.StepErr.TheVariants as Err_is
use Rattle.actor_store.specs.declared.store.Standing.TheVariants.{Up}
use Rattle.coord_core.specs.declared.coord.CoordCore.{CoordCore}
use Rattle.coord_core.specs.Stands.{Fails, Steps, beside_rules, calls_for}
use Rattle.coord_tables.specs.Terms.{Terms, answer_of}

-- a line without disk calls
pub called_quiet : (calls : List (Call CoordRecord)) (old new : Seen) → calls ≡ [] → new.calls ≡ old.calls → HasCalled (0 + can_fail calls) old new
called_quiet calls old new none same =
    let P : List (Call CoordRecord) → Type 0 = λ cs. HasCalled (0 + can_fail cs) old new in
    subst P (sym none) (no_call old new same)

-- at most so many as the rules have for the event
pub few_for : (terms : Terms) (past : CoordPast) (event : CoordEvent) (beside : ℕ) (calls : List (Call CoordRecord)) (old new : Seen) → (answer_of terms past event).calls ≡ calls
    → HasCalledAtMost (beside + length calls) old new → HasCalledAtMost (beside + calls_for terms past event) old new
few_for terms past event beside calls old new are few =
    let M : List (Call CoordRecord) → Type 0 = λ cs. HasCalledAtMost (beside + length cs) old new in
    subst M (sym are) few

pub start_calls : (terms : Terms) (past : CoordPast) (x : CoordHappening) → of_back terms.protocols past ≡ x → (answer_of terms past Ev.Back).calls ≡ x.calls
unfolding answered
start_calls terms past x is = ap (λ (y : CoordHappening). y.calls) is

-- ---- the calls beside those of the rules

-- a start of a coordinator that is up makes none
pub none_awake : {P : Type 0} (core : CoordCore P) (seen : Seen) → core.store.standing ≡ Up → beside_rules Ev.Back core seen ≡ 0
none_awake core seen up = cond-true (is_up core.store.standing) 0 (reloads core.store.is_fresh seen.size + uncounted (actor.stored core.store)) (ap is_up up)

-- no other event does
pub none_beside : {P : Type 0} (event : CoordEvent) (core : CoordCore P) (seen : Seen) → (event ≡ Ev.Back → ⊥) → beside_rules event core seen ≡ 0
none_beside Ev.Back core seen not_back = absurd (not_back refl)
none_beside (Ev.Go tid steps) core seen not_back = refl
none_beside (Ev.Take site message) core seen not_back = refl
none_beside (Ev.Again tid) core seen not_back = refl
none_beside (Ev.Late tid) core seen not_back = refl
none_beside (Ev.Fate tx) core seen not_back = refl
none_beside (Ev.Halt cut) core seen not_back = refl
none_beside (Ev.Trip calls cut) core seen not_back = refl
none_beside Ev.Check core seen not_back = refl

-- one that is down reads the disk, and then opens it
pub starting_beside : {P : Type 0} (core : CoordCore P) (seen : Seen) → is_up core.store.standing ≡ false
    → reloads core.store.is_fresh seen.size + uncounted (actor.stored core.store) ≡ beside_rules Ev.Back core seen
starting_beside core seen down = sym (cond-false (is_up core.store.standing) 0 (reloads core.store.is_fresh seen.size + uncounted (actor.stored core.store)) down)

-- a start of which the read failed
pub read_at_most : {P : Type 0} (core : CoordCore P) (before seen : Seen) (most : ℕ) → is_up core.store.standing ≡ false → HasCalledAtMost (reloads core.store.is_fresh before.size) before seen
    → HasCalledAtMost (beside_rules Ev.Back core before + most) before seen
read_at_most core before seen most down called =
    let is = starting_beside core before down in
    at_most_more (reloads core.store.is_fresh before.size) (beside_rules Ev.Back core before + most) before seen (omega (arith, is)) called

-- ---- what is counted differently, and from an earlier look at the disk

later : (n beside most : ℕ) (before between seen : Seen) → HasCalled n before between → HasCalledAtMost (beside + most) between seen → HasCalledAtMost ((n + beside) + most) before seen
later n beside most before between seen called few = omega (arith, at_most_add n (beside + most) before between seen called few)

module _ {P : Type 0} (test : P → Policy) (tells : Bool) where
  pub steps_beside : (before : Seen) (beside same : ℕ) (step : CoordStep) (core : CoordCore P) (seen : Seen) (terms : Terms) (past : CoordPast) (x : CoordHappening) → beside ≡ same
      → Steps test tells beside before step core seen terms past x → Steps test tells same before step core seen terms past x
  steps_beside before beside same step core seen terms past x is s = let S : ℕ → Type 0 = λ n. Steps test tells n before step core seen terms past x in subst S is s

  -- no call came before
  pub steps_behind : (beside : ℕ) (before between : Seen) (step : CoordStep) (core : CoordCore P) (seen : Seen) (terms : Terms) (past : CoordPast) (x : CoordHappening) → between.calls ≡ before.calls
      → Steps test tells beside between step core seen terms past x → Steps test tells beside before step core seen terms past x
  steps_behind beside before between step core seen terms past x same s =
      record { answer = s.answer; sends = s.sends; stood = s.stood; called = calls_behind (beside + can_fail x.calls) before between seen same s.called }

  pub fails_behind : (most : ℕ) (before between : Seen) (why : StepErr) (core : CoordCore P) (seen : Seen) (terms : Terms) (past : CoordPast) (event : CoordEvent) → between.calls ≡ before.calls
      → Fails test tells most between why core seen terms past event → Fails test tells most before why core seen terms past event
  fails_behind most before between Err_is.Memory core seen terms past event same (k, few) = (k, at_most_behind most before between seen same few)
  fails_behind most before between Err_is.Disk core seen terms past event same (stops, few) = (stops, at_most_behind most before between seen same few)

  -- so many came before
  pub steps_later : (n beside : ℕ) (before between : Seen) (step : CoordStep) (core : CoordCore P) (seen : Seen) (terms : Terms) (past : CoordPast) (x : CoordHappening) → HasCalled n before between
      → Steps test tells beside between step core seen terms past x → Steps test tells (n + beside) before step core seen terms past x
  steps_later n beside before between step core seen terms past x called s =
      record { answer = s.answer; sends = s.sends; stood = s.stood; called = omega (arith, calls_add n (beside + can_fail x.calls) before between seen called s.called) }

  pub fails_later : (n beside most : ℕ) (before between : Seen) (why : StepErr) (core : CoordCore P) (seen : Seen) (terms : Terms) (past : CoordPast) (event : CoordEvent) → HasCalled n before between
      → Fails test tells (beside + most) between why core seen terms past event → Fails test tells ((n + beside) + most) before why core seen terms past event
  fails_later n beside most before between Err_is.Memory core seen terms past event called (k, few) = (k, later n beside most before between seen called few)
  fails_later n beside most before between Err_is.Disk core seen terms past event called (stops, few) = (stops, later n beside most before between seen called few)

-- an outcome that failed, behind at most so many calls
pub takes_failed : {T E : Type 0} (n : ℕ) (old new : Seen) (outcome : Result T E) → IsErr outcome → HasCalledAtMost n old new → TakesCalls n old new outcome
takes_failed n old new (Ok x) failed few = cc
takes_failed n old new (Err e) failed few = record { done = tt; failed = few }
