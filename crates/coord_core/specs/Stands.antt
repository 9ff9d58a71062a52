-- What the core of a coordinator stands for: what it is made with, and the list of what happened, the newest first.
use Rattle.std.specs.Prelude.{ℕ, ◌≡◌, ◌⊎◌, ◌+◌, Bool, true, cond, not, IsTrue, ◌∷◌, length, reverse}
use Rattle.mdb_base.specs.declared.names.Tx.{Tx}
use Rattle.mdb_base.specs.Words.{map_some}
use Rattle.fed_rules.specs.declared.events.CoordEvent.{CoordEvent}
use Rattle.fed_rules.specs.declared.events.CoordEvent.TheVariants as Ev
use Rattle.fed_rules.specs.declared.events.CoordStep.{CoordStep}
use Rattle.fed_rules.specs.Happenings.{is_down, stops}
use Rattle.fed_rules.specs.CoordPast.{CoordHappening, CoordPast, attempts_of}
use Rattle.fed_rules.specs.CoordPast as Past
use Rattle.fed_rules.specs.Policies.{Policy}
use Rattle.fed_rules.specs.Right.{MayPrint}
use Rattle.journal_disk.specs.Disk.{HasCalled, HasCalledAtMost, Seen, IsSound as IsSoundImage}
use Rattle.frame_journal.specs.Journal.{records}
use Rattle.journal_rules.specs.Calls.{can_fail}
use Rattle.actor_store.specs.declared.errors.StepErr.{StepErr}
use Rattle.actor_store.specs.declared.errors.StepErr.TheVariants as Err_is
use Rattle.actor_store.specs.declared.store.Standing.{Standing}
use Rattle.actor_store.specs.declared.store.Standing.TheVariants.{Up, Down, Failing}
use Rattle.actor_store.specs.Store as actor
use Rattle.actor_store.specs.Store.{IsArmed, is_up, reloads, trip_of_rules, uncounted}
use Rattle.coord_core.specs.declared.coord.CoordCore.{CoordCore}
use Rattle.coord_tables.specs.declared.tables.Tables.{Tables}
use Rattle.coord_tables.specs.Trees.{noted}
use Rattle.coord_core.specs.Found.{was_found}
use Rattle.coord_core.specs.Store.{Keeps}
use Rattle.coord_tables.specs.Tables.{IsServing}
use Rattle.coord_tables.specs.Terms.{Terms, IsSound, answer_of, line_of}

-- while the coordinator is down, its tables say nothing
abbrev pub TablesStand : Tables → Standing → Terms → CoordPast → Type 0
TablesStand tables Up terms past = IsServing tables terms past
TablesStand tables Down terms past = Unit {0}
TablesStand tables Failing terms past = Unit {0}

-- what a core holds beside its disk; the test is the one that contracts see of a policy
pub record Holds {P : Type 0} (test : P → Policy) (core : CoordCore P) (terms : Terms) (past : CoordPast) : Type 0 where
  pub protocols : core.protocols ≡ terms.protocols
  pub policy : test core.policy ≡ terms.policy
  pub sound : IsSound terms past
  pub records : records core.store.journal ≡ reverse (Past.journal past)
  pub trip : map_some trip_of_rules core.store.trip ≡ Past.trip past
  pub armed : IsArmed core.store.trip
  pub standing : is_down past ≡ not (is_up core.store.standing)
  pub tables : TablesStand core.tables core.store.standing terms past
  pub begun : (tx : Tx) → noted core.begun.listed tx ≡ attempts_of past tx

-- the core, with this disk, stands for this past of a coordinator on these terms
pub record Stands {P : Type 0} (test : P → Policy) (tells : Bool) (core : CoordCore P) (seen : Seen) (terms : Terms) (past : CoordPast) : Type 0 where
  pub holds : Holds test core terms past
  pub stored : Keeps (was_found past) tells seen core.store (Past.disk past) (Past.trip past)

-- how many calls a step makes beside those of the rules: a start reads the disk, and behind a failed call it cuts back where nothing is torn
abbrev pub beside_rules : {P : Type 0} → CoordEvent → CoordCore P → Seen → ℕ
beside_rules Ev.Back core seen = cond (is_up core.store.standing) 0 (reloads core.store.is_fresh seen.size + uncounted (actor.stored core.store))
beside_rules event core seen = 0

-- the step says and sends what the line does, but that another cycle may be printed, and the core with this disk stands for the line added. The
-- disk had each call of the line once, and so many beside them, since it was seen before
pub record Steps {P : Type 0} (test : P → Policy) (tells : Bool) (beside : ℕ) (before : Seen) (step : CoordStep) (core : CoordCore P) (seen : Seen) (terms : Terms) (past : CoordPast) (x : CoordHappening) : Type 0 where
  pub answer : MayPrint terms.protocols past x x.event step.answer
  pub sends : step.sends ≡ x.sends
  pub stood : Stands test tells core seen terms (x ∷ past)
  pub called : HasCalled (beside + can_fail x.calls) before seen

-- the past with a trip set
abbrev pub with_trip : Terms → CoordPast → ℕ → ℕ → CoordPast
with_trip terms past calls cut = line_of terms past (Ev.Trip calls cut) ∷ past

-- the past with a stop before the event: the trip is disarmed, and the coordinator is halted
abbrev pub stopped_before : Terms → CoordPast → ℕ → CoordPast
stopped_before terms past cut = line_of terms (with_trip terms past 0 0) (Ev.Halt cut) ∷ with_trip terms past 0 0

-- the past with a stop within the event: a trip is set, which stops it
abbrev pub stopped_within : Terms → CoordPast → CoordEvent → ℕ → ℕ → CoordPast
stopped_within terms past event calls cut = line_of terms (with_trip terms past calls cut) event ∷ with_trip terms past calls cut

-- the core stands for a stop before the event
pub record StopsBefore {P : Type 0} (test : P → Policy) (tells : Bool) (core : CoordCore P) (seen : Seen) (terms : Terms) (past : CoordPast) : Type 0 where
  pub cut : ℕ
  pub stood : Stands test tells core seen terms (stopped_before terms past cut)

-- the core stands for a stop right after some disk call of the event
pub record StopsWithin {P : Type 0} (test : P → Policy) (tells : Bool) (core : CoordCore P) (seen : Seen) (terms : Terms) (past : CoordPast) (event : CoordEvent) : Type 0 where
  pub calls : ℕ
  pub cut : ℕ
  pub stops : stops (line_of terms (with_trip terms past calls cut) event).answer ≡ true
  pub stood : Stands test tells core seen terms (stopped_within terms past event calls cut)

-- how many disk calls the rules have for the event, where no trip comes within them
abbrev pub calls_for : Terms → CoordPast → CoordEvent → ℕ
calls_for terms past event = length (answer_of terms past event).calls

-- an event that isn't answered: want of memory changes nothing, and a failed disk call is as a stop. The disk had at most so many calls
abbrev pub Fails : {P : Type 0} → (P → Policy) → Bool → ℕ → Seen → StepErr → CoordCore P → Seen → Terms → CoordPast → CoordEvent → Type 0
Fails test tells most before Err_is.Memory core seen terms past event = Stands test tells core seen terms past × HasCalledAtMost most before seen
Fails test tells most before Err_is.Disk core seen terms past event =
    (StopsBefore test tells core seen terms past ⊎ StopsWithin test tells core seen terms past event) × HasCalledAtMost most before seen

-- nothing was written on the disk, and it tells its bytes
pub record IsEmptyDisk (tells : Bool) (seen : Seen) : Type 0 where
  pub told : IsTrue tells
  pub empty : seen.size ≡ 0
  pub bytes : length seen.image.bytes ≡ seen.size
  pub sound : IsSoundImage seen.image
