-- What a step of a core asks, and what it does to the pasts that the core stands for.
use Rattle.std.specs.Prelude.{ℕ, ◌≡◌, ◌+◌, Bool, true}
use Rattle.mdb_base.specs.declared.names.Tid.{Tid}
use Rattle.mdb_base.specs.Names.{same_tid}
use Rattle.mdb_base.specs.Words.{some_of}
use Rattle.fed_rules.specs.declared.events.CoordEvent.{CoordEvent}
use Rattle.fed_rules.specs.declared.events.CoordEvent.TheVariants as Ev
use Rattle.fed_rules.specs.declared.events.CoordStep.{CoordStep}
use Rattle.fed_rules.specs.CoordPast.{CoordHappening, CoordPast, begun_tids}
use Rattle.fed_rules.specs.Policies.{Policy}
use Rattle.journal_disk.specs.Disk.{Seen}
use Rattle.actor_store.specs.declared.errors.StepErr.{StepErr}
use Rattle.global_exec.specs.Pasts.{IsAmong}
use Rattle.coord_core.specs.declared.coord.CoordCore.{CoordCore}
use Rattle.coord_core.specs.Stands.{Fails, Stands, Steps, beside_rules, calls_for}
use Rattle.coord_tables.specs.Beginning.{CanGo}
use Rattle.coord_tables.specs.Terms.{Terms, line_of}

-- for some past that it stands for the fact holds
pub record SomePast (K : Terms → CoordPast → Type 0) (P : Terms → CoordPast → Type 0) : Type 0 where
  pub terms : Terms
  pub past : CoordPast
  pub stood : K terms past
  pub holds : P terms past

-- for every past that it stands for the fact holds
abbrev pub EachPast : (Terms → CoordPast → Type 0) → (Terms → CoordPast → Type 0) → Type 0
EachPast K P = (terms : Terms) (past : CoordPast) → K terms past → P terms past

-- the attempt was begun
abbrev pub WasBegun : Tid → CoordPast → Type 0
WasBegun tid past = some_of (same_tid tid) (begun_tids past) ≡ true

-- what an event asks of the past: an attempt that goes may go, the site of a message is declared, and an attempt that is sent again or given up
-- was begun
abbrev pub CanStep : CoordEvent → Terms → CoordPast → Type 0
CanStep (Ev.Go tid program) terms past = CanGo tid program terms past
CanStep (Ev.Take site message) terms past = IsAmong site terms.protocols
CanStep (Ev.Again tid) terms past = WasBegun tid past
CanStep (Ev.Late tid) terms past = WasBegun tid past
CanStep (Ev.Fate tx) terms past = Unit {0}
CanStep (Ev.Halt cut) terms past = Unit {0}
CanStep (Ev.Trip calls cut) terms past = Unit {0}
CanStep Ev.Back terms past = Unit {0}
CanStep Ev.Check terms past = Unit {0}

-- what a step does, from an old core with what is seen of its disk before, to a new one with what is seen of its disk after
module _ {P : Type 0} (test : P → Policy) (tells : Bool) (old : CoordCore P) (before : Seen) (new : CoordCore P) (after : Seen) where
  -- of each past for which the old core stood, where this may come, the step is the answer to the event, and the new core stands for the next
  -- line. The disk had so many calls beside those of the line
  abbrev pub StepsBeside : ℕ → (Terms → CoordPast → Type 0) → CoordEvent → CoordStep → Type 0
  StepsBeside beside Can event step =
      EachPast (Stands test tells old before) (λ terms past. Can terms past → Steps test tells beside before step new after terms past (line_of terms past event))

  -- of each such past the event isn't answered, for this reason, and the new core stands for what that leaves. The disk had at most so many calls
  -- beside those of the rules
  abbrev pub FailsBeside : ℕ → (Terms → CoordPast → Type 0) → CoordEvent → StepErr → Type 0
  FailsBeside beside Can event why =
      EachPast (Stands test tells old before)
      (λ terms past. Can terms past → Fails test tells (beside + calls_for terms past event) before why new after terms past event)

  -- so it is with those beside them that the event makes
  abbrev pub StepsWhere : (Terms → CoordPast → Type 0) → CoordEvent → CoordStep → Type 0
  StepsWhere Can event step = StepsBeside (beside_rules event old before) Can event step

  abbrev pub FailsWhere : (Terms → CoordPast → Type 0) → CoordEvent → StepErr → Type 0
  FailsWhere Can event why = FailsBeside (beside_rules event old before) Can event why

  -- so it is where the event may come
  abbrev pub StepsOn : CoordEvent → CoordStep → Type 0
  StepsOn event step = StepsWhere (CanStep event) event step

  abbrev pub FailsOn : CoordEvent → StepErr → Type 0
  FailsOn event why = FailsWhere (CanStep event) event why

-- the step says and sends what the line does
pub record Says (step : CoordStep) (x : CoordHappening) : Type 0 where
  pub answer : step.answer ≡ x.answer
  pub sends : step.sends ≡ x.sends
