-- The event that a command comes to may come to the core, and fits the programs; and what a line leaves of what is stood for.
use Rattle.std.proofs.Common.{◌≡◌, ℕ, ◌<◌, Bool, IsSome, is_some, Some, List, inl, inr, refl, ap, subst}
use Rattle.std.specs.FinMap.{from_entries}
use Rattle.mdb_base.specs.declared.acts.Step.{Step}
use Rattle.mdb_base.specs.declared.names.Tx.{Tx}
use Rattle.fed_rules.specs.declared.events.CoordEvent.{CoordEvent}
use Rattle.fed_rules.specs.declared.events.CoordEvent.TheVariants as Ev
use Rattle.fed_rules.specs.declared.events.CoordStep.{CoordStep}
use Rattle.fed_rules.specs.CoordPast.{CoordPast, attempts_of, trip}
use Rattle.fed_rules.specs.Policies.{Policy}
use Rattle.fed_rules.specs.Requests.{Submits, attempt}
use Rattle.journal_disk.specs.Disk.{Seen}
use Rattle.actor_store.specs.declared.errors.StepErr.{StepErr}
use Rattle.actor_store.specs.declared.errors.StepErr.TheVariants as Err_is
use Rattle.actor_store.specs.Store.{Passes}
use Rattle.actor_store.proofs.ForCallers.{passes_none}
use Rattle.coord_core.specs.declared.coord.CoordCore.{CoordCore}
use Rattle.coord_core.specs.Stands.{Fails as CoreFails, Holds, Steps, StopsBefore as CoreBefore, StopsWithin as CoreWithin}
use Rattle.coord_tables.specs.Terms.{Terms, line_of}
use Rattle.global_manager.specs.declared.manager.GlobalManager.{GlobalManager}
use Rattle.global_manager.specs.Stands.{CanSubmit, Fails, FitsPrograms, OwnPrograms, Owns, Recalls, Sends, Stands, StopsBefore, StopsWithin}
use Rattle.global_manager.proofs.Owned.{down_before, down_within, owned_before, owned_more, owned_within}

-- a trip in force has calls left
pub holds_passes : {P : Type 0} (test : P → Policy) (core : CoordCore P) (terms : Terms) (past : CoordPast) → Holds test core terms past → Passes (trip past) 0
holds_passes test core terms past h = subst (λ t. Passes t 0) h.trip (passes_none core.store.trip h.armed)

-- the next attempt of a global transaction may go
pub can_go : {P : Type 0} (test : P → Policy) (manager : GlobalManager P) (terms : Terms) (programs : OwnPrograms) (past : CoordPast) → Recalls test manager terms programs past
    → (tx : Tx) (steps : List Step) → programs tx ≡ Some steps → attempts_of past tx < 32 → CanSubmit (Ev.Go (attempt tx (attempts_of past tx)) steps) terms programs past
can_go test manager terms programs past r tx steps own few =
    let own_some : IsSome (programs tx) = ap is_some own in
    let named = r.owns.named tx own_some in
    (record { in_range = record { least = named.0; greatest = named.1; attempts = few }; next = refl; sites = r.owns.sited tx steps own }, record { own = own; next = refl; few = few })

-- the same of what is in memory alone
pub recalled : {P : Type 0} (test : P → Policy) (tells : Bool) (manager : GlobalManager P) (seen : Seen) (terms : Terms) (programs : OwnPrograms) (past : CoordPast)
    → Stands test tells manager seen terms programs past → Recalls test manager terms programs past
recalled test tells manager seen terms programs past s = record { core = s.core.holds; owns = s.owns }

module _ {P : Type 0} (test : P → Policy) (tells : Bool) (old : GlobalManager P) (core : CoordCore P) (seen : Seen) (terms : Terms) (programs : OwnPrograms) (past : CoordPast)
    (event : CoordEvent) (owns : Owns (from_entries old.programs.entries) terms programs past) (fits : FitsPrograms programs past event) where
  -- the core answered
  pub sends : (beside : ℕ) (was : Seen) (step : CoordStep) → Steps test tells beside was step core seen terms past (line_of terms past event)
      → Sends (Stands test tells (record old { core = core }) seen) step terms programs past event
  sends beside was step s = record {
    said = s.answer;
    sent = s.sends;
    next = record { core = s.stood; owns = record { held = owns.held; named = owns.named; sited = owns.sited; owned = owned_more terms programs past event owns.owned fits } };
  }

  before : CoreBefore test tells core seen terms past → StopsBefore (Stands test tells (record old { core = core }) seen) terms programs past
  before s = record {
    cut = s.cut;
    stood = record { core = s.stood; owns = record { held = owns.held; named = owns.named; sited = owns.sited; owned = owned_before terms programs past s.cut owns.owned } };
    down = down_before terms past s.cut;
  }

  within : CoreWithin test tells core seen terms past event → StopsWithin (Stands test tells (record old { core = core }) seen) terms programs past event
  within s = record {
    calls = s.calls;
    cut = s.cut;
    stops = s.stops;
    stood = record { core = s.stood; owns = record { held = owns.held; named = owns.named; sited = owns.sited; owned = owned_within terms programs past event s.calls s.cut owns.owned fits } };
    down = down_within terms past event s.calls s.cut s.stops;
  }

  -- or it didn't
  pub fails : (most : ℕ) (was : Seen) (why : StepErr) → CoreFails test tells most was why core seen terms past event
      → Fails (Stands test tells (record old { core = core }) seen) why terms programs past (Submits event)
  fails most was Err_is.Memory (s, few) = record { core = s; owns = owns }
  fails most was Err_is.Disk (inl s, few) = inl (before s)
  fails most was Err_is.Disk (inr s, few) = inr (within s)
