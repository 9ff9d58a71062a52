-- For each wrong way of closing a session that it leaves without rest.
use Rattle.std.proofs.Common.{◌≡◌, Some, None, List, [], ◌∷◌, reverse, refl, arith}
use Rattle.mdb_base.specs.declared.names.Engine.TheVariants.{Locking}
use Rattle.presumptions.specs.declared.Protocol.{Protocol}
use Rattle.presumptions.specs.declared.Protocol.TheVariants as By
use Rattle.fed_rules.specs.declared.commands.Command.{Command}
use Rattle.fed_rules.specs.declared.scenario.Scenario.{Scenario}
use Rattle.fed_rules.specs.Plans.{IsScenario}
use Rattle.fed_rules.proofs.ForCallers.{at, give, global, go, halt, opened, scenario_of, set, site, step_at, take, tid, trip}
use Rattle.refuted_rules.specs.Closings.{LeavesNoRest, closed_without_disarming, closed_without_clearing, closed_without_ending, closed_without_inquiries, closed_by_asking_first}

abbrev one_site : Protocol → Scenario
one_site protocol = scenario_of (site 1 Locking protocol ∷ []) [] (global 1 (step_at 1 (set 1 11) ∷ []) ∷ [])

good_by_nothing : IsScenario (one_site By.Nothing)
good_by_nothing =
    record {
      sites = record { range = refl; differ = refl };
      items = record { declared = refl; differ = refl; few = λ s. omega arith };
      transactions = record { in_place = refl; differ = refl; programs = (record { some = omega arith; few = omega arith; registers = refl }, tt) };
      clients = refl;
      turns = refl;
      tries = refl;
      links = record { range = refl; differ = refl; few = omega arith };
      stops = record { range = refl; few = λ actor. omega arith };
    }

good_by_abort : IsScenario (one_site By.Abort)
good_by_abort =
    record {
      sites = record { range = refl; differ = refl };
      items = record { declared = refl; differ = refl; few = λ s. omega arith };
      transactions = record { in_place = refl; differ = refl; programs = (record { some = omega arith; few = omega arith; registers = refl }, tt) };
      clients = refl;
      turns = refl;
      tries = refl;
      links = record { range = refl; differ = refl; few = omega arith };
      stops = record { range = refl; few = λ actor. omega arith };
    }

-- a trip is armed at the coordinator
pub still_armed : LeavesNoRest closed_without_disarming
unfolding opened
still_armed =
    record {
      scenario = one_site By.Nothing;
      good = good_by_nothing;
      commands = trip 0 5 0 ∷ [];
      broken = λ rest. (let no : Some (record { calls = 5; cut = 0 }) ≡ None = rest.coordinator_untripped in cc);
    }

-- the first act was given
abbrev begun_there : List Command
begun_there = reverse (go 1 ∷ give 1 0 ∷ [])

pub still_live : LeavesNoRest closed_without_clearing
unfolding opened
still_live =
    record {
      scenario = one_site By.Nothing;
      good = good_by_nothing;
      commands = begun_there;
      broken = λ rest. (let no : tid 1 0 ∷ [] ≡ [] = rest.none_live (at 1) in cc);
    }

-- the site is prepared, and its vote is taken or not
abbrev prepared : List Command → List Command
prepared commands = reverse (go 1 ∷ give 1 0 ∷ take 1 0 ∷ give 1 1 ∷ take 1 1 ∷ give 1 2 ∷ commands)

pub still_known : LeavesNoRest closed_without_ending
unfolding opened
still_known =
    record {
      scenario = one_site By.Nothing;
      good = good_by_nothing;
      commands = prepared (take 1 2 ∷ []);
      broken = λ rest. (let no : tid 1 0 ∷ [] ≡ [] = rest.none_known in cc);
    }

pub still_in_doubt : LeavesNoRest closed_without_inquiries
unfolding opened
still_in_doubt =
    record {
      scenario = one_site By.Abort;
      good = good_by_abort;
      commands = prepared [];
      broken = λ rest. (let no : tid 1 0 ∷ [] ≡ [] = rest.none_in_doubt (at 1) in cc);
    }

-- the coordinator is down, so that it answers no inquiry
pub still_unanswered : LeavesNoRest closed_by_asking_first
unfolding opened
still_unanswered =
    record {
      scenario = one_site By.Abort;
      good = good_by_abort;
      commands = prepared (halt 0 0 ∷ []);
      broken = λ rest. (let no : tid 1 0 ∷ [] ≡ [] = rest.none_in_doubt (at 1) in cc);
    }
