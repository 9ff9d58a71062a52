-- An attempt that is initiated at eight sites is ended at each of them, and a global transaction takes a message and its answer for each step.
use Rattle.std.proofs.Common.{◌≡◌, List, [], ◌∷◌, length, reverse, refl, arith}
use Rattle.mdb_base.specs.declared.acts.Step.{Step}
use Rattle.mdb_base.specs.declared.names.Engine.TheVariants.{Locking}
use Rattle.presumptions.specs.declared.Protocol.TheVariants as By
use Rattle.fed_rules.specs.declared.commands.Command.{Command}
use Rattle.fed_rules.specs.declared.scenario.Scenario.{Scenario}
use Rattle.fed_rules.specs.Closing.{closed, finished_alone}
use Rattle.fed_rules.specs.Plans.{IsScenario}
use Rattle.fed_rules.proofs.ForCallers.{give, global, go, halt, opened, scenario_of, set, site, step_at, take}
use Rattle.refuted_rules.specs.Bounds.{ClosesLater, FinishesLater, one_for_each, as_if_all_were_local}

abbrev eight_sites : Scenario
eight_sites =
    scenario_of
    (site 1 Locking By.Commit ∷ site 2 Locking By.Commit ∷ site 3 Locking By.Commit ∷ site 4 Locking By.Commit
    ∷ site 5 Locking By.Commit ∷ site 6 Locking By.Commit ∷ site 7 Locking By.Commit ∷ site 8 Locking By.Commit ∷ [])
    []
    (global 1
    (step_at 1 (set 1 1) ∷ step_at 2 (set 1 1) ∷ step_at 3 (set 1 1) ∷ step_at 4 (set 1 1)
    ∷ step_at 5 (set 1 1) ∷ step_at 6 (set 1 1) ∷ step_at 7 (set 1 1) ∷ step_at 8 (set 1 1) ∷ [])
    ∷ [])

eight_are_good : IsScenario eight_sites
eight_are_good =
    record {
      sites = record { range = refl; differ = refl };
      items = record { declared = refl; differ = refl; few = λ s. omega arith };
      transactions = record { in_place = refl; differ = refl; programs = (record { some = omega arith; few = omega arith; registers = refl }, tt) };
      clients = refl;
      turns = refl;
      tries = refl;
      links = record { range = refl; differ = refl; few = omega arith };
      stops = record { range = refl; few = λ actor. omega arith };
    }

-- the first site has its ticket, the attempt is initiated, and the coordinator stops
abbrev initiated : List Command
initiated = reverse (go 1 ∷ give 1 0 ∷ take 1 0 ∷ give 1 1 ∷ take 1 1 ∷ halt 0 0 ∷ [])

closing_is_long : length (closed eight_sites initiated) ≡ 25
unfolding opened
closing_is_long = refl

pub closes_later : ClosesLater one_for_each
closes_later =
    record { scenario = eight_sites; good = eight_are_good; commands = initiated; longer = (let long = closing_is_long in omega (arith, long)) }

-- 14 steps at one site
abbrev four_steps : List Step → List Step
four_steps steps = step_at 1 (set 1 1) ∷ step_at 1 (set 1 1) ∷ step_at 1 (set 1 1) ∷ step_at 1 (set 1 1) ∷ steps

abbrev one_global : Scenario
one_global =
    scenario_of (site 1 Locking By.Nothing ∷ []) []
    (global 1 (four_steps (four_steps (four_steps (step_at 1 (set 1 1) ∷ step_at 1 (set 1 1) ∷ [])))) ∷ [])

one_is_good : IsScenario one_global
one_is_good =
    record {
      sites = record { range = refl; differ = refl };
      items = record { declared = refl; differ = refl; few = λ s. omega arith };
      transactions = record { in_place = refl; differ = refl; programs = (record { some = omega arith; few = omega arith; registers = refl }, tt) };
      clients = refl;
      turns = refl;
      tries = refl;
      links = record { range = refl; differ = refl; few = omega arith };
      stops = record { range = refl; few = λ actor. omega arith };
    }

finishing_is_long : length (finished_alone one_global []) ≡ 35
unfolding opened
finishing_is_long = refl

pub finishes_later : FinishesLater as_if_all_were_local
finishes_later = record { scenario = one_global; good = one_is_good; commands = []; longer = (let long = finishing_is_long in omega (arith, long)) }
