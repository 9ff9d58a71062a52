-- A site that voted yes is in doubt until it is given the decision or an answer; and closing begins no transaction.
use Rattle.std.proofs.Common.{◌<◌, List, [], ◌∷◌, reverse, refl, subst, inl, inr, arith}
use Rattle.mdb_base.specs.declared.names.Engine.TheVariants.{Locking}
use Rattle.presumptions.specs.declared.Protocol.TheVariants as By
use Rattle.fed_rules.specs.declared.commands.Command.{Command}
use Rattle.fed_rules.specs.declared.scenario.Scenario.{Scenario}
use Rattle.fed_rules.specs.Plans.{IsScenario}
use Rattle.fed_rules.specs.SiteRecords.{Home}
use Rattle.fed_rules.specs.Story.{most_attempts}
use Rattle.fed_rules.proofs.ForCallers.{at, give, global, go, opened, scenario_of, set, site, step_at, take, tid}
use Rattle.closing_laws.specs.Finished.{begun}
use Rattle.progress_laws.specs.Progress.{answer_given, taken}
use Rattle.progress_laws.specs.WrongRules.{LeavesADoubt, LeavesADoubtUndecided, LeavesUncommitted, LeavesUnsettled, closed_alone}

abbrev one_site : Scenario
one_site = scenario_of (site 1 Locking By.Nothing ∷ []) [] (global 1 (step_at 1 (set 1 11) ∷ []) ∷ [])

abbrev home : Home
home = record { site = at 1; engine = Locking; protocol = By.Nothing; items = [] }

-- the site votes yes
abbrev voted : List Command
voted = reverse (go 1 ∷ give 1 0 ∷ take 1 0 ∷ give 1 1 ∷ take 1 1 ∷ give 1 2 ∷ [])

pub still_in_doubt : LeavesADoubt taken
unfolding opened
still_in_doubt =
    record {
      scenario = one_site;
      commands = take 1 2 ∷ voted;
      home = home;
      tid = tid 1 0;
      doubtful = record { declared = refl; ready = record { coordinator_up = refl; coordinator_untripped = refl; site_up = refl; site_untripped = refl }; in_doubt = refl };
      decided = refl;
      still = refl;
    }

pub undecided_still : LeavesADoubtUndecided answer_given
unfolding opened
undecided_still =
    record {
      scenario = one_site;
      commands = voted;
      home = home;
      tid = tid 1 0;
      doubtful = record { declared = refl; ready = record { coordinator_up = refl; coordinator_untripped = refl; site_up = refl; site_untripped = refl }; in_doubt = refl };
      undecided = refl;
      still = refl;
    }

pub closed_uncommitted : LeavesUncommitted closed_alone
unfolding opened
closed_uncommitted =
    record {
      scenario = one_site;
      commands = [];
      left = λ line i undone. elim i [ inl e ↦ subst (λ l. begun one_site [] l.tx < most_attempts) e (omega arith) | inr none ↦ absurd none ];
      line = global 1 (step_at 1 (set 1 11) ∷ []);
      listed = inl refl;
      undone = refl;
    }

whole : IsScenario one_site
whole =
    record {
      sites = record { range = refl; differ = refl };
      items = record { declared = refl; differ = refl; few = λ s. omega arith };
      transactions = record { in_place = refl; differ = refl; programs = (record { some = omega arith; few = omega arith; registers = refl }, tt) };
      clients = refl;
      turns = refl;
      tries = refl;
      links = record { range = refl; differ = refl; few = omega arith };
      stops = record { range = refl; few = λ actor. omega arith };
    }

-- the coordinator decided, and didn't tell the site yet
pub unsettled_still : LeavesUnsettled
unfolding opened
unsettled_still =
    record {
      scenario = one_site;
      good = whole;
      commands = take 1 2 ∷ voted;
      tid = tid 1 0;
      committed = refl;
      step = step_at 1 (set 1 11);
      of_program = inl refl;
      still = refl;
    }
