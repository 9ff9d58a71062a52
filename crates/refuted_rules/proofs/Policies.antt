-- Two global transactions take tickets in opposite orders, where the second one should have waited.
use Rattle.std.proofs.Common.{List, map, refl, arith}
use Rattle.fed_rules.specs.declared.commands.Command.{Command}
use Rattle.fed_rules.specs.declared.scenario.Scenario.{Scenario}
use Rattle.fed_rules.specs.Plans.{IsScenario}
use Rattle.fed_rules.proofs.ForCallers.{before, conservatively, opened}
use Rattle.fed_rules.proofs.ForCallers as Opposite
use Rattle.refuted_rules.specs.Policies.{RefusesConservatively, tickets_at_once}

abbrev scenario : Scenario
scenario = conservatively Opposite.scenario

good : IsScenario scenario
good =
    record {
      sites = record { range = refl; differ = refl };
      items = record { declared = refl; differ = refl; few = λ s. omega arith };
      transactions = record {
        in_place = refl;
        differ = refl;
        programs = (record { some = omega arith; few = omega arith; registers = refl }, (record { some = omega arith; few = omega arith; registers = refl }, tt));
      };
      clients = refl;
      turns = refl;
      tries = refl;
      links = record { range = refl; differ = refl; few = omega arith };
      stops = record { range = refl; few = λ actor. omega arith };
    }

-- up to the line that refuses the second one
abbrev commands : List Command
commands = map (λ line. line.command) (before 26 Opposite.printed)

pub refused_conservatively : RefusesConservatively tickets_at_once
unfolding opened
refused_conservatively = record { scenario = scenario; good = good; conservative = refl; commands = commands; refused = tt }
