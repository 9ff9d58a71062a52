-- One order for all sites, from the site orders, the commits and the programs.
use Rattle.std.proofs.Common.{List}
use Rattle.fed_rules.specs.declared.commands.Command.{Command}
use Rattle.fed_rules.specs.declared.scenario.Scenario.{Scenario}
use Rattle.fed_rules.specs.Story.{story_of}
use Rattle.federation_laws.specs.OneOrder.{Parts, HasOneOrder}
use Rattle.federation_laws.proofs.Merges.{orders-acyclic, merge-once, printed-merge, printed-least, printed-only}
use Rattle.federation_laws.proofs.SerialStories.{merge-serial}
use Rattle.federation_laws.proofs.TicketCycles.{tickets_cycle_free}

-- the parts of a story make one order for all its sites
pub one-order : (scenario : Scenario) (commands : List Command) → Parts scenario (story_of scenario commands) → HasOneOrder scenario (story_of scenario commands)
one-order scenario commands parts =
    let story = story_of scenario commands in
    let none = orders-acyclic scenario story (tickets_cycle_free scenario commands) parts.sites parts.commits in
    record {
      cycle_free = none;
      merge = printed-merge scenario story none;
      least = printed-least scenario story none;
      once = merge-once scenario story parts.sites;
      only = printed-only scenario story none;
      serial = merge-serial scenario story parts;
    }
