-- That no attempt begins twice at a site within an epoch, and so the runs there are told apart by their attempts.
use Rattle.std.specs.Prelude.{◌≡◌, Some, List}
use Rattle.mdb_base.specs.declared.names.SiteId.{SiteId}
use Rattle.order_laws.specs.Chains.{Distinct}
use Rattle.fed_rules.specs.declared.commands.Command.{Command}
use Rattle.fed_rules.specs.declared.scenario.Scenario.{Scenario}
use Rattle.fed_rules.specs.Runs.{attempts}
use Rattle.fed_rules.specs.Scenarios.{home_of}
use Rattle.fed_rules.specs.SitePast.{SitePast, epoch_start, engine_lines}
use Rattle.fed_rules.specs.SiteRecords.{Home}
use Rattle.fed_rules.specs.Story.{past_of, story_of}

-- the attempts that were restored or begun in this epoch differ
abbrev pub BeginOnce : Home → SitePast → Type 0
BeginOnce home past = Distinct (attempts (epoch_start home past) (engine_lines past))

-- so it is at each declared site of every story
abbrev pub SitesBeginOnce : Type 0
SitesBeginOnce =
    (scenario : Scenario) (commands : List Command) (site : SiteId) (home : Home) → home_of scenario site ≡ Some home
    → BeginOnce home (past_of home.site (story_of scenario commands))
