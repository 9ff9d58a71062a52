-- A later run of an attempt that is finished at a site stands in no order.
use Rattle.std.specs.Prelude.{◌≡◌, ℕ, true, None, Some, List, ◌++◌}
use Rattle.mdb_base.specs.declared.names.SiteId.{SiteId}
use Rattle.mdb_base.specs.declared.names.Tid.{Tid}
use Rattle.mdb_base.specs.Words.{Among}
use Rattle.order_laws.specs.Chains.{In}
use Rattle.fed_rules.specs.declared.commands.Command.{Command}
use Rattle.fed_rules.specs.declared.scenario.Scenario.{Scenario}
use Rattle.fed_rules.specs.Orders.{order_at}
use Rattle.fed_rules.specs.Plans.{IsScenario}
use Rattle.fed_rules.specs.Scenarios.{home_of, local_site}
use Rattle.fed_rules.specs.SitePast.{SitePast, records}
use Rattle.fed_rules.specs.SiteRecords.{Home}
use Rattle.fed_rules.specs.Story.{past_of, story_of}
use Rattle.commit_laws.specs.LaterRuns.{is_finished}
use Rattle.commit_laws.specs.Records.{IsPrepared}

-- behind a line of a site that finished a global attempt there, the attempt stands in the site's order only by a Prepared record that was kept then
abbrev pub LaterRunsStandInNoOrder : Type 0
LaterRunsStandInNoOrder =
    (scenario : Scenario) → IsScenario scenario → (commands : List Command) (site : SiteId) (home : Home) → home_of scenario site ≡ Some home
    → (newer older : SitePast) → past_of site (story_of scenario commands) ≡ newer ++ older
    → (tid : Tid) → local_site scenario tid.tx ≡ None → is_finished older tid ≡ true
    → In tid (order_at scenario (story_of scenario commands) site)
    → (e : ℕ) × Among (IsPrepared tid e) (records home older)
