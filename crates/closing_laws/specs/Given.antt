-- Two laws of every story that the finishing of a global transaction rests on.
use Rattle.std.specs.Prelude.{◌≡◌, ◌≤◌, false, None, Some, List}
use Rattle.mdb_base.specs.declared.names.SiteTicket.{SiteTicket}
use Rattle.mdb_base.specs.declared.names.Tid.{Tid}
use Rattle.order_laws.specs.Chains.{In}
use Rattle.order_laws.specs.Tickets.{Ticketed}
use Rattle.fed_rules.specs.declared.commands.Command.{Command}
use Rattle.fed_rules.specs.declared.scenario.Scenario.{Scenario}
use Rattle.fed_rules.specs.CoordPast as Coordinator
use Rattle.fed_rules.specs.CoordRecords.{commits}
use Rattle.fed_rules.specs.Plans.{IsScenario}
use Rattle.fed_rules.specs.Runs.{published}
use Rattle.fed_rules.specs.Scenarios.{home_of, local_site}
use Rattle.fed_rules.specs.SitePast.{epoch_start, engine_lines, is_closed}
use Rattle.fed_rules.specs.SiteRecords.{Home}
use Rattle.fed_rules.specs.Story.{coord_past, past_of, story_of}

-- an attempt of a transaction without a home is closed at no site before the coordinator begins it
abbrev pub UnbegunAreOpen : Type 0
UnbegunAreOpen =
    (scenario : Scenario) (commands : List Command) (home : Home) (tid : Tid) → IsScenario scenario → home_of scenario home.site ≡ Some home
    → local_site scenario tid.tx ≡ None → Coordinator.attempts_of (coord_past (story_of scenario commands)) tid.tx ≤ tid.attempt
    → is_closed (past_of home.site (story_of scenario commands)) tid ≡ false

-- a ticket of a Commit record is published at its site
abbrev pub CommittedTicketsArePublished : Type 0
CommittedTicketsArePublished =
    (scenario : Scenario) (commands : List Command) (home : Home) (commit : Ticketed) (k : SiteTicket) → IsScenario scenario → home_of scenario home.site ≡ Some home
    → In commit (commits (Coordinator.records (coord_past (story_of scenario commands)))) → In k commit.tickets → k.site ≡ home.site
    → k.ticket ≤ published (epoch_start home (past_of home.site (story_of scenario commands))) (engine_lines (past_of home.site (story_of scenario commands)))
