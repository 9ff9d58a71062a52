-- A site's past in a story, as the past that some events make.
use Rattle.std.specs.Prelude.{◌≡◌, Some, List}
use Rattle.mdb_base.specs.declared.names.SiteId.{SiteId}
use Rattle.fed_rules.specs.declared.commands.Command.{Command}
use Rattle.fed_rules.specs.declared.events.SiteEvent.{SiteEvent}
use Rattle.fed_rules.specs.declared.scenario.Scenario.{Scenario}
use Rattle.fed_rules.specs.Scenarios.{home_of}
use Rattle.fed_rules.specs.Site.{site_past}
use Rattle.fed_rules.specs.SiteRecords.{Home}
use Rattle.fed_rules.specs.Story.{past_of, story_of}

-- in the story of any commands the past of a declared site is the one that some events make
abbrev pub PastsAreMadeByEvents : Type 0
PastsAreMadeByEvents =
    (scenario : Scenario) (commands : List Command) (site : SiteId) (home : Home) → home_of scenario site ≡ Some home →
    (events : List SiteEvent) × (past_of home.site (story_of scenario commands) ≡ site_past home events)
