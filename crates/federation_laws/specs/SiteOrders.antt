-- What the order of each site means for that site alone.
use Rattle.std.specs.Prelude.{◌≡◌, Some}
use Rattle.mdb_base.specs.declared.names.SiteId.{SiteId}
use Rattle.fed_rules.specs.declared.scenario.Scenario.{Scenario}
use Rattle.fed_rules.specs.Orders.{order_at, due_of}
use Rattle.fed_rules.specs.Scenarios.{home_of}
use Rattle.fed_rules.specs.SiteRecords.{Home}
use Rattle.fed_rules.specs.Story.{Story, past_of}
use Rattle.site_history.specs.SiteOrders.{IsSerialOrder}

-- the members of the order of each declared site are named once; the tickets of prepared ones rise; one after another, from the first rows
-- on, they read alone what they were answered; and they leave what the site is due
abbrev pub SitesAreSerial : Scenario → Story → Type 0
SitesAreSerial scenario story =
    (site : SiteId) (home : Home) → home_of scenario site ≡ Some home
    → IsSerialOrder home (past_of home.site story) (order_at scenario story home.site) (due_of scenario story home.site)
