-- No actor of a session that begins with empty disks goes on from a found journal, so all frames on its disks are of version 2.
use Rattle.std.proofs.Common.{◌≡◌, ℕ, false, Some, List, ap, ◌∙◌}
use Rattle.fed_rules.specs.declared.commands.Command.{Command}
use Rattle.fed_rules.specs.declared.events.CoordEvent.{CoordEvent}
use Rattle.fed_rules.specs.declared.events.CoordEvent.TheVariants as Coord_event
use Rattle.fed_rules.specs.declared.events.SiteEvent.{SiteEvent}
use Rattle.fed_rules.specs.declared.events.SiteEvent.TheVariants as Site_event
use Rattle.fed_rules.specs.declared.scenario.Scenario.{Scenario}
use Rattle.fed_rules.specs.CoordPast.{CoordPast}
use Rattle.fed_rules.specs.Scenarios.{home_of, policy, protocols}
use Rattle.fed_rules.specs.SitePast.{SitePast}
use Rattle.fed_rules.specs.SiteRecords.{Home}
use Rattle.fed_rules.specs.Story.{coord_past, past_of, story_of}
use Rattle.fed_rules.specs.Terms.{Terms}
use Rattle.fed_rules.proofs.ForCallers.{pasts-made}
use Rattle.commit_laws.proofs.ForCallers.{story_made}
use Rattle.coord_core.specs.Found as Coord_found
use Rattle.coord_core.specs.Stands.{stopped_before, stopped_within, with_trip}
use Rattle.coord_core.proofs.ForCallers as Coord_pasts
use Rattle.site_core.specs.Made.{was_found}
use Rattle.site_core.specs.Stands.{StopAt, Before, Within, behind, stopped_past}
use Rattle.site_core.proofs.ForCallers.{next_not_found, past_not_found}

-- the coordinator
pub coord_not_found : (scenario : Scenario) (commands : List Command) → Coord_found.was_found (coord_past (story_of scenario commands)) ≡ false
coord_not_found scenario commands = Coord_pasts.made_not_found (protocols scenario) (policy scenario) (coord_past (story_of scenario commands)) (story_made scenario commands)

-- nor where it stops before an event or within it
tripped_not_found : (terms : Terms) (past : CoordPast) (calls cut : ℕ) → Coord_found.was_found past ≡ false → Coord_found.was_found (with_trip terms past calls cut) ≡ false
tripped_not_found terms past calls cut e = Coord_pasts.next_not_found terms.protocols terms.policy past (Coord_event.Trip calls cut) e

pub before_not_found : (terms : Terms) (past : CoordPast) (cut : ℕ) → Coord_found.was_found past ≡ false → Coord_found.was_found (stopped_before terms past cut) ≡ false
before_not_found terms past cut e = Coord_pasts.next_not_found terms.protocols terms.policy (with_trip terms past 0 0) (Coord_event.Halt cut) (tripped_not_found terms past 0 0 e)

pub within_not_found : (terms : Terms) (past : CoordPast) (event : CoordEvent) (calls cut : ℕ) → Coord_found.was_found past ≡ false → Coord_found.was_found (stopped_within terms past event calls cut) ≡ false
within_not_found terms past event calls cut e = Coord_pasts.next_not_found terms.protocols terms.policy (with_trip terms past calls cut) event (tripped_not_found terms past calls cut e)

-- a declared site
pub site_not_found : (scenario : Scenario) (commands : List Command) (home : Home) → home_of scenario home.site ≡ Some home → was_found (past_of home.site (story_of scenario commands)) ≡ false
site_not_found scenario commands home declared =
    let made = pasts-made scenario commands home.site home declared in
    ap was_found made.1 ∙ past_not_found home made.0

-- nor where it stops
pub stopped_not_found : (home : Home) (past : SitePast) (event : SiteEvent) (at : StopAt) → was_found past ≡ false → was_found (stopped_past home past event at) ≡ false
stopped_not_found home past event (Before cut) e =
    next_not_found home (behind home past (Site_event.Trip 0 0)) (Site_event.Halt cut) (next_not_found home past (Site_event.Trip 0 0) e)
stopped_not_found home past event (Within calls cut) e =
    next_not_found home (behind home past (Site_event.Trip calls cut)) event (next_not_found home past (Site_event.Trip calls cut) e)
