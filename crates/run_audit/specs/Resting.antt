-- Whether the coordinator is at rest, and each of the sites of these lines.
use Rattle.std.specs.Prelude.{Bool, not, ◌&&◌, is_none, List}
use Rattle.mdb_base.specs.Words.{each_of, is_empty}
use Rattle.fed_rules.specs.declared.scenario.Scenario.{Scenario}
use Rattle.fed_rules.specs.declared.scenario.SiteLine.{SiteLine}
use Rattle.fed_rules.specs.Closing.{known}
use Rattle.fed_rules.specs.CoordPast as Coordinator
use Rattle.fed_rules.specs.Happenings.{is_down}
use Rattle.fed_rules.specs.Story.{Story, coord_past}
use Rattle.audit_rules.specs.Ends.{site_rests}

abbrev pub coordinator_rests : Scenario → Story → Bool
coordinator_rests scenario story = not (is_down (coord_past story)) && is_none (Coordinator.trip (coord_past story)) && is_empty (known scenario story)

abbrev pub sites_rest : Scenario → Story → List SiteLine → Bool
sites_rest scenario story lines = each_of (λ line. site_rests scenario story line.site) lines
