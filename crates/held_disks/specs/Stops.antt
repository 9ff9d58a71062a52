-- Which stops within an event a failed disk call may be, and what holds of the pasts that they leave.
use Rattle.std.specs.Prelude.{ℕ, ◌≡◌, ◌⊎◌, true}
use Rattle.fed_rules.specs.declared.events.CoordEvent.{CoordEvent}
use Rattle.fed_rules.specs.declared.events.SiteEvent.{SiteEvent}
use Rattle.fed_rules.specs.CoordPast.{CoordPast}
use Rattle.fed_rules.specs.Happenings.{is_down, stops}
use Rattle.fed_rules.specs.SitePast.{SitePast}
use Rattle.fed_rules.specs.SiteRecords.{Home}
use Rattle.fed_rules.specs.Terms.{Terms, line_of}
use Rattle.coord_core.specs.Stands.{stopped_before, stopped_within, with_trip}
use Rattle.site_core.specs.Stands.{StopAt, stopped_past}

-- this holds of what a stop of the coordinator before the event leaves
abbrev pub StopsBefore : (CoordPast → Type 0) → Terms → CoordPast → Type 0
StopsBefore M terms past = (cut : ℕ) × M (stopped_before terms past cut)

-- of what a stop right after some disk call of the event leaves
abbrev pub StopsAfter : (CoordPast → Type 0) → Terms → CoordPast → CoordEvent → Type 0
StopsAfter M terms past event =
    (calls : ℕ) × (cut : ℕ) × (stops (line_of terms (with_trip terms past calls cut) event).answer ≡ true) × M (stopped_within terms past event calls cut)

-- of what one or the other leaves
abbrev pub CoordStopsWithin : (CoordPast → Type 0) → Terms → CoordPast → CoordEvent → Type 0
CoordStopsWithin M terms past event = StopsBefore M terms past ⊎ StopsAfter M terms past event

-- of what a stop of a site before the event, or right after one of its disk calls, leaves
abbrev pub SiteStopsWithin : (SitePast → Type 0) → Home → SitePast → SiteEvent → Type 0
SiteStopsWithin K home past event =
    (at : StopAt) × K (stopped_past home past event at) × (is_down (stopped_past home past event at) ≡ true)
