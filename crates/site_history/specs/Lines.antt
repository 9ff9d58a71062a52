-- What the engine lines of a site are, whatever events come to it.
use Rattle.std.specs.Prelude.{◌≡◌, ◌++◌, Option, Some, None, List}
use Rattle.mdb_base.specs.declared.names.Tid.{Tid}
use Rattle.fed_rules.specs.declared.events.SiteEvent.{SiteEvent}
use Rattle.fed_rules.specs.Runs.{Run, puts_of}
use Rattle.fed_rules.specs.EngineLines.{IsRight}
use Rattle.fed_rules.specs.Site.{answered, site_past}
use Rattle.fed_rules.specs.SitePast.{SitePast, records, epoch_start, engine_lines, run_of}
use Rattle.fed_rules.specs.SiteRecords.{Home, Held, doubt_of}
use Rattle.site_history.specs.Events.{IsFresh, AreFresh}

-- a run is sealed exactly where its attempt is in doubt, with the number, the ticket and the writes of its record
abbrev pub Agrees : Option Held → Option Run → Type 0
Agrees None None = Unit {0}
Agrees None (Some run) = run.sealed ≡ None
Agrees (Some held) None = ⊥
Agrees (Some held) (Some run) = (run.sealed ≡ Some held.number) × (run.ticket ≡ Some held.ticket) × (held.writes ≡ puts_of run.acts)

-- each engine line may come there with its answer, also those of the next line where a trip comes within its disk calls;
-- and the sealed runs are those in doubt
pub record HasRightLines (home : Home) (past : SitePast) : Type 0 where
  pub right : IsRight (epoch_start home past) (engine_lines past)
  pub next : (event : SiteEvent) → IsFresh home past event → IsRight (epoch_start home past) ((answered home past event).lines ++ engine_lines past)
  pub sealed : (tid : Tid) → Agrees (doubt_of (records home past) tid) (run_of home past tid)

-- so it is after all events
abbrev pub LinesAreRight : Type 0
LinesAreRight = (home : Home) (events : List SiteEvent) → AreFresh home events → HasRightLines home (site_past home events)
