-- The ticket edges between the committed attempts of a story.
use Rattle.std.specs.Prelude.{List}
use Rattle.mdb_base.specs.declared.names.SiteId.{SiteId}
use Rattle.order_laws.specs.Chains.{Acyclic, Within}
use Rattle.order_laws.specs.Tickets.{Ticketed, Precedes, OneEach, HasNoCycle}
use Rattle.fed_rules.specs.declared.commands.Command.{Command}
use Rattle.fed_rules.specs.declared.scenario.Scenario.{Scenario}
use Rattle.fed_rules.specs.CoordPast.{records}
use Rattle.fed_rules.specs.CoordRecords.{commits}
use Rattle.fed_rules.specs.Plans.{IsScenario}
use Rattle.fed_rules.specs.Story.{Story, coord_past, story_of}

-- the committed attempts of a story with their tickets, the last one first
abbrev pub committed : Story → List Ticketed
committed story = commits (records (coord_past story))

-- at some site both have a ticket, and the first one's is smaller
abbrev pub HasEdge : Ticketed → Ticketed → Type 0
HasEdge a b = (site : SiteId) × Precedes a b site

-- in the story of any commands no ticket edges between committed attempts go round
abbrev pub TicketsAreCycleFree : Type 0
TicketsAreCycleFree =
    (scenario : Scenario) (commands : List Command) → Acyclic (Within HasEdge (committed (story_of scenario commands)))

-- and no attempt has two Commit records, so that the ticket graph of the committed attempts has no cycle
abbrev pub TicketGraphsAreCycleFree : Type 0
TicketGraphsAreCycleFree =
    (scenario : Scenario) → IsScenario scenario → (commands : List Command)
    → OneEach (committed (story_of scenario commands)) × HasNoCycle (committed (story_of scenario commands))
