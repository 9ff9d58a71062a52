-- What holds of the messages of every story.
use Rattle.std.specs.Prelude.{◌≡◌, ◌≤◌, Some, None, List, [], length, IsSome}
use Rattle.mdb_base.specs.declared.names.SiteId.{SiteId}
use Rattle.mdb_base.specs.declared.names.Tid.{Tid}
use Rattle.order_laws.specs.Chains.{In}
use Rattle.fed_rules.specs.declared.commands.Command.{Command}
use Rattle.fed_rules.specs.declared.events.SiteEvent.{SiteEvent}
use Rattle.fed_rules.specs.declared.events.SiteEvent.TheVariants as Ev
use Rattle.fed_rules.specs.declared.messages.ToSite.{ToSite}
use Rattle.fed_rules.specs.declared.scenario.Scenario.{Scenario}
use Rattle.fed_rules.specs.CoordPast.{begun_tids}
use Rattle.fed_rules.specs.Scenarios.{global_program, home_of}
use Rattle.fed_rules.specs.Site.{site_line}
use Rattle.fed_rules.specs.SitePast.{SitePast}
use Rattle.fed_rules.specs.SiteRecords.{Home}
use Rattle.fed_rules.specs.Story.{coord_past, sent_from, sent_to, story_of}
use Rattle.fed_rules.specs.Site_of.{about}

-- an attempt that was begun, of a global transaction
pub record IsBegunGlobal (scenario : Scenario) (commands : List Command) (tid : Tid) : Type 0 where
  pub begun : In tid (begun_tids (coord_past (story_of scenario commands)))
  pub global : IsSome (global_program scenario tid.tx)

abbrev pub MessagesAreOfBegunAttempts : Type 0
MessagesAreOfBegunAttempts =
    (scenario : Scenario) (commands : List Command) (home : Home) (message : ToSite) → home_of scenario home.site ≡ Some home
    → In message (sent_to home.site (story_of scenario commands)) → IsBegunGlobal scenario commands (about message)

-- where a site isn't declared, there are no messages to or from it
abbrev pub MessagesAreOfDeclaredSites : Type 0
MessagesAreOfDeclaredSites =
    (scenario : Scenario) (commands : List Command) (site : SiteId) → home_of scenario site ≡ None
    → (sent_to site (story_of scenario commands) ≡ []) × (sent_from site (story_of scenario commands) ≡ [])

-- the event gives a message or asks for a decision
abbrev pub MaySend : SiteEvent → Type 0
MaySend (Ev.Give message) = Unit {0}
MaySend (Ev.Ask tid) = Unit {0}
MaySend event = ⊥

abbrev pub OwnEventsSendNothing : Type 0
OwnEventsSendNothing = (home : Home) (past : SitePast) (event : SiteEvent) → (MaySend event → ⊥) → (site_line home past event).sends ≡ []

abbrev pub SitesSendFew : Type 0
SitesSendFew = (home : Home) (past : SitePast) (event : SiteEvent) → length (site_line home past event).sends ≤ 1
