-- The sites of a story: their events, and what holds of them.
use Rattle.std.specs.Prelude.{◌≡◌, Bool, is_some, Some, List}
use Rattle.mdb_base.specs.declared.names.SiteId.{SiteId}
use Rattle.mdb_base.specs.declared.names.Tx.{Tx}
use Rattle.mdb_base.specs.Words.{Each}
use Rattle.order_laws.specs.Chains.{In}
use Rattle.fed_rules.specs.declared.commands.Command.{Command}
use Rattle.fed_rules.specs.declared.events.SiteEvent.{SiteEvent}
use Rattle.fed_rules.specs.declared.events.SiteEvent.TheVariants.{Give}
use Rattle.fed_rules.specs.declared.messages.ToSite.{ToSite}
use Rattle.fed_rules.specs.declared.scenario.Scenario.{Scenario}
use Rattle.fed_rules.specs.Scenarios.{home_of, local_site}
use Rattle.fed_rules.specs.Site.{site_past}
use Rattle.fed_rules.specs.SitePast.{SitePast}
use Rattle.fed_rules.specs.SiteRecords.{Home}
use Rattle.fed_rules.specs.Story.{past_of, sent_to, story_of}
use Rattle.site_history.specs.Events.{AreSorted, AskInOneEpoch, PreparesOnce}
use Rattle.site_history.specs.Lines.{HasRightLines}

-- whether a transaction is local
abbrev pub is_local : Scenario → Tx → Bool
is_local scenario tx = is_some (local_site scenario tx)

-- a message that comes was sent to the site
abbrev pub IsGiven : List ToSite → SiteEvent → Type 0
IsGiven sent (Give message) = In message sent
IsGiven sent event = Unit {0}

-- the past of a site in a story is made by sorted events, in which each message that comes was sent, and all Prepares of an attempt name one
-- epoch
pub record IsMadeSorted (scenario : Scenario) (sent : List ToSite) (home : Home) (past : SitePast) : Type 0 where
  pub events : List SiteEvent
  pub sorted : AreSorted (is_local scenario) events
  pub given : Each (IsGiven sent) events
  pub one_epoch : AskInOneEpoch events
  pub made : past ≡ site_past home events

-- the fact holds of the past of each declared site in the story of any commands
abbrev pub OfDeclaredSites : (Scenario → Home → SitePast → Type 0) → Type 0
OfDeclaredSites P =
    (scenario : Scenario) (commands : List Command) (site : SiteId) (home : Home) → home_of scenario site ≡ Some home
    → P scenario home (past_of home.site (story_of scenario commands))

-- so it is at each declared site of every story
abbrev pub EventsAreSorted : Type 0
EventsAreSorted =
    (scenario : Scenario) (commands : List Command) (site : SiteId) (home : Home) → home_of scenario site ≡ Some home
    → IsMadeSorted scenario (sent_to home.site (story_of scenario commands)) home (past_of home.site (story_of scenario commands))

-- no attempt is prepared twice at a declared site of a story
abbrev pub StoriesPrepareOnce : Type 0
StoriesPrepareOnce = OfDeclaredSites (λ scenario home past. PreparesOnce home past)

-- at each declared site of every story each engine line may come there with its answer
abbrev pub StoriesHaveRightLines : Type 0
StoriesHaveRightLines = OfDeclaredSites (λ scenario home past. HasRightLines home past)

-- the fact holds of each declared site of every story where no attempt is prepared twice
abbrev pub OfSitesPreparedOnce : (Home → SitePast → Type 0) → Type 0
OfSitesPreparedOnce P = OfDeclaredSites (λ scenario home past. PreparesOnce home past → P home past)

-- the fact holds of each declared site of every story
abbrev pub OfSites : (Home → SitePast → Type 0) → Type 0
OfSites P = OfDeclaredSites (λ scenario home past. P home past)
