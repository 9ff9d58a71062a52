-- What happens at a site in a story is the next line of that site.
use Rattle.std.proofs.Common.{◌≡◌, Bool, true, false, cond, Some, List, [], ◌∷◌, refl, sym, ◌∙◌, ap}
use Rattle.mdb_base.specs.Names.{same_site}
use Rattle.mdb_base.proofs.ForCallers.{same_site-equal, some_parts}
use Rattle.fed_rules.specs.declared.commands.Command.{Command}
use Rattle.fed_rules.specs.declared.events.SiteEvent.{SiteEvent}
use Rattle.fed_rules.specs.declared.scenario.Scenario.{Scenario}
use Rattle.fed_rules.specs.Scenarios.{home_of}
use Rattle.fed_rules.specs.Site.{site_line, site_past}
use Rattle.fed_rules.specs.SiteRecords.{Home}
use Rattle.fed_rules.specs.Story.{Story, Happened, AtSite, AtCoordinator, Nowhere, past_of, story_of, with_site, happens}
use Rattle.fed_rules.specs.Lines.{IsLine}
use Rattle.fed_rules.specs.Pasts.{PastsAreMadeByEvents}
use Rattle.fed_rules.proofs.Declared.{home-again}
use Rattle.fed_rules.proofs.Lines.{line_is}

-- the past of a site with what happens next
past-more : (scenario : Scenario) (home : Home) (story : Story) (command : Command) (happened : Happened) (events : List SiteEvent) → home_of scenario home.site ≡ Some home → IsLine scenario story command happened
    → past_of home.site story ≡ site_past home events → (more : List SiteEvent) × (with_site home.site happened (past_of home.site story) ≡ site_past home more)
past-more scenario home story command (AtSite at x) events d line e = by_test (same_site at home.site) refl where
  same_home : same_site at home.site ≡ true → line.home ≡ home
  same_home q = some_parts (sym line.declared ∙ ap (home_of scenario) (sym line.here ∙ same_site-equal at home.site q) ∙ d)

  by_test : (t : Bool) → same_site at home.site ≡ t → (more : List SiteEvent) × (cond t (x ∷ past_of home.site story) (past_of home.site story) ≡ site_past home more)
  by_test true q = (line.event ∷ events, ap (λ y. y ∷ past_of home.site story) (line.is_next ∙ ap (λ h. site_line h (past_of h.site story) line.event) (same_home q)) ∙ ap (λ past. site_line home past line.event ∷ past) e)
  by_test false q = (events, e)
past-more scenario home story command (AtCoordinator x) events d line e = (events, e)
past-more scenario home story command (Nowhere answer) events d line e = (events, e)

made-by : (scenario : Scenario) (home : Home) (commands : List Command) → home_of scenario home.site ≡ Some home → (events : List SiteEvent) × (past_of home.site (story_of scenario commands) ≡ site_past home events)
made-by scenario home [] d = ([], refl)
made-by scenario home (command ∷ commands) d =
    let (events, e) = made-by scenario home commands d in
    past-more scenario home (story_of scenario commands) command (happens scenario (story_of scenario commands) command) events d (line_is scenario (story_of scenario commands) command) e

-- in the story of any commands the past of a declared site is the one that some events make
pub pasts-made : PastsAreMadeByEvents
pasts-made scenario commands site home d = made-by scenario home commands (home-again scenario site home d)
