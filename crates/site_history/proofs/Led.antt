-- In every story the events of local transactions at a site are those that their commands ask for.
use Rattle.std.proofs.Common.{◌≡◌, nat_lt, length, Bool, true, false, cond, Some, List, [], ◌∷◌, refl, sym, ◌∙◌, ap, subst}
use Rattle.mdb_base.specs.Names.{same_site}
use Rattle.mdb_base.specs.Words.{item_at}
use Rattle.mdb_base.proofs.ForCallers.{same_site-equal, some_parts}
use Rattle.fed_rules.specs.declared.commands.Command.{Command}
use Rattle.fed_rules.specs.declared.commands.Command.TheVariants as Cmd
use Rattle.fed_rules.specs.declared.events.SiteEvent.{SiteEvent}
use Rattle.fed_rules.specs.declared.scenario.Scenario.{Scenario}
use Rattle.fed_rules.specs.Scenarios.{home_of, local_home, program_of}
use Rattle.fed_rules.specs.Site.{done}
use Rattle.fed_rules.specs.SiteRecords.{Home}
use Rattle.fed_rules.specs.Story.{Story, Happened, AtSite, AtCoordinator, Nowhere, past_of, story_of, with_site, happens, sent_to}
use Rattle.fed_rules.specs.Lines.{SiteCause, IsLine}
pub use Rattle.fed_rules.proofs.ForCallers.{home-again as home_again}
use Rattle.fed_rules.proofs.ForCallers.{line_is, live_is_of}
use Rattle.site_history.specs.Led.{IsAsked, IsLedLine, IsLed, Allows, AllAllow}

-- what happens at this site is its next line at an event that was asked for
abbrev IsLedAt : (SiteEvent → Type 0) → Scenario → Home → Story → Happened → Type 0
IsLedAt P scenario home story (AtSite at x) = same_site at home.site ≡ true → IsLedLine P scenario home (past_of home.site story) x
IsLedAt P scenario home story (AtCoordinator x) = Unit {0}
IsLedAt P scenario home story (Nowhere answer) = Unit {0}

-- what a command asks of a site is asked for there, and the fact holds of it
asked_by : (P : SiteEvent → Type 0) (scenario : Scenario) (home : Home) (story : Story) (event : SiteEvent) (command : Command) → Allows P story command → SiteCause scenario home story command event
    → P event × IsAsked scenario home (past_of home.site story) event
asked_by P scenario home story event command = by_command command
  where
    Holds : SiteEvent → Type 0
    Holds e = P e × IsAsked scenario home (past_of home.site story) e

    by_command : (command : Command) → Allows P story command → SiteCause scenario home story command event → Holds event
    by_command (Cmd.Begin tx) p c = subst Holds (sym c.asks.is) (p _, record { homed = c.here; next = refl; few = c.asks.few })
    by_command (Cmd.Step tx) p c =
        (let of = live_is_of home (past_of home.site story) tx c.asks.tid c.asks.is_live.found in
        subst Holds (sym c.asks.is) (
          p _ _,
          record { homed = ap (local_home scenario) of ∙ c.here; run = c.asks.run; live = c.asks.is_live.own; step = c.asks.step; at = ap (λ t. item_at (program_of scenario t) (done c.asks.run)) of ∙ c.asks.next; is = refl },
        ))
    by_command (Cmd.Commit tx) p c =
        (let of = live_is_of home (past_of home.site story) tx c.asks.tid c.asks.is_live.found in
        subst Holds (sym c.asks.is) (
          p _,
          record { homed = ap (local_home scenario) of ∙ c.here; run = c.asks.run; live = c.asks.is_live.own; all = ap (λ t. nat_lt (done c.asks.run) (length (program_of scenario t))) of ∙ c.asks.all },
        ))
    by_command (Cmd.Abort tx) p c =
        (let of = live_is_of home (past_of home.site story) tx c.asks.tid c.asks.is_live.found in
        subst Holds (sym c.asks.is) (p _, record { homed = ap (local_home scenario) of ∙ c.here; run = c.asks.run; live = c.asks.is_live.own }))
    by_command (Cmd.Fate tx) p c = subst Holds (sym c.asks) (p, tt)
    by_command (Cmd.Give site place) p c = (let sent = subst (λ s. item_at (sent_to s story) place ≡ Some c.1.message) (sym c.0) c.1.at in subst Holds (sym c.1.is) (p c.1.message sent, tt))
    by_command (Cmd.Ask site tid) p c = subst Holds (sym c.1) (p, tt)
    by_command (Cmd.Drop site tid) p c = subst Holds (sym c.1) (p, tt)
    by_command (Cmd.Halt actor cut) p c = subst Holds (sym c.1) (p, tt)
    by_command (Cmd.Trip actor calls cut) p c = subst Holds (sym c.1) (p, tt)
    by_command (Cmd.Back actor) p c = subst Holds (sym c.1) (p, tt)
    by_command (Cmd.Check actor) p c = subst Holds (sym c.1) (p, tt)
    by_command (Cmd.Go tx) p c = absurd c
    by_command (Cmd.Again tid) p c = absurd c
    by_command (Cmd.Late tid) p c = absurd c
    by_command (Cmd.Take site place) p c = absurd c

led_at : (P : SiteEvent → Type 0) (scenario : Scenario) (home : Home) (story : Story) (command : Command) (happened : Happened) → home_of scenario home.site ≡ Some home → Allows P story command
    → IsLine scenario story command happened → IsLedAt P scenario home story happened
led_at P scenario home story command (AtSite at x) d p line = λ same.
    let is : line.home ≡ home = some_parts (sym line.declared ∙ (ap (home_of scenario) (sym line.here ∙ same_site-equal at home.site same) ∙ d)) in
    let both = asked_by P scenario line.home story line.event command p line.cause in
    subst (λ h. IsLedLine P scenario h (past_of h.site story) x) is (record { event = line.event; holds = both.0; asked = both.1; line = line.is_next })
led_at P scenario home story command (AtCoordinator x) d p line = tt
led_at P scenario home story command (Nowhere answer) d p line = tt

-- the past of a site with what happens next
led_more : (P : SiteEvent → Type 0) (scenario : Scenario) (home : Home) (story : Story) (happened : Happened) → IsLedAt P scenario home story happened → IsLed P scenario home (past_of home.site story)
    → IsLed P scenario home (with_site home.site happened (past_of home.site story))
led_more P scenario home story (AtSite at x) g led = by_test (same_site at home.site) refl
  where
    by_test : (t : Bool) → same_site at home.site ≡ t → IsLed P scenario home (cond t (x ∷ past_of home.site story) (past_of home.site story))
    by_test true is = (g is, led)
    by_test false is = led
led_more P scenario home story (AtCoordinator x) g led = led
led_more P scenario home story (Nowhere answer) g led = led

-- so the past of a declared site is led in every story, and the fact holds of its events that holds of what the commands may make
pub pasts_led : (P : SiteEvent → Type 0) (scenario : Scenario) (home : Home) (commands : List Command) → home_of scenario home.site ≡ Some home → AllAllow P scenario commands → IsLed P scenario home (past_of home.site (story_of scenario commands))
pasts_led P scenario home [] d a = tt
pasts_led P scenario home (command ∷ commands) d a =
    led_more P scenario home (story_of scenario commands) (happens scenario (story_of scenario commands) command)
    (led_at P scenario home (story_of scenario commands) command (happens scenario (story_of scenario commands) command) d a.0 (line_is scenario (story_of scenario commands) command)) (pasts_led P scenario home commands d a.1)
