-- When a session is at rest: every actor is up, no trip is armed, and nothing is live, in doubt or known. And what closing does for it.
use Rattle.std.specs.Prelude.{◌≡◌, false, None, List, []}
use Rattle.mdb_base.specs.declared.names.SiteId.{SiteId}
use Rattle.fed_rules.specs.declared.commands.Command.{Command}
use Rattle.fed_rules.specs.declared.scenario.Scenario.{Scenario}
use Rattle.fed_rules.specs.Closing.{bring_up, clear, closed, disarm, end_known, give_up, live, in_doubt_at, known}
use Rattle.fed_rules.specs.CoordPast as Coordinator
use Rattle.fed_rules.specs.Happenings.{is_down}
use Rattle.fed_rules.specs.Plans.{IsScenario}
use Rattle.fed_rules.specs.Scenarios.{home_of}
use Rattle.fed_rules.specs.Sessions.{Session, fresh}
use Rattle.fed_rules.specs.SitePast.{trip}
use Rattle.fed_rules.specs.Story.{Story, coord_past, past_of, story_in, story_of}

-- every actor is up and no trip is armed; no attempt is live or in doubt at any site, and the coordinator knows none
pub record IsAtRest (scenario : Scenario) (story : Story) : Type 0 where
  pub coordinator_up : is_down (coord_past story) ≡ false
  pub coordinator_untripped : Coordinator.trip (coord_past story) ≡ None
  pub sites_up : (site : SiteId) → is_down (past_of site story) ≡ false
  pub sites_untripped : (site : SiteId) → trip (past_of site story) ≡ None
  pub none_live : (site : SiteId) → live scenario story site ≡ []
  pub none_in_doubt : (site : SiteId) → in_doubt_at (home_of scenario site) story ≡ []
  pub none_known : known scenario story ≡ []

-- every actor is up
pub record AllUp (story : Story) : Type 0 where
  pub coordinator : is_down (coord_past story) ≡ false
  pub sites : (site : SiteId) → is_down (past_of site story) ≡ false

-- so it is behind the actors that were down came back, behind those undecided were given up, behind the live ones ended, and behind the known ones
-- ended
pub record StaysUp (session : Session) (commands : List Command) : Type 0 where
  pub brought_up : AllUp (story_in session (bring_up session (disarm session commands)))
  pub given_up : AllUp (story_in session (give_up session (bring_up session (disarm session commands))))
  pub cleared : AllUp (story_in session (clear session (give_up session (bring_up session (disarm session commands)))))
  pub ended : AllUp (story_in session (end_known session (clear session (give_up session (bring_up session (disarm session commands))))))

-- whatever happened before, closing keeps every actor up from its second step on
abbrev pub ClosingStaysUp : Type 0
ClosingStaysUp = (scenario : Scenario) (commands : List Command) → IsScenario scenario → StaysUp (fresh scenario) commands

-- whatever happened before, a closed session is at rest
abbrev pub ClosedSessionsRest : Type 0
ClosedSessionsRest = (scenario : Scenario) (commands : List Command) → IsScenario scenario → IsAtRest scenario (story_of scenario (closed scenario commands))
