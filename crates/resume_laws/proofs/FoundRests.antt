-- A session that goes on from usable disks, whoever left them, keeps every actor up while it is closed, and ends at rest.
use Rattle.std.proofs.Common.{◌≡◌, Some, List, [], sym, subst}
use Rattle.fed_rules.specs.declared.commands.Command.{Command}
use Rattle.fed_rules.specs.Closing.{bring_up, closed_in, disarm}
use Rattle.fed_rules.specs.Found.{Found}
use Rattle.fed_rules.specs.Resumed.{going_on, plan_of}
use Rattle.fed_rules.specs.Scenarios.{home_of}
use Rattle.fed_rules.specs.Sessions.{Session}
use Rattle.fed_rules.specs.SiteRecords.{Home}
use Rattle.fed_rules.specs.Story.{past_of, story_in}
use Rattle.found_laws.specs.FoundSessions.{AreUsable}
use Rattle.found_laws.proofs.ForCallers.{fits, nobody_on, plan_sites, quiet, resumed_from}
use Rattle.closing_laws.specs.AtRest.{IsAtRest, StaysUp}
use Rattle.resume_laws.specs.Rests.{UsableSessionsRest}
use Rattle.resume_laws.proofs.Rest.{IsLifeless, closed_rests, closed_up}
use Rattle.resume_laws.proofs.SiteLives.{NobodyLives, lifeless_on}

module _ (found : Found) (u : AreUsable found) where
  abbrev session : Session
  session = going_on found

  pub lives_on : (commands : List Command) (home : Home) → home_of (plan_of found) home.site ≡ Some home → NobodyLives home (past_of home.site (story_in session commands))
  lives_on commands home declared =
      let r = resumed_from found u home declared commands in
      subst (NobodyLives home) (sym r.is) (lifeless_on home r.journal r.events r.resuming)

  lifeless : (commands : List Command) → IsLifeless session (bring_up session (disarm session commands))
  lifeless commands =
      let up = bring_up session (disarm session commands) in
      record { nobody = nobody_on found u up; lives = lives_on up }

  pub rests : (commands : List Command) → IsAtRest (plan_of found) (story_in session (closed_in session commands))
  rests commands = closed_rests session (fits found u) (plan_sites found u) commands (λ site more none. quiet found u site more none) (lifeless commands)

  pub stays_up : (commands : List Command) → StaysUp session commands
  stays_up commands = closed_up session (fits found u) (plan_sites found u) commands (λ site more none. quiet found u site more none) (lifeless commands)

pub sessions_rest : UsableSessionsRest
sessions_rest found usable = rests found usable []
