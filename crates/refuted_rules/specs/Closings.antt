-- Ways to close a session that look right and aren't: each leaves some session without rest.
use Rattle.std.specs.Prelude.{List}
use Rattle.fed_rules.specs.declared.commands.Command.{Command}
use Rattle.fed_rules.specs.declared.scenario.Scenario.{Scenario}
use Rattle.fed_rules.specs.Closing.{disarm, bring_up, give_up, clear, end_known, ask_all}
use Rattle.fed_rules.specs.Plans.{IsScenario}
use Rattle.fed_rules.specs.Sessions.{Session, fresh}
use Rattle.fed_rules.specs.Story.{story_of}
use Rattle.closing_laws.specs.AtRest.{IsAtRest}

-- of some session it leaves something that is down, armed, live, in doubt or known
pub record LeavesNoRest (close : Session → List Command → List Command) : Type 0 where
  pub scenario : Scenario
  pub good : IsScenario scenario
  pub commands : List Command  -- the last one first
  pub broken : IsAtRest scenario (story_of scenario (close (fresh scenario) commands)) → ⊥

-- no trip is disarmed
abbrev pub closed_without_disarming : Session → List Command → List Command
closed_without_disarming session commands =
    ask_all session (end_known session (clear session (give_up session (bring_up session commands))))

-- no live attempt is aborted or dropped
abbrev pub closed_without_clearing : Session → List Command → List Command
closed_without_clearing session commands =
    ask_all session (end_known session (give_up session (bring_up session (disarm session commands))))

-- no decision is sent again
abbrev pub closed_without_ending : Session → List Command → List Command
closed_without_ending session commands =
    ask_all session (clear session (give_up session (bring_up session (disarm session commands))))

-- no site asks about what it is in doubt of
abbrev pub closed_without_inquiries : Session → List Command → List Command
closed_without_inquiries session commands =
    end_known session (clear session (give_up session (bring_up session (disarm session commands))))

-- each site asks while some actors may still be down
abbrev pub closed_by_asking_first : Session → List Command → List Command
closed_by_asking_first session commands =
    end_known session (clear session (give_up session (bring_up session (ask_all session (disarm session commands)))))
