-- Closing a session, whether it began with empty disks or goes on from usable ones: that it keeps every actor up, brings the session to rest, and makes few
-- commands. Halts and trips may stand among the commands before.
use Rattle.std.specs.Prelude.{◌≡◌, ◌⊎◌, ◌+◌, ◌≤◌, List, length}
use Rattle.fed_rules.specs.declared.commands.Command.{Command}
use Rattle.fed_rules.specs.Closing.{closed_in}
use Rattle.fed_rules.specs.Plans.{IsScenario}
use Rattle.fed_rules.specs.Resumed.{going_on}
use Rattle.fed_rules.specs.Sessions.{Session, fresh}
use Rattle.fed_rules.specs.Story.{story_in}
use Rattle.closing_laws.specs.AtRest.{IsAtRest, StaysUp}
use Rattle.closing_laws.specs.Bound.{most_closing}
use Rattle.found_laws.specs.FoundSessions.{AreUsable}
use Rattle.found_laws.specs.Ranges.{AreInRange}

-- the session begins with empty disks
pub record IsFreshSession (session : Session) : Type 0 where
  pub is : session ≡ fresh session.plan
  pub whole : IsScenario session.plan

-- it goes on from what is found, which is usable, in records whose attempts lie in their range
pub record IsFoundSession (session : Session) : Type 0 where
  pub is : session ≡ going_on session.found
  pub usable : AreUsable session.found
  pub range : AreInRange session.found

-- one of both
abbrev pub IsSession : Session → Type 0
IsSession session = IsFreshSession session ⊎ IsFoundSession session

-- whatever happened before, closing keeps every actor up from its second step on
abbrev pub SessionsStayUp : Type 0
SessionsStayUp = (session : Session) → IsSession session → (commands : List Command) → StaysUp session commands

-- whatever happened before, a closed session is at rest
abbrev pub SessionsCloseAtRest : Type 0
SessionsCloseAtRest = (session : Session) → IsSession session → (commands : List Command) → IsAtRest session.plan (story_in session (closed_in session commands))

-- closing makes at most 1,638,418 commands, however many there are before it
abbrev pub SessionsCloseShortly : Type 0
SessionsCloseShortly =
    (session : Session) → IsSession session → (commands : List Command) → length (closed_in session commands) ≤ most_closing + length commands
