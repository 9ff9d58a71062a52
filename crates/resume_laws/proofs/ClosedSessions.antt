-- How a session is closed, whether it began with empty disks or goes on from usable ones.
use Rattle.std.proofs.Common.{◌≤◌, ◌+◌, length, inl, inr, sym, subst}
use Rattle.fed_rules.specs.Closing.{closed_in}
use Rattle.fed_rules.specs.Resumed.{going_on}
use Rattle.fed_rules.specs.Story.{story_in}
use Rattle.closing_laws.specs.AtRest.{ClosedSessionsRest, ClosingStaysUp, IsAtRest, StaysUp}
use Rattle.closing_laws.specs.Bound.{ClosingIsShort, most_closing}
use Rattle.closing_laws.proofs.ForCallers.{session_short}
use Rattle.resume_laws.specs.Closed.{SessionsCloseAtRest, SessionsCloseShortly, SessionsStayUp}
use Rattle.resume_laws.proofs.FoundFew.{found_few}
use Rattle.resume_laws.proofs.FoundRests.{rests, stays_up}

pub all_stay_up : ClosingStaysUp → SessionsStayUp
all_stay_up fresh_up session (inl e) commands = subst (λ s. StaysUp s commands) (sym e.is) (fresh_up session.plan commands e.whole)
all_stay_up fresh_up session (inr g) commands = subst (λ s. StaysUp s commands) (sym g.is) (stays_up session.found g.usable commands)

pub all_close_at_rest : ClosedSessionsRest → SessionsCloseAtRest
all_close_at_rest fresh_rests session (inl e) commands =
    subst (λ s. IsAtRest s.plan (story_in s (closed_in s commands))) (sym e.is) (fresh_rests session.plan commands e.whole)
all_close_at_rest fresh_rests session (inr g) commands =
    subst (λ s. IsAtRest s.plan (story_in s (closed_in s commands))) (sym g.is) (rests session.found g.usable commands)

pub all_close_shortly : ClosingIsShort → SessionsCloseShortly
all_close_shortly fresh_short session (inl e) commands =
    subst (λ s. length (closed_in s commands) ≤ most_closing + length commands) (sym e.is) (fresh_short session.plan e.whole commands)
all_close_shortly fresh_short session (inr g) commands =
    subst (λ s. length (closed_in s commands) ≤ most_closing + length commands) (sym g.is)
    (session_short (going_on session.found) (found_few session.found g.usable g.range) commands)
