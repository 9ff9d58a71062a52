use Rattle.progress_laws.proofs.Finishes.{can_finish}
use Rattle.progress_laws.proofs.progress.every_session_can_finish.Goals as goal

pub returns : goal.returns
returns c =
    can_finish c.closed_sessions_rest.ensures c.closing_is_bounded.ensures c.finished_sessions_commit.ensures c.finishing_is_bounded.ensures
    c.ends_add_their_own.ensures.closing c.ends_add_their_own.ensures.finishing
