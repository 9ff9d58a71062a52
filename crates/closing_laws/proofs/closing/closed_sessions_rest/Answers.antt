use Rattle.closing_laws.proofs.Closed.{closed_rests}
use Rattle.closing_laws.proofs.closing.closed_sessions_rest.Goals as goal

pub returns : goal.returns
returns c = closed_rests c.stories_have_right_lines.ensures
