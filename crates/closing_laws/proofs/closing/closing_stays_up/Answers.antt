use Rattle.closing_laws.proofs.Closed.{closing_up}
use Rattle.closing_laws.proofs.closing.closing_stays_up.Goals as goal

pub returns : goal.returns
returns c = closing_up c.stories_have_right_lines.ensures
