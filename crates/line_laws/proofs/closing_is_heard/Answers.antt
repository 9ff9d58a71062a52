use Rattle.line_laws.proofs.Heard.{closing_heard}
use Rattle.line_laws.proofs.closing_is_heard.Goals as goal

pub returns : goal.returns
returns c = closing_heard
