use Rattle.fed_rules.proofs.Lines.{line_is}
use Rattle.fed_rules.proofs.site_laws.each_line_is_asked_for.Goals as goal

pub returns : goal.returns
returns c = λ scenario story command. line_is scenario story command
