use Rattle.made_laws.proofs.MadeLine.{lines_fixed}
use Rattle.made_laws.proofs.made.made_lines_are_fixed.Goals as goal

pub returns : goal.returns
returns c = lines_fixed c.made_summaries_are_fixed.ensures c.unchecked_journals_are_whole.ensures.whole c.sites_journals_say_all.ensures.all
