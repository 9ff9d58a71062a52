use Rattle.made_laws.proofs.MadeSummary.{made_fixed}
use Rattle.made_laws.proofs.made.made_summaries_are_fixed.Goals as goal

pub returns : goal.returns
returns c = made_fixed c.made_totals_stay.ensures c.commits_are_counted.ensures
