use Rattle.site_history.proofs.Whole.{goes_on_behind, goes_on_in_order}
use Rattle.site_history.proofs.sums.sums_go_on.Goals as goal

pub returns-clause-in_order : goal.returns-clause-in_order
returns-clause-in_order c = goes_on_in_order

pub returns-clause-behind : goal.returns-clause-behind
returns-clause-behind c = goes_on_behind
