use Rattle.site_book.proofs.InOrder.{none_running, orders_well, runs_well}
use Rattle.site_book.proofs.Ordered.{counts_well, remembers_well}
use Rattle.site_book.proofs.laws.the_book_knows_the_local_transactions.Goals as goal

pub returns-clause-counts : goal.returns-clause-counts
returns-clause-counts c = counts_well

pub returns-clause-remembers : goal.returns-clause-remembers
returns-clause-remembers c = remembers_well

pub returns-clause-orders : goal.returns-clause-orders
returns-clause-orders c = orders_well

pub returns-clause-none_running : goal.returns-clause-none_running
returns-clause-none_running c = none_running

pub returns-clause-runs : goal.returns-clause-runs
returns-clause-runs c = runs_well
