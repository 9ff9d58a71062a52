use Rattle.site_history.proofs.InOrderPasts.{comes_in_order}
use Rattle.site_history.proofs.OpenedSites.{found_in_order, found_says_all, found_tells_start}
use Rattle.site_history.proofs.SummedPasts as Pasts
use Rattle.site_history.proofs.sums.journals_say_all.Goals as goal

pub returns-clause-order : goal.returns-clause-order
returns-clause-order c = comes_in_order

pub returns-clause-all : goal.returns-clause-all
returns-clause-all c = Pasts.journals_say_all

pub returns-clause-start : goal.returns-clause-start
returns-clause-start c = Pasts.journals_tell_starts

pub returns-clause-found_order : goal.returns-clause-found_order
returns-clause-found_order c = found_in_order

pub returns-clause-found_all : goal.returns-clause-found_all
returns-clause-found_all c = found_says_all

pub returns-clause-found_start : goal.returns-clause-found_start
returns-clause-found_start c = found_tells_start
