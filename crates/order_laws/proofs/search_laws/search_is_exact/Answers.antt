use Rattle.order_laws.proofs.Search.{found, none_found}
use Rattle.order_laws.proofs.search_laws.search_is_exact.Goals as goal

pub returns-clause-found : goal.returns-clause-found
returns-clause-found g c edge nodes a b es e = let f = found edge nodes a b es e in (f.middle, f.among, f.walk)

pub returns-clause-none : goal.returns-clause-none
returns-clause-none g c = none_found
