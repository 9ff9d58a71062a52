use Rattle.order_laws.proofs.Orders.{ordered_acyclic}
use Rattle.order_laws.proofs.chain_laws.cycle_free_when_ordered.Goals as goal

pub returns : goal.returns
returns g c = ordered_acyclic g.N.Node.edge
