use Rattle.order_laws.proofs.Chains.{accepted}
use Rattle.order_laws.proofs.chain_laws.cycle_free_when_accepted.Goals as goal

pub returns : goal.returns
returns g c = accepted g.N.Node.edge
