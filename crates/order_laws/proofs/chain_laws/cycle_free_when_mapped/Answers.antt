use Rattle.order_laws.proofs.Chains.{acyclic_map}
use Rattle.order_laws.proofs.chain_laws.cycle_free_when_mapped.Goals as goal

pub returns : goal.returns
returns g c = acyclic_map g.N.Node.edge g.M.Node.edge
