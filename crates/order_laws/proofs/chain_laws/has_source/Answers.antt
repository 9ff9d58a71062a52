use Rattle.order_laws.proofs.Source.{some_source}
use Rattle.order_laws.proofs.chain_laws.has_source.Goals as goal

pub returns : goal.returns
returns g c = some_source g.N.Node.edge
