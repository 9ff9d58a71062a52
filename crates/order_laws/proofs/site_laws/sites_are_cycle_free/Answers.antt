use Rattle.order_laws.proofs.Sites.{sites_acyclic}
use Rattle.order_laws.proofs.site_laws.sites_are_cycle_free.Goals as goal

pub returns : goal.returns
returns g c order home = sites_acyclic order home g.N.Node.edge
