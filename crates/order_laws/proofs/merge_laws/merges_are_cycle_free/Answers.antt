use Rattle.order_laws.proofs.Merge.{merge_acyclic}
use Rattle.order_laws.proofs.merge_laws.merges_are_cycle_free.Goals as goal

pub returns : goal.returns
returns g c = merge_acyclic
