use Rattle.order_laws.proofs.Merge.{merge_distinct}
use Rattle.order_laws.proofs.merge_laws.merge_is_once.Goals as goal

pub returns : goal.returns
returns g c = merge_distinct
