use Rattle.order_laws.specs.Least.{least_merge}
use Rattle.order_laws.proofs.LeastFound.{merged_is_least}
use Rattle.order_laws.proofs.Placed.{least_merge_placed}
use Rattle.order_laws.proofs.merge_laws.least_is_found.Goals as goal

pub returns : goal.returns
returns g c same before law ranks orders none =
    least_merge_placed same before law orders (least_merge same before orders) (merged_is_least same before law ranks orders none)
