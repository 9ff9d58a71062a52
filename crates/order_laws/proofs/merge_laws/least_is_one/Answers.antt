use Rattle.order_laws.proofs.Least.{least_merge_one}
use Rattle.order_laws.proofs.Placed.{least_order_left}
use Rattle.order_laws.proofs.merge_laws.least_is_one.Goals as goal

pub returns : goal.returns
returns g c same before law ranks orders o p h k =
    least_merge_one same before ranks orders o p (least_order_left same before law orders o h) (least_order_left same before law orders p k)
