use Rattle.order_laws.proofs.Least.{least_is_merge}
use Rattle.order_laws.proofs.Placed.{least_order_left}
use Rattle.order_laws.proofs.merge_laws.least_is_merge.Goals as goal

pub returns : goal.returns
returns g c same before law orders o h = least_is_merge same before law orders o (least_order_left same before law orders o h)
