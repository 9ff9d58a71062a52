use Rattle.order_laws.proofs.Placed.{least_order_left, least_merge_placed}
use Rattle.order_laws.proofs.merge_laws.least_is_said_twice.Goals as goal

pub returns : goal.returns
returns g c same before law orders o = (least_order_left same before law orders o, least_merge_placed same before law orders o)
