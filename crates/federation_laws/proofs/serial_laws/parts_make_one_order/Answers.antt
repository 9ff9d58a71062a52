use Rattle.federation_laws.proofs.OneOrders.{one-order}
use Rattle.federation_laws.proofs.serial_laws.parts_make_one_order.Goals as goal

pub returns : goal.returns
returns c = one-order
