use Rattle.std.proofs.Common.{◌≡◌, ◌++◌, drop}
use Rattle.order_laws.specs.Least.{all_items}
use Rattle.session_report.proofs.reporting.members.Given as goal

abbrev pub invariant-loop-order : goal.invariant-loop-order
invariant-loop-order l = l.all.items ++ all_items (drop l.order-index l.orders) ≡ all_items l.orders
