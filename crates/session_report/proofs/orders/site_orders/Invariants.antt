use Rattle.std.proofs.Common.{◌≡◌, take}
use Rattle.std.specs.BTreeSet.{contains}
use Rattle.session_report.specs.Ranks.{orders_told}
use Rattle.mdb_base.specs.Names.{tid_cmp}
use Rattle.session_report.proofs.orders.site_orders.Given as goal

abbrev pub invariant-loop-one : goal.invariant-loop-one
invariant-loop-one l = l.orders.items ≡ orders_told (contains tid_cmp l.refused) (take l.one-index l.marks)
