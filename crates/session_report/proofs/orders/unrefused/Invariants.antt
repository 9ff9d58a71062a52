use Rattle.std.proofs.Common.{◌≡◌, take}
use Rattle.std.specs.BTreeSet.{contains}
use Rattle.session_report.specs.Ranks.{unrefused}
use Rattle.mdb_base.specs.Names.{tid_cmp}
use Rattle.session_report.proofs.orders.unrefused.Given as goal

abbrev pub invariant-loop-mark : goal.invariant-loop-mark
invariant-loop-mark l = l.kept.items ≡ unrefused (contains tid_cmp l.refused) (take l.mark-index l.marks)
