use Rattle.std.proofs.Common.{◌≡◌, ◌≤◌, drop, length}
use Rattle.std.specs.BTreeMap.{get}
use Rattle.mdb_base.specs.declared.names.Tid.{Tid}
use Rattle.fed_rules.specs.SiteRecords.{doubt_of}
use Rattle.fed_rules.specs.SiteSums.{carried}
use Rattle.mdb_base.specs.Names.{tid_cmp}
use Rattle.journal_sums.proofs.doubtful.first_doubtful.Given as goal

abbrev pub invariant-loop-left : goal.invariant-loop-left
invariant-loop-left l = record {
  within : l.left ≤ length l.doubtful;
  held : (tid : Tid) → get tid_cmp l.found tid ≡ doubt_of (carried (drop l.left l.doubtful)) tid;
}

abbrev pub decreases-loop-left : goal.decreases-loop-left
decreases-loop-left l = l.left
