use Rattle.std.proofs.Common.{◌≡◌, Option, take}
use Rattle.mdb_base.specs.declared.names.Tid.{Tid}
use Rattle.mdb_base.specs.declared.names.Tx.{Tx}
use Rattle.session_report.specs.Outcomes.{Gives, outcomes_by}
use Rattle.session_report.proofs.commits.outcomes.Given as goal

abbrev pub invariant-loop-tid : goal.invariant-loop-tid
invariant-loop-tid g l = (by : Tx → Option Tid) → Gives by (goal.F-post g l.committed) → l.outcomes.items ≡ outcomes_by by (take l.tid-index l.tids)
